-- How long something took, as lines of a page.
use Rattle.std.specs.Prelude.{ℕ, List, ◌++◌, codes}
use Rattle.std.specs.List.{flat_map}
use Rattle.store_loops.specs.declared.commits.Bucket.{Bucket}
use Rattle.status_page.specs.declared.lines.Kind.TheVariants.{Histogram}
use Rattle.status_page.specs.declared.lines.Value.TheVariants.{Number, Time}
use Rattle.status_page.specs.Lines.{heading, seconds, sample, labelled}

-- The label of a bucket, with the most seconds of what the bucket counts.
unfoldable pub bucket_label : ℕ → List ℕ
bucket_label microseconds = codes "le=\"" ++ (seconds microseconds ++ codes "\"")

-- The name of a histogram's buckets.
unfoldable pub bucket_name : List ℕ → List ℕ
bucket_name name = name ++ codes "_bucket"

-- The line of a bucket.
unfoldable pub bucket_line : List ℕ → Bucket → List ℕ
bucket_line name bucket = labelled (bucket_name name) (bucket_label bucket.microseconds) (Number bucket.count)

-- The lines of the metric's type and of its buckets, but for the last one.
unfoldable pub bucket_lines : List ℕ → List ℕ → List Bucket → List ℕ
bucket_lines name help counted = heading name Histogram help ++ flat_map (bucket_line name) counted

-- The lines of the number of all, and of the time that they took.
unfoldable pub histogram_sums : List ℕ → ℕ → ℕ → List ℕ
histogram_sums name count microseconds =
    labelled (bucket_name name) (codes "le=\"+Inf\"") (Number count)
    ++ (sample (name ++ codes "_sum") (Time microseconds) ++ sample (name ++ codes "_count") (Number count))

-- The lines of a histogram, by its buckets, the number of all, and the time that they took.
unfoldable pub histogram : List ℕ → List ℕ → List Bucket → ℕ → ℕ → List ℕ
histogram name help counted count microseconds = bucket_lines name help counted ++ histogram_sums name count microseconds
