use Rattle.std.proofs.Common.{◌≡◌, ◌++◌, take, string_bytes}
use Rattle.std.specs.List.{flat_map}
use Rattle.status_page.specs.declared.lines.Kind.TheVariants.{Histogram}
use Rattle.status_page.specs.Lines.{heading}
use Rattle.status_page.specs.Histogram.{bucket_line}
use Rattle.status_page.proofs.histogram.bucket_lines.Given as goal

-- the heading, and the lines of the buckets so far
abbrev pub invariant-loop-bucket : goal.invariant-loop-bucket
invariant-loop-bucket l =
    string_bytes l.text
    ≡ heading l.name Histogram l.help ++ flat_map (bucket_line l.name) (take l.bucket-index l.buckets)
