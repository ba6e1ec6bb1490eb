-- How long lookups took, by what threads have counted.
use Rattle.std.specs.Prelude.{◌≡◌, ℕ, ◌+◌, ◌-◌, ◌^◌, ◌/◌, min, nat_le, List, [], ◌∷◌, length, take, sum, get_or, map, Option, position, unwrap_or}
use Rattle.store_loops.specs.declared.commits.Bucket.{Bucket}
use Rattle.status_page.specs.declared.counts.LookupTimes.{LookupTimes}
use Rattle.status_server.specs.declared.lookup_times.TheConstants.{BOUNDS}

-- The first bound that is no less than a time. Both are in nanoseconds.
unfoldable pub first_bound : ℕ → Option ℕ
first_bound nanoseconds = position (λ bound. nat_le nanoseconds bound) BOUNDS

-- The place of a lookup among the counts: its first bound, or the place after them all.
unfoldable pub place_of : ℕ → ℕ
place_of nanoseconds = unwrap_or (first_bound nanoseconds) 12

-- All of some counts, at most 2^64 - 1.
unfoldable pub total_of : List ℕ → ℕ
total_of counts = min (sum counts) (2 ^ 64 - 1)

-- The bucket of a bound, which has the lookups of all counts up to the bound's place.
unfoldable pub bucket_of : List ℕ → ℕ → Bucket
bucket_of counts place = record { microseconds = get_or BOUNDS place 0 / 1000; count = total_of (take (place + 1) counts) }

-- The buckets of all bounds.
unfoldable pub buckets_of : List ℕ → List Bucket
buckets_of counts = map (bucket_of counts) (0 ∷ 1 ∷ 2 ∷ 3 ∷ 4 ∷ 5 ∷ 6 ∷ 7 ∷ 8 ∷ 9 ∷ 10 ∷ 11 ∷ [])

-- The times by the counts of all places, and by the nanoseconds of all lookups.
unfoldable pub times_of : List ℕ → ℕ → LookupTimes
times_of counts nanoseconds = record { buckets = buckets_of counts; count = total_of counts; microseconds = nanoseconds / 1000 }

-- The times are those of one list of counts, and of some nanoseconds.
pub record AreLookupTimes (times : LookupTimes) : Type 0 where
  pub counts : List ℕ
  pub each : length counts ≡ 13
  pub nanoseconds : ℕ
  pub are : times ≡ times_of counts nanoseconds
