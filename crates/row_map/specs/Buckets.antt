-- Buckets of keys, and lower bounds of the moments at which the rows of each expire.
use Rattle.std.specs.Prelude.{◌≡◌, ℕ, ◌+◌, ◌/◌, ◌%◌, ◌<◌, ◌≤◌, List, ◌∷◌, Bool, true, not, ◌&&◌, length, slice_index, replicate}
use Rattle.std.specs.Ordering.{nat_cmp, is_lt}
use Rattle.std.specs.Cmp.Lexicographic.{slice_cmp}
use Rattle.seg_check.specs.Expiry.{expiry_of}
use Rattle.row_map.specs.declared.expiry_bounds.ExpiryBounds.{ExpiryBounds}
use Rattle.row_map.specs.declared.expiry_bounds.TheConstants.{BUCKETS}
use Rattle.row_map.specs.Database.{RowView, key_of}

-- The number of buckets: a bucket is a type and the first two bytes of an id.
abbrev pub bucket_count : ℕ
bucket_count = BUCKETS

-- The least key of a bucket. A key of a type that no row has comes after the last bucket.
abbrev pub first_key : ℕ → List ℕ
first_key n = (n / 65536 + 1) ∷ (n / 256 % 256) ∷ (n % 256) ∷ replicate 30 0

-- A row's key is lower than this one.
abbrev pub is_before : List ℕ → RowView → Bool
is_before k row = is_lt (slice_cmp nat_cmp (key_of row) k)

-- A row is in one of the buckets from `low` up to the one before `high`.
abbrev pub is_among : ℕ → ℕ → RowView → Bool
is_among low high row = not (is_before (first_key low) row) && is_before (first_key high) row

-- A row of a bucket does not expire before the bucket's bound.
abbrev pub IsBounded : List ℕ → RowView → Type 0
IsBounded bounds row = (n : ℕ) → n < length bounds → is_among n (n + 1) row ≡ true → slice_index bounds n ≤ expiry_of row.1

-- A row does not expire before the bound of all rows, nor before that of its bucket.
pub record IsBoundedBy (bounds : ExpiryBounds) (row : RowView) : Type 0 where
  pub least : bounds.least ≤ expiry_of row.1
  pub bucket : IsBounded bounds.by_bucket.items row
