-- The walks of a purge over the buckets, and over the rows of a bucket.
use Rattle.std.specs.Prelude.{◌≡◌, ◌≤◌, ℕ, List, Bool, true, false, Some}
use Rattle.std.specs.List.{AllByRecursion}
use Rattle.seg_check.specs.Expiry.{expiry_of}
use Rattle.row_map.specs.declared.row_key.RowKey.{RowKey}
use Rattle.row_map.specs.declared.bucket_walk.BucketWalk.{BucketWalk}
use Rattle.row_map.specs.declared.purge_walk.PurgeWalk.{PurgeWalk}
use Rattle.row_map.specs.Database.{RowView, row_under}
use Rattle.row_map.specs.Drops.{is_valid_beyond}
use Rattle.row_map.specs.RowMap.{bytes_of}
use Rattle.row_map.specs.Buckets.{first_key, is_before, is_among}

-- A row's key is lower than this one.
abbrev pub is_below : RowKey → RowView → Bool
is_below from row = is_before (bytes_of from) row

-- A row expires after the moment, and not before the bound.
abbrev pub Outlasts : ℕ → ℕ → RowView → Type 0
Outlasts moment least row = (is_valid_beyond moment row ≡ true) × (least ≤ expiry_of row.1)

-- A row outlasts a walk over rows, if it is in one of the walk's buckets.
abbrev pub OutlastsAmong : PurgeWalk → RowView → Type 0
OutlastsAmong walk row = is_among walk.low walk.high row ≡ true → Outlasts walk.moment walk.least row

-- All rows of the walk's buckets expire after its moment, and none before the least expiry that the
-- walk found.
abbrev pub AllOutlast : PurgeWalk → List RowView → Type 0
AllOutlast walk rows = AllByRecursion (OutlastsAmong walk) rows

-- The same holds for the rows under keys lower than the one from which the walk goes on.
abbrev pub HasPassed : PurgeWalk → List RowView → Type 0
HasPassed walk rows = AllByRecursion (λ row. is_below walk.from row ≡ true → OutlastsAmong walk row) rows

-- A row outlasts a walk over buckets, if it is in a lower bucket than the one from which the walk
-- goes on.
abbrev pub OutlastsBefore : BucketWalk → RowView → Type 0
OutlastsBefore walk row = is_before (first_key walk.bucket) row ≡ true → Outlasts walk.moment walk.least row

-- All rows of the buckets that a walk has passed outlast it.
abbrev pub HasPassedBuckets : BucketWalk → List RowView → Type 0
HasPassedBuckets walk rows = AllByRecursion (OutlastsBefore walk) rows

-- A row is under the key, and it expires at the moment or before.
abbrev pub IsExpiredUnder : ℕ → List ℕ → List RowView → Type 0
IsExpiredUnder moment k rows = (row : RowView) × (row_under k rows ≡ Some row) × (is_valid_beyond moment row ≡ false)
