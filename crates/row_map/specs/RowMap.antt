-- The rows of a map by their keys.
use Rattle.std.specs.Prelude.{◌≡◌, ℕ, ◌≤◌, List, ◌∷◌, if◌then◌else◌, Option, Some, None}
use Rattle.std.specs.List.{AllByRecursion}
use Rattle.std.specs.Map.{values_of}
use Rattle.seg_check.specs.Expiry.{expiry_of}
use Rattle.row_map.specs.IndexKey.{IndexKey}
use Rattle.row_map.specs.declared.row.Row.{Row}
use Rattle.row_map.specs.declared.row_key.RowKey.{RowKey}
use Rattle.row_map.specs.declared.expiry_bounds.ExpiryBounds.{ExpiryBounds}
use Rattle.row_map.specs.declared.type_counts.TypeCounts.{TypeCounts}
use Rattle.row_map.specs.Database.{RowView, key_of, IsRising, is_under, row_under, row_len}
use Rattle.row_map.specs.Row.{row_view, row_views}
use Rattle.row_map.specs.Buckets.{IsBoundedBy}
use Rattle.row_map.specs.TypeCounts.{AreCounted}

-- The bytes of a key.
abbrev pub bytes_of : RowKey → List ℕ
bytes_of k = k.kind ∷ k.id

-- The rows of the entries of a map.
abbrev pub views_of : List (RowKey × Row) → List RowView
views_of entries = row_views (values_of entries)

-- Each row is under its own key.
abbrev pub AreUnderTheirKeys : List (RowKey × Row) → Type 0
AreUnderTheirKeys entries = AllByRecursion (λ entry. bytes_of entry.0 ≡ key_of (row_view entry.1)) entries

-- No row expires before the bound.
abbrev pub NoneExpiresBefore : ℕ → List RowView → Type 0
NoneExpiresBefore least rows = AllByRecursion (λ row. least ≤ expiry_of row.1) rows

-- The entries of a map of rows, the numbers of rows of each type, and lower bounds of the moments at
-- which the rows expire.
pub record IsRowMap (entries : List (RowKey × Row)) (counts : TypeCounts) (bounds : ExpiryBounds) : Type 0 where
  -- Each row is under its own key.
  pub own : AreUnderTheirKeys entries
  -- The keys rise.
  pub rising : IsRising (views_of entries)
  -- The rows of each type are counted.
  pub counted : AreCounted counts (views_of entries)
  -- No row expires before its bounds.
  pub bounded : AllByRecursion (IsBoundedBy bounds) (views_of entries)

-- After a put, the row is under its key, and the row under each other key is the one before.
abbrev pub HasRowPut : List RowView → RowView → List RowView → Type 0
HasRowPut old row new = (k : List ℕ) → row_under k new ≡ (if is_under k row then Some row else row_under k old)

-- The key of the row at an index key.
abbrev pub indexed_key : IndexKey → List ℕ
indexed_key index_key = index_key.kind ∷ index_key.id

-- The number that belongs to a row, 0 where there is no row.
abbrev pub number_if_any : (RowView → ℕ) → Option RowView → ℕ
number_if_any of None = 0
number_if_any of (Some row) = of row

-- The number of bytes of a row's record, 0 where there is no row.
abbrev pub len_if_any : Option RowView → ℕ
len_if_any found = number_if_any row_len found
