-- Rows as contracts see them.
use Rattle.std.specs.Prelude.{◌≡◌, ℕ, ◌<◌, ◌≤◌, List, length, map}
use Rattle.std.specs.List.{HoldsAt}
use Rattle.std.specs.List.Sorted.{IsPartitionPoint}
use Rattle.std.specs.Ordering.{nat_cmp}
use Rattle.std.specs.Cmp.Lexicographic.{slice_cmp}
use Rattle.std.specs.declared.cmp.Ordering.TheVariants.{Less, Equal, Greater}
use Rattle.row_map.specs.declared.row.Row.{Row}
use Rattle.row_map.specs.Database.{RowView, key_of}

-- A row as contracts see it.
abbrev pub row_view : Row → RowView
row_view row = (row.kind, row.segment)

-- Rows as contracts see them.
abbrev pub row_views : List Row → List RowView
row_views rows = map row_view rows

-- The row at this index has the key.
abbrev pub IsIndexOfKey : List Row → List ℕ → ℕ → Type 0
IsIndexOfKey rows k at = (at < length rows) × HoldsAt (λ row. slice_cmp nat_cmp (key_of (row_view row)) k ≡ Equal) rows at

-- The index at which the key would be inserted: the keys before the index are lower, and the keys
-- from it on are greater.
abbrev pub IsGap : List Row → List ℕ → ℕ → Type 0
IsGap rows k at =
    (at ≤ length rows)
    × IsPartitionPoint (λ row. slice_cmp nat_cmp (key_of (row_view row)) k ≡ Less) (λ row. slice_cmp nat_cmp (key_of (row_view row)) k ≡ Greater) rows at
