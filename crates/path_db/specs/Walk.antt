-- The rows at a list of index keys.
use Rattle.std.specs.Prelude.{◌≡◌, ℕ, ◌+◌, ◌/◌, ◌%◌, ◌^◌, ◌<◌, List, [], ◌∷◌, ◌++◌, Bool, true, false, ◌==◌, Option, Some, None}
use Rattle.std.specs.List.{list_any}
use Rattle.std.specs.Borrow.{Bor}
use Rattle.std.specs.Option.{option_map, option_to_list}
use Rattle.isd_as.specs.IsdAs.{has_zero_part}
use Rattle.seg_core.specs.SegmentView.{SegmentView}
use Rattle.row_map.specs.IndexKey.{IndexKey, is_after_id}
use Rattle.row_map.specs.declared.end.End.TheVariants.{First, Last}
use Rattle.row_map.specs.declared.end.By.TheVariants.{OneEnd, BothEnds}
use Rattle.row_map.specs.EndKeys.{index_number, IsRowIndex}
use Rattle.path_db.specs.declared.ways.Indexes.{Indexes}
use Rattle.row_map.specs.Database.{RowView, row_under}
use Rattle.row_map.specs.RowMap.{indexed_key}
use Rattle.row_map.specs.Saved.{is_key}

-- A pattern that one ISD-AS alone matches.
pub record IsExact (pattern : ℕ) : Type 0 where
  -- Neither part of the pattern is 0.
  pub parts : has_zero_part pattern ≡ false
  -- The pattern is not the greatest number of 64 bits.
  pub next : pattern + 1 < 2 ^ 64

-- A pattern that every AS of one ISD matches, and no other.
pub record IsWildcard (pattern : ℕ) : Type 0 where
  -- The ISD is not 0.
  pub isd : (pattern / 2 ^ 48 == 0) ≡ false
  -- The AS is 0.
  pub asn : pattern % 2 ^ 48 ≡ 0
  -- The ISD is not the greatest one.
  pub next : pattern + 2 ^ 48 < 2 ^ 64

-- The rows at these index keys, in their order.
abbrev pub rows_at : List RowView → List IndexKey → List RowView
rows_at rows [] = []
rows_at rows (index_key ∷ index_keys) = option_to_list (row_under (indexed_key index_key) rows) ++ rows_at rows index_keys

-- The rows that these index keys have, in their order.
abbrev pub rows_in : List IndexKey → List RowView
rows_in [] = []
rows_in (index_key ∷ index_keys) = option_to_list index_key.row ++ rows_in index_keys

-- The segments of the references that are present.
abbrev pub segments_there : List (Option (Bor SegmentView)) → List SegmentView
segments_there [] = []
segments_there (segment ∷ segments) = option_to_list (option_map (λ s. s.now) segment) ++ segments_there segments

-- An index key's id is above this one, where an id is given.
abbrev pub is_past_id : Option (List ℕ) → IndexKey → Bool
is_past_id None index_key = true
is_past_id (Some id) index_key = is_after_id id index_key

-- One of the index keys is of this key.
abbrev pub has_key : List ℕ → List IndexKey → Bool
has_key k index_keys = list_any (λ q. is_key k (indexed_key q)) index_keys

-- Each of the rows that passes the test is at one of the index keys.
abbrev pub HasKeysOf : (RowView → Bool) → List RowView → List IndexKey → Type 0
HasKeysOf test rows index_keys = (k : List ℕ) (row : RowView) → row_under k rows ≡ Some row → test row ≡ true → has_key k index_keys ≡ true

-- The indexes have exactly the rows.
pub record AreIndexes (rows : List RowView) (indexes : Indexes) : Type 0 where
  pub first : IsRowIndex (index_number (OneEnd First)) rows indexes.by_first.now
  pub last : IsRowIndex (index_number (OneEnd Last)) rows indexes.by_last.now
  pub isds : IsRowIndex (index_number BothEnds) rows indexes.by_isds.now
