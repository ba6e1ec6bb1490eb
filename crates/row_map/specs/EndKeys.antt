-- The rows by the ISD-AS at one of their ends, or by the ISDs at both.
use Rattle.std.specs.Prelude.{◌≡◌, ◌⊎◌, ℕ, ◌+◌, ◌*◌, ◌/◌, ◌^◌, List, [], ◌∷◌, Bool, true, false, not, ◌==◌, ◌&&◌, Option, Some, None}
use Rattle.std.specs.List.{AllByRecursion}
use Rattle.std.specs.Option.{option_map, IsSome}
use Rattle.seg_core.specs.SegmentView.{EntryView}
use Rattle.seg_core.specs.Message.{last_of}
use Rattle.row_map.specs.IndexKey.{IndexKey, is_same, has, AreKnown}
use Rattle.row_map.specs.declared.end.End.{End}
use Rattle.row_map.specs.declared.end.End.TheVariants.{First, Last}
use Rattle.row_map.specs.declared.end.By.{By}
use Rattle.row_map.specs.declared.end.By.TheVariants.{OneEnd, BothEnds}
use Rattle.row_map.specs.Database.{RowView, is_under, row_under}
use Rattle.row_map.specs.Ends.{first_entry_of}
use Rattle.row_map.specs.RowMap.{indexed_key}
use Rattle.row_map.specs.Saved.{Stood}

-- The entry at an end of a path.
abbrev pub entry_at_end : End → List EntryView → Option EntryView
entry_at_end First entries = first_entry_of entries
entry_at_end Last entries = last_of entries

-- The ISDs of two ISD-ASes, the first one's in the upper 16 of 32 bits.
abbrev pub isds_number : ℕ → ℕ → ℕ
isds_number first last = first / 2 ^ 48 * 2 ^ 16 + last / 2 ^ 48

-- The ISDs of two entries, where both are present.
abbrev pub isds_of : Option EntryView → Option EntryView → Option ℕ
isds_of (Some first) (Some last) = Some (isds_number first.ia last.ia)
isds_of (Some first) None = None
isds_of None last = None

-- The number by which an index has a path.
abbrev pub index_number : By → List EntryView → Option ℕ
index_number (OneEnd end) entries = option_map (λ e. e.ia) (entry_at_end end entries)
index_number BothEnds entries = isds_of (first_entry_of entries) (last_of entries)

-- There is a number, and it is this one.
abbrev pub is_of : Option ℕ → ℕ → Bool
is_of None number = false
is_of (Some n) number = n == number

-- An index key is that of a row.
abbrev pub is_index_key : (List EntryView → Option ℕ) → IndexKey → RowView → Bool
is_index_key end index_key row = is_under (indexed_key index_key) row && is_of (end row.1.entries) index_key.isd_as

-- A row is present, and it has this number.
abbrev pub ends_at : (List EntryView → Option ℕ) → ℕ → Option RowView → Bool
ends_at end number None = false
ends_at end number (Some row) = is_of (end row.1.entries) number

-- An index key is that of one of the rows.
abbrev pub stands : (List EntryView → Option ℕ) → List RowView → IndexKey → Bool
stands end rows index_key = ends_at end index_key.isd_as (row_under (indexed_key index_key) rows)

-- All index keys of a row are in this list.
abbrev pub IsTouched : (List EntryView → Option ℕ) → List IndexKey → RowView → Type 0
IsTouched end index_keys row = (q : IndexKey) → is_index_key end q row ≡ true → has index_keys q ≡ true

-- Two rows have the same number.
abbrev pub EndAlike : (List EntryView → Option ℕ) → RowView → RowView → Type 0
EndAlike end new old = (number : ℕ) × (is_of (end new.1.entries) number ≡ true) × (is_of (end old.1.entries) number ≡ true)

-- A row is present, and another one has the same number.
abbrev pub IsAlike : (List EntryView → Option ℕ) → RowView → Option RowView → Type 0
IsAlike end new stood = (r : RowView) × (stood ≡ Some r) × EndAlike end new r

-- The list has all index keys that a put changes: those of the new row, and those of the row that was
-- under its key.
abbrev pub IsSeenTo : (List EntryView → Option ℕ) → List IndexKey → RowView → Option RowView → Type 0
IsSeenTo end index_keys new stood = IsTouched end index_keys new × ((r : RowView) → stood ≡ Some r → IsTouched end index_keys r)

-- `IsSeenTo` holds for each new row and the row that was under its key.
abbrev pub AreSeenTo : (List EntryView → Option ℕ) → List IndexKey → List RowView → List Stood → Type 0
AreSeenTo end index_keys [] [] = Unit {0}
AreSeenTo end index_keys (row ∷ rows) (stood ∷ saved) = IsSeenTo end index_keys row stood.1 × AreSeenTo end index_keys rows saved
AreSeenTo end index_keys [] (stood ∷ saved) = ⊥
AreSeenTo end index_keys (row ∷ rows) [] = ⊥

-- The index keys are exactly those of the rows.
abbrev pub IsEndIndex : (List EntryView → Option ℕ) → List RowView → List IndexKey → Type 0
IsEndIndex end rows index_keys = (q : IndexKey) → has index_keys q ≡ stands end rows q

-- The row that is under an index key.
abbrev pub row_of_key : List RowView → IndexKey → Option RowView
row_of_key rows q = row_under (indexed_key q) rows

-- An index key has the row that is under it.
abbrev pub IsCurrent : List RowView → IndexKey → Type 0
IsCurrent rows q = q.row ≡ row_of_key rows q

-- An index has exactly the index keys of the rows, each with its row.
pub record IsRowIndex (end : List EntryView → Option ℕ) (rows : List RowView) (index_keys : List IndexKey) : Type 0 where
  pub keys : IsEndIndex end rows index_keys
  pub current : AllByRecursion (IsCurrent rows) index_keys

-- An index key is that of a row, and has it.
abbrev pub IsRowOf : (List EntryView → Option ℕ) → IndexKey → RowView → Type 0
IsRowOf end q row = (is_index_key end q row ≡ true) × (q.row ≡ Some row)

-- An index key has a row.
abbrev pub HasRow : IndexKey → Type 0
HasRow q = IsSome q.row

-- An index has the index keys of the rows, and perhaps some of the touched ones. Those that are not
-- touched have their rows.
pub record IsCovered (end : List EntryView → Option ℕ) (rows : List RowView) (touched index_keys : List IndexKey) : Type 0 where
  -- No index key of a row is missing.
  pub kept : (q : IndexKey) → stands end rows q ≡ true → has index_keys q ≡ true
  -- Each other index key is a touched one.
  pub within : (q : IndexKey) → has index_keys q ≡ true → (stands end rows q ≡ true) ⊎ (has touched q ≡ true)
  -- Each index key that is not touched has its row.
  pub current : AreKnown (has touched) (row_of_key rows) index_keys

-- An index has grown by touched index keys at most.
pub record IsIndexGrown (touched before after : List IndexKey) : Type 0 where
  -- No index key was removed.
  pub kept : (q : IndexKey) → has before q ≡ true → has after q ≡ true
  -- Each new index key is a touched one.
  pub within : (q : IndexKey) → has after q ≡ true → (has before q ≡ true) ⊎ (has touched q ≡ true)
  -- What is known of the rows is still known, but for those at touched index keys.
  pub rows : (known : IndexKey → Bool) (row : IndexKey → Option RowView) → ((q : IndexKey) → has touched q ≡ true → known q ≡ true) → AreKnown known row before → AreKnown known row after

-- All touched index keys are in the index.
abbrev pub HasAll : List IndexKey → List IndexKey → Type 0
HasAll touched index_keys = (q : IndexKey) → has touched q ≡ true → has index_keys q ≡ true

-- A row was removed from an index at its index key.
pub record IsTakenOut (end : List EntryView → Option ℕ) (row : RowView) (before after : List IndexKey) : Type 0 where
  pub index_key : IndexKey
  -- It is the row's.
  pub its : is_index_key end index_key row ≡ true
  -- The index has the others.
  pub gone : (q : IndexKey) → has after q ≡ (not (is_same q index_key) && has before q)
  -- What is known of the rows is still known.
  pub rows : (known : IndexKey → Bool) (row : IndexKey → Option RowView) → AreKnown known row before → AreKnown (λ q. known q && not (is_same q index_key)) row after
