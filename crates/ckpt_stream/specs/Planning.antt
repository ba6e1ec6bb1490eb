-- Planning: the edits that are made for the rows that were seen.
use Rattle.std.specs.Prelude.{◌≡◌, ℕ, ◌+◌, ◌≤◌, List, [], ◌∷◌, ◌++◌, length, take, drop, map, Bool, true, false, Option, Some, None}
use Rattle.row_map.specs.Database.{RowView, rows_len}
use Rattle.row_map.specs.Drops.{is_valid_beyond}
use Rattle.path_records.specs.declared.key.Key.{Key}
use Rattle.path_records.specs.Key.{key_bytes}
use Rattle.path_records.specs.RowRecord.{rows_encoding}
use Rattle.ckpt_stream.specs.declared.plan.Edit.{Edit}
use Rattle.ckpt_stream.specs.Merging.{one_if, rows_left, merged}
use Rattle.ckpt_stream.specs.Found.{rows_found}
use Rattle.ckpt_stream.specs.Edits.{edited, bytes_in, puts_in, count_rows}

-- A row expires after a moment, where there is one.
abbrev pub is_beyond : Option ℕ → RowView → Bool
is_beyond None row = true
is_beyond (Some moment) row = is_valid_beyond moment row

-- Two lists of edits turn all bytes into the same bytes.
pub record SameEdits (before after : List Edit) : Type 0 where
  pub makes : (rows : List (Option RowView)) (bytes : List ℕ) → edited after rows bytes ≡ edited before rows bytes
  -- They read the same number of bytes, and put the same number of rows.
  pub bytes : bytes_in after ≡ bytes_in before
  pub puts : puts_in after ≡ puts_in before

-- The keys for which there is a `Put`.
abbrev pub keys_done : List Key → ℕ → List (List ℕ)
keys_done keys at = map key_bytes (take at keys)

-- The keys for which there is no `Put` yet.
abbrev pub keys_left : List Key → ℕ → List (List ℕ)
keys_left keys at = map key_bytes (drop at keys)

-- What is still to be merged, by what is left under keys, by the keys without a `Put`, and by the
-- rows to come.
abbrev pub StillToMerge : Type 0
StillToMerge = (List ℕ → Option RowView) → List (List ℕ) → List RowView → List RowView

-- What is still to be found, by the keys without a `Put`, and by the rows to come.
abbrev pub TailFound : Type 0
TailFound = List (List ℕ) → List RowView → List RowView

-- The edits so far are those of the rows seen, whatever is left under the keys and whatever rows
-- come next. `next` gives the rows after those seen, and `tail` and `found` what is still to be
-- merged and to be found.
pub record Makes (keys : List Key) (p : RowView → Bool) (seen : List RowView) (at : ℕ) (edits : List Edit) (kept : ℕ) (olds : List RowView)
    (next : List RowView → List RowView) (tail : StillToMerge) (found : TailFound) : Type 0 where
  -- The first `at` keys have a `Put` each.
  pub inside : at ≤ length keys
  pub puts : puts_in edits ≡ at
  -- The edits read exactly the records of the rows seen.
  pub bytes : bytes_in edits ≡ rows_len seen
  -- The edits write the first rows of the merge, and the tail is the rest of it.
  pub makes : (left : List ℕ → Option RowView) (rows : List RowView)
      → rows_encoding (merged left p (map key_bytes keys) (seen ++ next rows))
      ≡ edited edits (map left (keys_done keys at)) (rows_encoding seen) ++ rows_encoding (tail left (keys_left keys at) rows)
  -- `kept` counts the rows that are kept.
  pub counts : (left : List ℕ → Option RowView) (rows : List RowView)
      → length (merged left p (map key_bytes keys) (seen ++ next rows))
      ≡ kept + count_rows (map left (keys_done keys at)) + length (tail left (keys_left keys at) rows)
  -- `olds` are the rows seen that are under keys.
  pub finds : (rows : List RowView) → rows_found (map key_bytes keys) (seen ++ next rows) ≡ olds ++ found (keys_left keys at) rows

-- `Makes` after the rows seen.
abbrev pub IsPlanned : List Key → (RowView → Bool) → List RowView → ℕ → List Edit → ℕ → List RowView → Type 0
IsPlanned keys p seen at edits kept olds =
    Makes keys p seen at edits kept olds (λ rows. rows) (λ left ks rows. merged left p ks rows) (λ ks rows. rows_found ks rows)

-- `Makes` before the next row has an edit.
abbrev pub IsBeforeRowEdit : RowView → List Key → (RowView → Bool) → List RowView → ℕ → List Edit → ℕ → List RowView → Type 0
IsBeforeRowEdit row keys p seen at edits kept olds =
    Makes keys p seen at edits kept olds (λ rows. row ∷ rows) (λ left ks rows. merged left p ks (row ∷ rows)) (λ ks rows. rows_found ks (row ∷ rows))

-- Rows where a test fails, and no rows where it holds.
abbrev pub rows_unless : Bool → List RowView → List RowView
rows_unless true rows = []
rows_unless false rows = rows

-- Rows where a test holds, and no rows where it fails.
abbrev pub rows_when : Bool → List RowView → List RowView
rows_when true rows = rows
rows_when false rows = []

-- `Makes` before the next row has an edit, once the keys up to the row's have a `Put`. `found` is
-- whether the row's key is one of them.
abbrev pub IsAfterKeyPuts : Bool → RowView → List Key → (RowView → Bool) → List RowView → ℕ → List Edit → ℕ → List RowView → Type 0
IsAfterKeyPuts found row keys p seen at edits kept olds =
    Makes keys p seen at edits kept olds (λ rows. row ∷ rows)
    (λ left ks rows. rows_unless found (one_if p row) ++ merged left p ks rows) (λ ks rows. rows_when found (row ∷ []) ++ rows_found ks rows)

-- `Makes` after the last row.
abbrev pub IsEnding : List Key → (RowView → Bool) → List RowView → ℕ → List Edit → ℕ → List RowView → Type 0
IsEnding keys p seen at edits kept olds =
    Makes keys p seen at edits kept olds (λ rows. []) (λ left ks rows. rows_left left ks) (λ ks rows. [])

-- The edits are those of all rows, once each key has a `Put`.
pub record MakesAll (keys : List Key) (p : RowView → Bool) (seen : List RowView) (edits : List Edit) (kept : ℕ) (olds : List RowView) : Type 0 where
  -- Each key has a `Put`.
  pub puts : puts_in edits ≡ length keys
  -- The edits read exactly the records of the rows.
  pub bytes : bytes_in edits ≡ rows_len seen
  -- The edits write the merge of the rows, whatever is left under the keys.
  pub makes : (left : List ℕ → Option RowView) → edited edits (map left (map key_bytes keys)) (rows_encoding seen) ≡ rows_encoding (merged left p (map key_bytes keys) seen)
  -- `kept` counts the rows of the merge that are kept.
  pub counts : (left : List ℕ → Option RowView) → length (merged left p (map key_bytes keys) seen) ≡ kept + count_rows (map left (map key_bytes keys))
  -- `olds` are the rows under keys.
  pub finds : rows_found (map key_bytes keys) seen ≡ olds
