-- Rows that a cursor returns one after the other: the bytes that were pushed, the rows that were
-- returned, and the bytes that are left.
use Rattle.std.specs.Prelude.{◌≡◌, ℕ, ◌≤◌, ◌<◌, ◌⊎◌, Bool, true, false, List, ◌++◌, length, drop, Option, Some, None, Ok, Err}
use Rattle.std.specs.Option.{option_map}
use Rattle.std.specs.Ordering.{nat_cmp, is_lt}
use Rattle.std.specs.Cmp.Lexicographic.{slice_cmp}
use Rattle.byte_lists.specs.Content.{AreBytes}
use Rattle.byte_lists.specs.Numbers.{four_at}
use Rattle.seg_core.specs.Encoding.{IsSegment}
use Rattle.seg_core.specs.Message.{last_of}
use Rattle.row_map.specs.Database.{RowView, key_of, IsDatabase}
use Rattle.path_records.specs.declared.error.DbError.{DbError}
use Rattle.path_records.specs.declared.error.DbError.TheVariants.{BadRecord, Order}
use Rattle.path_records.specs.declared.key.Key.{Key}
use Rattle.path_records.specs.declared.row_cursor.RowCursor.TheInside.{Inside}
use Rattle.path_records.specs.Key.{key_bytes}
use Rattle.path_records.specs.RowRecord.{rows_encoding, has_row, row_size, row_decoding}

-- How far a cursor is.
pub record CursorView : Type 0 where
  -- The key of the last row that was returned.
  pub last : Option (List ℕ)
  -- The bytes after that row.
  pub rest : List ℕ

-- A cursor as contracts see it.
abbrev pub cursor_view : Inside → CursorView
cursor_view s = record { last = option_map key_bytes s.last; rest = drop s.at s.rest.items }

-- What holds for every cursor.
abbrev pub IsCursor : Inside → Type 0
IsCursor s = s.at ≤ length s.rest.items

-- What a cursor has returned.
pub record HasGiven (fed : List ℕ) (given : List RowView) (cursor : CursorView) : Type 0 where
  -- The rows that were returned are a database.
  pub database : IsDatabase given
  -- The cursor keeps the key of the last one.
  pub last : cursor.last ≡ option_map key_of (last_of given)
  -- The records of these rows and the bytes that are left are all bytes that were pushed.
  pub split : rows_encoding given ++ cursor.rest ≡ fed

-- There is no key, or the row's key is strictly above it.
abbrev pub is_above_bytes : Option (List ℕ) → RowView → Bool
is_above_bytes None row = true
is_above_bytes (Some k) row = is_lt (slice_cmp nat_cmp k (key_of row))

-- `is_above_bytes` for a key of the program.
abbrev pub is_above_key : Option Key → RowView → Bool
is_above_key last row = is_above_bytes (option_map key_bytes last) row

-- The length of a row is present, and is above that of any segment.
pub record IsRowTooLong (left : List ℕ) : Type 0 where
  pub there : 5 ≤ length left
  pub long : 16384 < four_at 1 left

-- The record at the front, which has at most 16,389 bytes, is not whole.
pub record IsRowCutShort (left : List ℕ) : Type 0 where
  pub none : has_row left ≡ false
  pub few : length left < 16389

-- A row is the next one after the key, and its record has `size` bytes.
pub record IsNextRow (left : List ℕ) (last : Option Key) (row : RowView) (size : ℕ) : Type 0 where
  -- The record of the row is whole.
  pub there : has_row left ≡ true
  -- It is read as the row.
  pub read : row_decoding left ≡ Ok row
  pub whole : IsSegment row.1
  -- The row's key is above the last one.
  pub above : is_above_key last row ≡ true
  -- The record has `size` bytes.
  pub sized : size ≡ row_size left
  pub within : size ≤ length left
  pub bytes : AreBytes left

-- A whole row has a key that is not above the last key.
pub record IsLowerRow (left : List ℕ) (last : Option Key) : Type 0 where
  pub row : RowView
  pub read : row_decoding left ≡ Ok row
  pub lower : is_above_key last row ≡ false

-- The bytes begin with no next row, whatever bytes come after them: the length is too large, or a
-- whole record is no row, or its key is not above the last one.
abbrev pub IsNoNextRow : List ℕ → Option Key → DbError → Type 0
IsNoNextRow left last e =
    ((e ≡ BadRecord) × IsRowTooLong left) ⊎ ((has_row left ≡ true) × ((row_decoding left ≡ Err e) ⊎ (IsLowerRow left last × (e ≡ Order))))
