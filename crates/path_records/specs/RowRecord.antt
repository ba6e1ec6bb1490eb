-- Rows as records, one after the other.
use Rattle.std.specs.Prelude.{◌≡◌, ℕ, zero, suc, ◌+◌, List, [], ◌∷◌, ◌++◌, length, drop, slice_index, Bool, true, nat_le, Option, Some, None, Result, Ok, Err, IsOk, if◌then◌else◌, false}
use Rattle.std.specs.List.{flat_map}
use Rattle.std.specs.Int.{w32, to_be_bytes}
use Rattle.std.specs.Ordering.{is_lt}
use Rattle.byte_lists.specs.Content.{part}
use Rattle.byte_lists.specs.Numbers.{four_at}
use Rattle.seg_core.specs.declared.error.SegError.{SegError}
use Rattle.seg_core.specs.SegmentView.{SegmentView}
use Rattle.seg_core.specs.Equality.{same_bytes}
use Rattle.seg_core.specs.Registration.{type_number, type_of}
use Rattle.seg_core.specs.Segment.{segment_decoding, segment_outline}
use Rattle.seg_core.specs.Encoding.{segment_encoding}
use Rattle.path_records.specs.declared.error.DbError.{DbError}
use Rattle.path_records.specs.declared.error.DbError.TheVariants.{BadRecord, Order}
use Rattle.row_map.specs.Database.{RowView, key_order}
use Rattle.path_records.specs.RecordSteps.{◌>>=◌, demand}

-- ---- writing

-- The record of a row: its type (1 byte), the length of its segment's encoding (4, big-endian), and
-- the encoding.
unfoldable pub row_record : RowView → List ℕ
row_record row = type_number row.0 ∷ (to_be_bytes w32 (length (segment_encoding row.1)) ++ segment_encoding row.1)

-- The records of rows, one after the other.
abbrev pub rows_encoding : List RowView → List ℕ
rows_encoding rows = flat_map row_record rows

-- ---- reading one

-- The length of the record at the front, by the length field of its segment.
abbrev pub row_size : List ℕ → ℕ
row_size bytes = 5 + four_at 1 bytes

-- The whole record at the front is present.
abbrev pub has_row : List ℕ → Bool
has_row bytes = if nat_le 5 (length bytes) then nat_le (row_size bytes) (length bytes) else false

-- The result of reading a message in a record: a message that is refused is refused with BadRecord.
abbrev pub record_of : {A : Type 0} → Result A SegError → Result A DbError
record_of (Ok x) = Ok x
record_of (Err e) = Err BadRecord

-- The segment of a message, which has to be the segment's one encoding.
unfoldable pub spelled_segment : List ℕ → Result SegmentView DbError
spelled_segment message = do
  segment ← record_of (segment_decoding message)
  _ ← demand (same_bytes message (segment_encoding segment)) BadRecord
  Ok segment

-- The row at the front.
unfoldable pub row_decoding : List ℕ → Result RowView DbError
row_decoding bytes = do
  _ ← demand (has_row bytes) BadRecord
  kind ← record_of (type_of (slice_index bytes 0))
  segment ← spelled_segment (part 5 (four_at 1 bytes) bytes)
  Ok (kind, segment)

-- Reading the record at the front takes memory.
pub record HasOutline (bytes : List ℕ) : Type 0 where
  -- The record is whole.
  pub there : has_row bytes ≡ true
  -- It has a type.
  pub kind : IsOk (type_of (slice_index bytes 0))
  -- Its segment has an outline.
  pub outline : IsOk (segment_outline (part 5 (four_at 1 bytes) bytes))

-- ---- reading all

-- The row is the first, or its key is strictly above that of the row before.
abbrev pub is_row_above : Option RowView → RowView → Bool
is_row_above None row = true
is_row_above (Some before) row = is_lt (key_order before row)

-- The rows of all bytes after a row, where `most` is at least the number of rows.
unfoldable pub rows_within : ℕ → Option RowView → List ℕ → Result (List RowView) DbError
rows_within zero before bytes = Ok []
rows_within (suc most) before [] = Ok []
rows_within (suc most) before (b ∷ bytes) = do
  row ← row_decoding (b ∷ bytes)
  _ ← demand (is_row_above before row) Order
  rows ← rows_within most (Some row) (drop (row_size (b ∷ bytes)) (b ∷ bytes))
  Ok (row ∷ rows)

-- The rows of all bytes, with strictly rising keys.
unfoldable pub rows_decoding : List ℕ → Result (List RowView) DbError
rows_decoding bytes = rows_within (length bytes) None bytes
