-- Commands as records.
use Rattle.std.specs.Prelude.{◌≡◌, ℕ, zero, suc, ◌+◌, ◌*◌, ◌≤◌, List, [], ◌∷◌, length, drop, slice_index, Bool, ◌==◌, nat_le, if◌then◌else◌, Result, Ok, Err}
use Rattle.std.specs.List.{sum_by}
use Rattle.std.specs.Int.{w64, to_be_bytes}
use Rattle.byte_lists.specs.Numbers.{eight_at}
use Rattle.seg_core.specs.declared.format.TheConstants.{MOST_REGISTERED, MOST_REGISTERED_BYTES}
use Rattle.seg_core.specs.Registration.{type_number, type_of}
use Rattle.seg_core.specs.Encoding.{segment_encoding}
use Rattle.path_db.specs.declared.command.Command.{Command}
use Rattle.path_db.specs.declared.command.Command.TheVariants.{Register, Purge, Remove}
use Rattle.path_records.specs.declared.error.DbError.{DbError}
use Rattle.path_records.specs.declared.error.DbError.TheVariants.{BadRecord}
use Rattle.row_map.specs.Database.{RowView}
use Rattle.path_records.specs.RecordSteps.{◌>>=◌, demand}
use Rattle.path_records.specs.RowRecord.{rows_encoding, row_decoding, row_size, record_of, HasOutline}

-- The number of bytes of the segments' encodings alone.
abbrev pub segments_len : List RowView → ℕ
segments_len rows = sum_by (λ row. length (segment_encoding row.1)) rows

-- A command is within its limits: at most 16 segments, of at most 131,072 bytes together.
abbrev pub IsWithinLimits : Command → Type 0
IsWithinLimits (Register rows) = (length rows ≤ MOST_REGISTERED) × (segments_len rows ≤ MOST_REGISTERED_BYTES)
IsWithinLimits (Purge moment) = Unit {0}
IsWithinLimits (Remove kind id) = Unit {0}

-- The record of a command. It begins with the kind (1 byte). A registration has a count (1) after
-- it and the records of the rows, a purge a moment (8), and a removal a type (1) and an id (32).
-- Numbers are big-endian.
unfoldable pub command_encoding : Command → List ℕ
command_encoding (Register rows) = 1 ∷ length rows ∷ rows_encoding rows
command_encoding (Purge moment) = 2 ∷ to_be_bytes w64 moment
command_encoding (Remove kind id) = 3 ∷ type_number kind ∷ id

-- Rows of this number in any order, whose records are all of the bytes.
unfoldable pub items_decoding : ℕ → List ℕ → Result (List RowView) DbError
items_decoding zero [] = Ok []
items_decoding zero (b ∷ bytes) = Err BadRecord
items_decoding (suc count) bytes = do
  row ← row_decoding bytes
  rows ← items_decoding count (drop (row_size bytes) bytes)
  Ok (row ∷ rows)

-- The command of a registration: a count of at most 16, and rows of this number. Each row takes
-- five bytes beside its segment's, which are at most 131,072 together.
unfoldable pub registration_record_decoding : List ℕ → Result Command DbError
registration_record_decoding [] = Err BadRecord
registration_record_decoding (count ∷ items) = do
  _ ← demand (nat_le count MOST_REGISTERED) BadRecord
  _ ← demand (nat_le (length items) (MOST_REGISTERED_BYTES + 5 * count)) BadRecord
  rows ← items_decoding count items
  Ok (Register rows)

-- The command of a purge: a moment.
unfoldable pub purge_decoding : List ℕ → Result Command DbError
purge_decoding body = do
  _ ← demand (length body == 8) BadRecord
  Ok (Purge (eight_at 0 body))

-- The command of a removal: a type and an id.
unfoldable pub removal_decoding : List ℕ → Result Command DbError
removal_decoding [] = Err BadRecord
removal_decoding (kind ∷ id) = do
  kind ← record_of (type_of kind)
  _ ← demand (length id == 32) BadRecord
  Ok (Remove kind id)

-- The command whose record these bytes are. A removal is read only where removals are allowed.
unfoldable pub command_decoding : Bool → List ℕ → Result Command DbError
command_decoding removals [] = Err BadRecord
command_decoding removals (kind ∷ body) =
    if kind == 1 then registration_record_decoding body
    else if kind == 2 then purge_decoding body
    else if kind == 3 then (if removals then removal_decoding body else Err BadRecord)
    else Err BadRecord

-- Reading a registration takes memory.
pub record WantsItems (body : List ℕ) : Type 0 where
  -- It has 1 to 16 segments.
  pub some : 1 ≤ slice_index body 0
  pub most : slice_index body 0 ≤ MOST_REGISTERED
  -- It has no more bytes than the limit.
  pub short : length (drop 1 body) ≤ MOST_REGISTERED_BYTES + 5 * slice_index body 0
  -- Its first segment has an outline.
  pub outline : HasOutline (drop 1 body)

-- Reading a command takes memory: it is a registration of which `WantsItems` holds.
abbrev pub CommandWantsMemory : List ℕ → Type 0
CommandWantsMemory bytes = (slice_index bytes 0 ≡ 1) × WantsItems (drop 1 bytes)
