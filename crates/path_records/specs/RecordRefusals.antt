-- When rows and commands are refused, and with which error.
use Rattle.std.specs.Prelude.{◌≡◌, ◌≢◌, ◌↔◌, ℕ, ◌<◌, List, ◌++◌, length, Bool, false, Err}
use Rattle.byte_lists.specs.Content.{AreBytes}
use Rattle.seg_core.specs.Encoding.{IsSegment}
use Rattle.seg_core.specs.Message.{last_of}
use Rattle.path_db.specs.declared.command.Command.{Command}
use Rattle.path_records.specs.declared.error.DbError.{DbError}
use Rattle.path_records.specs.declared.error.DbError.TheVariants.{NoMemory, BadRecord, Order}
use Rattle.row_map.specs.Database.{RowView, IsDatabase}
use Rattle.path_records.specs.RowRecord.{row_record, rows_encoding, is_row_above, rows_decoding}
use Rattle.path_records.specs.CommandRecord.{command_encoding, command_decoding}
use Rattle.path_records.specs.RecordLaws.{HasCommandRecord}

-- After the records of a database, perhaps an empty one, there are bytes that begin with no row's
-- record.
pub record HasNoRecord (bytes : List ℕ) : Type 0 where
  pub rows : List RowView
  pub rest : List ℕ
  pub database : IsDatabase rows
  pub split : bytes ≡ rows_encoding rows ++ rest
  pub some : 0 < length rest
  pub none : (row : RowView) (after : List ℕ) → IsSegment row.1 → rest ≢ row_record row ++ after

-- After the records of a database there is the record of a row whose key is not above the last
-- one's.
pub record HasLowerRow (bytes : List ℕ) : Type 0 where
  pub rows : List RowView
  pub row : RowView
  pub rest : List ℕ
  pub database : IsDatabase rows
  pub split : bytes ≡ rows_encoding rows ++ (row_record row ++ rest)
  pub whole : IsSegment row.1
  pub lower : is_row_above (last_of rows) row ≡ false

-- Bytes are refused as rows with BadRecord exactly where, after the records of a database, they
-- begin with no row's record.
abbrev pub BadRecordIsExact : Type 0
BadRecordIsExact = (bytes : List ℕ) → AreBytes bytes → (rows_decoding bytes ≡ Err BadRecord) ↔ HasNoRecord bytes

-- Bytes are refused as rows with Order exactly where, after the records of a database, there is the
-- record of a lower row.
abbrev pub OrderIsExact : Type 0
OrderIsExact = (bytes : List ℕ) → AreBytes bytes → (rows_decoding bytes ≡ Err Order) ↔ HasLowerRow bytes

-- No bytes are refused with NoMemory by the definition.
abbrev pub RowsWantNoMemory : Type 0
RowsWantNoMemory = (bytes : List ℕ) → AreBytes bytes → rows_decoding bytes ≢ Err NoMemory

-- Bytes are refused as a command exactly where they are the record of no command that can be
-- written.
abbrev pub CommandRefusalIsExact : Type 0
CommandRefusalIsExact =
    (removals : Bool) (bytes : List ℕ) → AreBytes bytes
    → (command_decoding removals bytes ≡ Err BadRecord) ↔ ((command : Command) → HasCommandRecord removals command → command_encoding command ≢ bytes)

-- All commands that are refused are refused with the same error.
abbrev pub CommandsHaveOneRefusal : Type 0
CommandsHaveOneRefusal = (removals : Bool) (bytes : List ℕ) (refusal : DbError) → command_decoding removals bytes ≡ Err refusal → refusal ≡ BadRecord
