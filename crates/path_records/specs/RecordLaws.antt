-- Laws of commands and rows as records.
use Rattle.std.specs.Prelude.{◌≡◌, ℕ, ◌<◌, ◌^◌, Bool, true, List, length, Ok}
use Rattle.byte_lists.specs.Content.{AreBytes}
use Rattle.path_db.specs.declared.command.Command.{Command}
use Rattle.path_db.specs.declared.command.Command.TheVariants.{Register, Purge, Remove}
use Rattle.path_db.specs.Command.{HasWholeSegments}
use Rattle.row_map.specs.Database.{RowView, IsDatabase, rows_len}
use Rattle.path_records.specs.RowRecord.{rows_encoding, rows_decoding}
use Rattle.path_records.specs.CommandRecord.{IsWithinLimits, command_encoding, command_decoding}

-- The bytes that are read as a command are its record.
abbrev pub ReadCommandsAreSpelled : Type 0
ReadCommandsAreSpelled =
    (removals : Bool) (bytes : List ℕ) (command : Command) → AreBytes bytes
    → command_decoding removals bytes ≡ Ok command → command_encoding command ≡ bytes

-- Bytes that are read as a command are read as the same command where the same or more kinds are
-- allowed.
abbrev pub CommandsAreReadOn : Type 0
CommandsAreReadOn =
    (small large : Bool) (bytes : List ℕ) (command : Command) → (small ≡ true → large ≡ true)
    → command_decoding small bytes ≡ Ok command → command_decoding large bytes ≡ Ok command

-- The numbers and the id of a command fit their fields.
abbrev pub HasWidths : Command → Type 0
HasWidths (Register rows) = Unit {0}
HasWidths (Purge moment) = moment < 2 ^ 64
HasWidths (Remove kind id) = length id ≡ 32

-- A command is no removal, or removals are allowed.
abbrev pub IsAllowedBy : Bool → Command → Type 0
IsAllowedBy removals (Register rows) = Unit {0}
IsAllowedBy removals (Purge moment) = Unit {0}
IsAllowedBy removals (Remove kind id) = removals ≡ true

-- The record of a command within its limits is read as that command, where the command is allowed.
abbrev pub WrittenCommandsAreRead : Type 0
WrittenCommandsAreRead =
    (removals : Bool) (command : Command) → IsWithinLimits command → HasWholeSegments command → HasWidths command → IsAllowedBy removals command
    → command_decoding removals (command_encoding command) ≡ Ok command

-- A command has a record that is read as this command.
pub record HasCommandRecord (removals : Bool) (command : Command) : Type 0 where
  -- The command is within its limits.
  pub limits : IsWithinLimits command
  -- Its segments are whole.
  pub whole : HasWholeSegments command
  -- Its numbers and its id fit their fields.
  pub widths : HasWidths command
  -- It is a removal only where removals are allowed.
  pub allowed : IsAllowedBy removals command

-- A command that is read can be written: exactly these commands have records.
abbrev pub ReadCommandsCanBeWritten : Type 0
ReadCommandsCanBeWritten =
    (removals : Bool) (bytes : List ℕ) (command : Command) → AreBytes bytes
    → command_decoding removals bytes ≡ Ok command → HasCommandRecord removals command

-- The records of a database are read as its rows.
abbrev pub WrittenRowsAreRead : Type 0
WrittenRowsAreRead = (rows : List RowView) → IsDatabase rows → rows_decoding (rows_encoding rows) ≡ Ok rows

-- The records of rows have the length that is counted for the rows.
abbrev pub WrittenRowsAreCounted : Type 0
WrittenRowsAreCounted = (rows : List RowView) → length (rows_encoding rows) ≡ rows_len rows

-- The bytes that are read as rows are their records, and the rows are a database.
abbrev pub ReadRowsAreSpelled : Type 0
ReadRowsAreSpelled =
    (bytes : List ℕ) (rows : List RowView) → AreBytes bytes → rows_decoding bytes ≡ Ok rows
    → (rows_encoding rows ≡ bytes) × IsDatabase rows
