-- What the status of a store is, and what printing the status returns.
use Rattle.std.specs.Prelude.{ℕ, ◌*◌, ◌-◌, Bool, true, false, List, [], ◌∷◌, ◌++◌, length, codes, Option, Result, Ok, Err}
use Rattle.std.specs.Fmt.{decimal}
use Rattle.std.specs.Io.KnownBytes.{Appends}
use Rattle.byte_lists.specs.declared.format.TheConstants.{SECTOR}
use Rattle.sector_dev.specs.Disk.{Disk, IsHonest, reads_of}
use Rattle.row_map.specs.Database.{RowView}
use Rattle.path_db.specs.declared.command.Command.{Command}
use Rattle.store_layout.specs.declared.format.TheConstants.{BEFORE_ROWS}
use Rattle.store_layout.specs.Opening.{Opening, IsOpening, opening_value}
use Rattle.store_layout.specs.StoreGrowth.{last_reading}
use Rattle.store_layout.specs.Limits.{latest}
use Rattle.store_open.specs.PathStores.{store_format}
use Rattle.store_open.specs.Store.{counted_len}
use Rattle.whole_writes.specs.Written.{IsWrittenInPart}
use Rattle.cli_store.specs.Devices.{IsNotOpened, OpeningLacksMemory}
use Rattle.row_lines.specs.Text.{before}
use Rattle.cli_store.specs.declared.error.Fault.{Fault}
use Rattle.cli_store.specs.declared.error.Fault.TheVariants.{Open, Memory, Output}

-- The numbers of a store.
pub record Status : Type 0 where
  -- The format version of the half that is chosen.
  pub version : ℕ
  -- The epoch of that half.
  pub epoch : ℕ
  -- The place reached.
  pub place : ℕ
  -- The number of rows.
  pub rows : ℕ
  -- The number of bytes of the rows.
  pub bytes : ℕ
  -- The number of bytes of rows that a checkpoint area takes.
  pub most_bytes : ℕ
  -- The sectors of the last journal that are used, up to its last gate.
  pub used : ℕ
  -- The sectors of a journal.
  pub journal : ℕ
  -- Whether the chosen half's journal is sealed.
  pub sealed : Bool

-- The numbers of what an image opens with.
abbrev pub status_of : Opening (List RowView) Command → Status
status_of opening =
    let value = opening_value store_format opening in
    record {
      version = opening.checkpoint.head.version;
      epoch = opening.checkpoint.head.epoch;
      place = value.place;
      rows = length value.db;
      bytes = counted_len value.db;
      most_bytes = SECTOR * opening.geometry.checkpoint - BEFORE_ROWS;
      used = (last_reading opening).tail;
      journal = opening.geometry.journal;
      sealed = opening.journal.sealed;
    }

-- A line with a name and a number.
abbrev pub number_line : List ℕ → ℕ → List ℕ
number_line name number = before name (decimal number ++ 0x0a ∷ [])

-- A line with a name, a number, and a total.
abbrev pub part_line : List ℕ → ℕ → ℕ → List ℕ
part_line name part whole = before name (decimal part ++ (codes " of " ++ (decimal whole ++ 0x0a ∷ [])))

-- The line that says whether a journal is sealed.
abbrev pub sealed_line : Bool → List ℕ
sealed_line false = codes "sealed no" ++ 0x0a ∷ []
sealed_line true = codes "sealed yes" ++ 0x0a ∷ []

-- The lines of the version, the epoch, the place and the rows.
abbrev pub head_lines : Status → List ℕ
head_lines status =
    number_line (codes "version") status.version
    ++ (number_line (codes "epoch") status.epoch ++ (number_line (codes "place") status.place ++ number_line (codes "rows") status.rows))

-- The lines of how much of the store is used.
abbrev pub use_lines : Status → List ℕ
use_lines status =
    part_line (codes "bytes") status.bytes status.most_bytes
    ++ (part_line (codes "journal") status.used status.journal ++ sealed_line status.sealed)

-- The text of a status.
abbrev pub status_text : Status → List ℕ
status_text status = head_lines status ++ use_lines status

-- What reads give opens with this, and the text of its numbers was written.
pub record IsReported (disk : Disk) (output output_left : Option (List ℕ)) : Type 0 where
  pub opening : Opening (List RowView) Command
  pub opens : IsHonest disk → IsOpening store_format latest (reads_of disk) opening
  pub written : Appends output output_left (status_text (status_of opening))

-- What reads give opens with this, and a front of the text of its numbers was written.
pub record IsReportedInPart (disk : Disk) (output output_left : Option (List ℕ)) : Type 0 where
  pub opening : Opening (List RowView) Command
  pub opens : IsHonest disk → IsOpening store_format latest (reads_of disk) opening
  pub written : IsWrittenInPart output output_left (status_text (status_of opening))

-- What printing the status of a store on a device returns and prints.
abbrev pub ReportsSo : Result (Unit {0}) Fault → Disk → Option (List ℕ) → Option (List ℕ) → Type 0
ReportsSo (Ok done) disk output output_left = IsReported disk output output_left
ReportsSo (Err (Open e)) disk output output_left = IsNotOpened e disk output output_left
ReportsSo (Err Memory) disk output output_left = OpeningLacksMemory disk output output_left
ReportsSo (Err Output) disk output output_left = IsReportedInPart disk output output_left
ReportsSo _ disk output output_left = ⊥
