-- What showing a store returns and prints.
use Rattle.std.specs.Prelude.{◌⊎◌, ℕ, List, Option}
use Rattle.std.specs.Io.KnownBytes.{Appends}
use Rattle.sector_dev.specs.Disk.{Disk, IsHonest, reads_of}
use Rattle.row_map.specs.Database.{RowView}
use Rattle.store_open.specs.PathStores.{IsStoreOf}
use Rattle.row_lines.specs.declared.form.RowForm.{RowForm}
use Rattle.cli_store.specs.Text.{store_text}
use Rattle.whole_writes.specs.Written.{IsWrittenInPart}
use Rattle.cli_store.specs.Devices.{IsNotOpened, OpeningLacksMemory}
use Rattle.cli_store.specs.declared.error.Fault.{Fault}
use Rattle.cli_store.specs.declared.error.Fault.TheVariants.{Open, Memory, Output}

-- What reads give opens to rows at a place, and their text was written.
pub record ShowsStore (form : RowForm) (disk : Disk) (output output_left : Option (List ℕ)) : Type 0 where
  pub rows : List RowView
  pub place : ℕ
  pub opens : IsHonest disk → IsStoreOf rows place (reads_of disk)
  pub written : Appends output output_left (store_text form rows place)

-- What reads give opens to rows at a place, and a front of their text was written.
pub record IsShownInPart (form : RowForm) (disk : Disk) (output output_left : Option (List ℕ)) : Type 0 where
  pub rows : List RowView
  pub place : ℕ
  pub opens : IsHonest disk → IsStoreOf rows place (reads_of disk)
  pub written : IsWrittenInPart output output_left (store_text form rows place)

-- Why a store is not shown, or only in part.
abbrev pub FailsToShow : RowForm → Fault → Disk → Option (List ℕ) → Option (List ℕ) → Type 0
FailsToShow form (Open e) disk output output_left = IsNotOpened e disk output output_left
FailsToShow form Memory disk output output_left = OpeningLacksMemory disk output output_left ⊎ IsShownInPart form disk output output_left
FailsToShow form Output disk output output_left = IsShownInPart form disk output output_left
FailsToShow form _ disk output output_left = ⊥
