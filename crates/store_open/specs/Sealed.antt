-- The reading of a half whose journal ends with a seal: its checkpoint, with the commands of that
-- journal folded into the rows.
use Rattle.std.specs.Prelude.{◌≡◌, ℕ, Bool, true, false, List, Option, Some, None, Result, Ok, Err}
use Rattle.row_map.specs.Database.{RowView}
use Rattle.path_db.specs.declared.command.Command.{Command}
use Rattle.sector_dev.specs.Disk.{Disk, IsHonest}
use Rattle.sector_dev.specs.Calls.{Keeps, one_more}
use Rattle.store_layout.specs.declared.half.Half.{Half}
use Rattle.store_layout.specs.GroupReading.{JournalRefusal}
use Rattle.store_layout.specs.Journal.{Reading}
use Rattle.store_layout.specs.Layout.{Geometry, area_of}
use Rattle.store_layout.specs.StoreFormat.{db_after}
use Rattle.store_layout.specs.Checkpoint.{Head, Checkpoint}
use Rattle.store_layout.specs.CheckpointReading.{PairRefusal, checkpoint_in}
use Rattle.store_layout.specs.OpeningReading.{journal_from}
use Rattle.store_layout.specs.Limits.{latest}
use Rattle.ckpt_pair.specs.Rows.{rows_format}
use Rattle.store_open.specs.PathStores.{store_format}
use Rattle.store_open.specs.declared.error.OpenError.{OpenError}
use Rattle.store_open.specs.declared.error.OpenError.TheVariants as opening
use Rattle.store_open.specs.declared.error.SealedError.{SealedError}
use Rattle.store_open.specs.declared.error.SealedError.TheVariants.{Fault, NoMemory, Damaged}

-- A half whose journal is sealed, as it is read.
pub record SealedHalf : Type 0 where
  -- The head of its checkpoint.
  pub head : Head
  -- The place that its journal reaches.
  pub place : ℕ
  -- The rows with the commands of that journal.
  pub rows : List RowView

-- A journal folded into the rows of a checkpoint. `None` where no seal ends it.
abbrev pub folded_by : Bool → Checkpoint (List RowView) → Reading Command → Option SealedHalf
folded_by false checkpoint journal = None
folded_by true checkpoint journal =
    Some (record { head = checkpoint.head; place = journal.place; rows = db_after store_format checkpoint.db journal.commands })

-- The folded half, given the reading of its journal. `None` where the journal is refused.
abbrev pub folded_behind : Checkpoint (List RowView) → Result (Reading Command) JournalRefusal → Option SealedHalf
folded_behind checkpoint (Err refusal) = None
folded_behind checkpoint (Ok journal) = folded_by journal.sealed checkpoint journal

-- The folded half, given its checkpoint. `None` where the area is refused.
abbrev pub folded_in : Geometry → Half → List ℕ → Result (Checkpoint (List RowView)) PairRefusal → Option SealedHalf
folded_in geometry half image (Err refusal) = None
folded_in geometry half image (Ok checkpoint) =
    folded_behind checkpoint (journal_from store_format checkpoint geometry half image checkpoint.head.place)

-- The reading of a half of an image. `None` where its area is no checkpoint, or its journal is
-- refused, or is not sealed.
abbrev pub sealed_half : Geometry → Half → List ℕ → Option SealedHalf
sealed_half geometry half image = folded_in geometry half image (checkpoint_in rows_format latest (area_of geometry half image))

-- The count of failed calls after a result. A call of the device failed exactly where the error is
-- `Device`.
abbrev pub faults_behind : {T : Type 0} → Result T SealedError → ℕ → ℕ
faults_behind (Ok done) faults = faults
faults_behind (Err Fault) faults = one_more faults
faults_behind (Err NoMemory) faults = faults
faults_behind (Err Damaged) faults = faults

-- The contents of the device were read, and are unchanged.
pub record LooksAtHalf {T : Type 0} (result : Result T SealedError) (old new : Disk) : Type 0 where
  pub keeps : Keeps old new
  pub faults : new.faults ≡ faults_behind result old.faults
  pub history : IsHonest old → new.history ≡ old.history

-- The error of reading a half alone, for an error of opening.
abbrev pub sealed_error_of : OpenError → SealedError
sealed_error_of opening.NotAStore = Damaged
sealed_error_of opening.Device = Fault
sealed_error_of (opening.Pair e) = Damaged
sealed_error_of (opening.Journal e) = Damaged
sealed_error_of opening.NoMemory = NoMemory
