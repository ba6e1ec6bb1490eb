-- The result of opening a device, by what is read of it, and the device after the call.
use Rattle.std.specs.Prelude.{◌≡◌, ◌≢◌, ◌⊎◌, ℕ, ◌*◌, List, Result, Ok, Err, IsOk, Option, Some}
use Rattle.std.specs.Option.{option_map}
use Rattle.byte_lists.specs.declared.format.TheConstants.{SECTOR}
use Rattle.row_map.specs.Database.{RowView}
use Rattle.path_db.specs.declared.command.Command.{Command}
use Rattle.sector_dev.specs.Disk.{History, Disk, IsHonest, reads_of, after_sync}
use Rattle.store_layout.specs.declared.half.Half.{Half}
use Rattle.store_layout.specs.GroupReading.{JournalRefusal}
use Rattle.store_layout.specs.GroupReading as refusals
use Rattle.store_layout.specs.Checkpoint.{Checkpoint}
use Rattle.store_layout.specs.Journal.{Reading}
use Rattle.store_layout.specs.Layout.{Geometry, other, area_of}
use Rattle.store_layout.specs.FirstSector.{geometry_in}
use Rattle.store_layout.specs.Opening.{Opening, IsOpening}
use Rattle.store_layout.specs.OpeningReading.{OpenRefusal, BadPair, BadJournal, opening_of}
use Rattle.store_layout.specs.OpeningReading as laws
use Rattle.gate_journal.specs.declared.error.JournalError.{JournalError}
use Rattle.gate_journal.specs.declared.error.JournalError.TheVariants as journal
use Rattle.gate_journal.specs.declared.scanner.Scan.{Scan}
use Rattle.gate_journal.specs.Scanning.{reading_of}
use Rattle.store_layout.specs.Limits.{latest}
use Rattle.ckpt_pair.specs.Reading.{checkpoint_view, front_in}
use Rattle.ckpt_pair.specs.Refusals.{error_of}
use Rattle.store_open.specs.declared.opening.Found.{Found}
use Rattle.store_open.specs.declared.error.OpenError.{OpenError}
use Rattle.store_open.specs.declared.error.OpenError.TheVariants.{NotAStore, Device, Pair, Journal, NoMemory}
use Rattle.store_open.specs.Closing.{HasNoGateToClose}
use Rattle.store_layout.specs.Geometry.{geometry_view}
use Rattle.store_open.specs.Heads.{choice_by_heads}
use Rattle.store_open.specs.Behind.{SameBehind}
use Rattle.store_open.specs.PathStores.{store_format}
use Rattle.store_open.specs.Refusals.{faults_after}
use Rattle.store_open.specs.Store.{StoreView, IsAtRest}

-- What was found on a device, as the opening of an image.
abbrev pub opening_view : Found → Opening (List RowView) Command
opening_view found = record {
  geometry = geometry_view found.geometry;
  chosen = found.half;
  checkpoint = checkpoint_view found.checkpoint;
  journal = reading_of found.journal;
  tail = option_map reading_of found.tail;
}

-- The error of a journal's refusal.
abbrev pub journal_error_of : JournalRefusal → JournalError
journal_error_of refusals.BadHeader = journal.BadHeader
journal_error_of refusals.BadRecord = journal.BadRecord
journal_error_of (refusals.Gap place) = journal.Gap place
journal_error_of refusals.PastEnd = journal.PastEnd

-- The error of an image's refusal.
abbrev pub open_error_of : OpenRefusal → OpenError
open_error_of laws.NotAStore = NotAStore
open_error_of (BadPair refusal) = Pair (error_of refusal)
open_error_of (BadJournal refusal) = Journal (journal_error_of refusal)

-- A reading is refused, and this is the error of the refusal.
pub record IsErrorOfReading {Y : Type 0} (e : OpenError) (reading : Result Y OpenRefusal) : Type 0 where
  pub refusal : OpenRefusal
  pub is : reading ≡ Err refusal
  pub told : e ≡ open_error_of refusal

-- An error of the image is the refusal of its reading. An error of the device or of memory does not
-- depend on the image.
abbrev pub RefusesOpening : {Y : Type 0} → OpenError → Result Y OpenRefusal → Type 0
RefusesOpening NotAStore reading = IsErrorOfReading NotAStore reading
RefusesOpening Device reading = Unit {0}
RefusesOpening (Pair e) reading = IsErrorOfReading (Pair e) reading
RefusesOpening (Journal e) reading = IsErrorOfReading (Journal e) reading
RefusesOpening NoMemory reading = Unit {0}

-- An image has this reading, or this refusal, unless the device failed or memory was refused.
abbrev pub OpensSo : {X Y : Type 0} → (X → Y) → Result X OpenError → Result Y OpenRefusal → Type 0
OpensSo view (Ok x) reading = reading ≡ Ok (view x)
OpensSo view (Err e) reading = RefusesOpening e reading

-- The opening that is found, with a tail or without one, once the chosen half's journal is read.
abbrev pub with_tail_seen : Geometry → Half → Checkpoint (List RowView) → Reading Command → Option Scan → Opening (List RowView) Command
with_tail_seen geometry half checkpoint journal tail = record {
  geometry = geometry;
  chosen = half;
  checkpoint = checkpoint;
  journal = journal;
  tail = option_map reading_of tail;
}

-- A half is chosen by the heads, and the front of its checkpoint is valid.
pub record HasFront (geometry : Geometry) (image : List ℕ) : Type 0 where
  pub half : Half
  pub chosen : choice_by_heads geometry image ≡ Ok half
  pub front : IsOk (front_in latest (SECTOR * geometry.checkpoint) (area_of geometry half image))

-- All that is checked without memory is valid, so that opening the image takes memory.
pub record WantsMemoryToOpen (image : List ℕ) : Type 0 where
  pub geometry : Geometry
  -- The image is a store's.
  pub store : geometry_in image ≡ Some geometry
  pub half : Half
  -- A half is chosen by the heads.
  pub chosen : choice_by_heads geometry image ≡ Ok half
  -- The front of its checkpoint is valid.
  pub front : IsOk (front_in latest (SECTOR * geometry.checkpoint) (area_of geometry half image))

-- Two images open with the same opening, and the bytes after their store are the same.
pub record OpenWithTheSame (before behind : List ℕ) : Type 0 where
  pub opening : Opening (List RowView) Command
  pub opens_before : IsOpening store_format latest before opening
  pub opens_behind : IsOpening store_format latest behind opening
  pub beyond : SameBehind opening.geometry before behind

-- An image is unchanged, or opens with the same opening as before. An image that does not open is
-- not changed.
abbrev pub OpensAlike : List ℕ → List ℕ → Type 0
OpensAlike before behind = (behind ≡ before) ⊎ OpenWithTheSame before behind

-- No gate has to be closed: for any opening of the image, the half that is not chosen has both its
-- gates closed, or is used.
abbrev pub HasNothingToClose : List ℕ → Type 0
HasNothingToClose image =
    (opening : Opening (List RowView) Command) → IsOpening store_format latest image opening
    → HasNoGateToClose opening.journal.sealed opening.geometry (other opening.chosen) image

-- An opening without a gate to close writes nothing. A device that is opened is synced twice, and
-- one that is not opened at most once.
abbrev pub OnlySyncs : {A E : Type 0} → Result A E → History → History → Type 0
OnlySyncs (Ok _) old new = new ≡ after_sync (after_sync old)
OnlySyncs (Err _) old new = (new ≡ old) ⊎ (new ≡ after_sync old)

-- An error is not that of a call of the device.
abbrev pub IsNoFault : OpenError → Type 0
IsNoFault e = e ≢ Device

-- A store was opened.
pub record IsOpened (reads : List ℕ) (view : StoreView) : Type 0 where
  -- The store is at rest.
  pub rest : IsAtRest view
  -- The store has what reads returned when it was opened.
  pub same : IsOpening store_format latest reads rest.opening

-- A device that is not opened is returned with an error.
pub record ComesBack (e : OpenError) (old new : Disk) : Type 0 where
  -- An error of the image is the refusal of the bytes that reads returned.
  pub refused : IsHonest old → RefusesOpening e (opening_of store_format latest (reads_of old))
  -- Where memory was refused, opening these bytes takes memory.
  pub memory : IsHonest old → e ≡ NoMemory → WantsMemoryToOpen (reads_of old)
  -- The device failed exactly where the error is `Device`.
  pub faults : new.faults ≡ faults_after {T = Unit {0}} (Err e) old.faults

-- The device after the call, in the store or returned.
abbrev pub disk_after : {A : Type 0} → (A → Disk) → Result StoreView (A × OpenError) → Disk
disk_after disk (Ok store) = store.disk
disk_after disk (Err back) = disk back.0
