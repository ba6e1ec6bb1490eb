-- A store that was opened, as contracts see it, and the contents of its device.
use Rattle.std.specs.Prelude.{◌≡◌, ℕ, ◌+◌, ◌*◌, ◌^◌, ◌-◌, ◌<◌, ◌≤◌, min, Bool, true, false, List, [], Result, Ok, Err}
use Rattle.byte_lists.specs.declared.format.TheConstants.{SECTOR}
use Rattle.row_map.specs.Database.{RowView, rows_len}
use Rattle.path_db.specs.declared.command.Command.{Command}
use Rattle.sector_dev.specs.Disk.{Disk, IsHonest}
use Rattle.sector_dev.specs.Image.{EveryImage}
use Rattle.sector_dev.specs.Calls.{one_more}
use Rattle.store_layout.specs.declared.format.TheConstants.{BEFORE_ROWS}
use Rattle.store_layout.specs.declared.half.Half.{Half}
use Rattle.store_layout.specs.Layout.{Geometry, other}
use Rattle.store_layout.specs.Checkpoint.{Head}
use Rattle.store_layout.specs.Opening.{Opening, IsOpening, db_at_seal, opening_value}
use Rattle.store_layout.specs.StoreGrowth.{last_reading}
use Rattle.store_layout.specs.Limits.{latest}
use Rattle.store_open.specs.Closing.{HasClosedGates}
use Rattle.store_open.specs.PathStores.{store_format, IsStoreOf}
use Rattle.store_open.specs.declared.error.StoreError.{StoreError}
use Rattle.store_open.specs.declared.error.StoreError.TheVariants.{Fault, Sealed, NoMemory, Exhausted, Unfit, Broken}

-- A store as contracts see it.
pub record StoreView : Type 0 where
  -- The device.
  pub disk : Disk
  -- The sizes of its halves.
  pub geometry : Geometry
  -- The half that is chosen.
  pub chosen : Half
  -- The head of that half's checkpoint.
  pub head : Head
  -- Whether that half's journal is sealed, so that the tail is in the other half.
  pub sealed : Bool
  -- The gate at which the last journal ends, in sectors from that journal's start.
  pub gate : ℕ
  -- The place reached.
  pub place : ℕ
  -- The rows.
  pub rows : List RowView
  -- The bytes of the records of the chosen half's rows, up to the end of its journal.
  pub sealed_len : ℕ
  -- Whether a checkpoint has failed.
  pub broken : Bool

-- The half of the last journal, by whether the chosen half's journal is sealed.
abbrev pub half_of_tail : Half → Bool → Half
half_of_tail chosen false = chosen
half_of_tail chosen true = other chosen

-- The bytes of the records of rows, or 2^64 - 1 where they are more.
abbrev pub counted_len : List RowView → ℕ
counted_len rows = min (rows_len rows) (2 ^ 64 - 1)

-- The store has what an image opens with.
pub record HasOpening (view : StoreView) (opening : Opening (List RowView) Command) : Type 0 where
  pub geometry : opening.geometry ≡ view.geometry
  pub chosen : opening.chosen ≡ view.chosen
  pub head : opening.checkpoint.head ≡ view.head
  pub sealed : opening.journal.sealed ≡ view.sealed
  -- The gate of the last journal.
  pub gate : (last_reading opening).tail ≡ view.gate
  -- The rows, and the place reached.
  pub value : opening_value store_format opening ≡ record { db = view.rows; place = view.place }
  -- The bytes of the chosen half's rows, up to the end of its journal.
  pub sealed_len : counted_len (db_at_seal store_format opening) ≡ view.sealed_len

-- The store is at rest.
pub record IsAtRest (view : StoreView) : Type 0 where
  pub opening : Opening (List RowView) Command
  -- The store has what the opening has.
  pub tells : HasOpening view opening
  -- Nothing is dirty.
  pub settled : view.disk.history.now.dirty ≡ []
  -- Each image that a stop may leave opens with it.
  pub every : EveryImage view.disk.history.now (λ image. IsOpening store_format latest image opening)
  -- The half that is not used is closed, and so is its journal's first gate.
  pub unused : view.sealed ≡ false → EveryImage view.disk.history.now (HasClosedGates view.geometry (other view.chosen))

-- An image opens to the store's rows at its place.
pub record OpensToStore (view : StoreView) (image : List ℕ) : Type 0 where
  pub opens : IsStoreOf view.rows view.place image
  -- It opens by a half of the store's version or of a later one.
  pub since : view.head.version ≤ opens.opening.checkpoint.head.version

-- What an honest device has of a store.
pub record IsSound (view : StoreView) : Type 0 where
  -- The store is at rest, unless a checkpoint has failed.
  pub rest : view.broken ≡ false → IsAtRest view
  -- Each image that a stop may leave opens to the store's rows at its place.
  pub every : EveryImage view.disk.history.now (OpensToStore view)

-- The checkpoint of the store's rows has no room in the area.
abbrev pub HasNoRoomInArea : StoreView → Type 0
HasNoRoomInArea view = SECTOR * view.geometry.checkpoint < BEFORE_ROWS + rows_len view.rows

-- A store may make a checkpoint.
pub record MayCheckpoint (view : StoreView) : Type 0 where
  -- No checkpoint has failed.
  pub whole : view.broken ≡ false
  -- No journal is sealed.
  pub unsealed : view.sealed ≡ false
  -- A next epoch exists.
  pub epoch : view.head.epoch < 2 ^ 64 - 1
  -- The rows fit the area.
  pub fits : BEFORE_ROWS + rows_len view.rows ≤ SECTOR * view.geometry.checkpoint

-- The same store, once the other half has its rows and an empty journal, in the version that is
-- written.
abbrev pub checkpointed : StoreView → Disk → StoreView
checkpointed old disk = record old {
  disk = disk;
  chosen = other old.chosen;
  head = record { version = latest; epoch = old.head.epoch + 1; place = old.place };
  gate = 0;
  sealed_len = counted_len old.rows;
}

-- The result of a checkpoint at rest. Where it is refused without a call of the device, nothing has
-- changed. Where the device fails, the store is broken for good.
abbrev pub Checkpoints : Result (Unit {0}) StoreError → StoreView → StoreView → Type 0
Checkpoints (Ok done) old new =
    MayCheckpoint old × (new ≡ checkpointed old new.disk) × (new.disk.faults ≡ old.disk.faults) × (IsHonest old.disk → IsAtRest new)
Checkpoints (Err Broken) old new = (old.broken ≡ true) × (new ≡ old)
Checkpoints (Err Sealed) old new = (old.broken ≡ false) × (old.sealed ≡ true) × (new ≡ old)
Checkpoints (Err Exhausted) old new = (old.broken ≡ false) × (old.sealed ≡ false) × (old.head.epoch ≡ 2 ^ 64 - 1) × (new ≡ old)
Checkpoints (Err Unfit) old new =
    (old.broken ≡ false) × (old.sealed ≡ false) × (old.head.epoch < 2 ^ 64 - 1) × HasNoRoomInArea old × (new ≡ old)
Checkpoints (Err Fault) old new =
    MayCheckpoint old × (new ≡ record old { disk = new.disk; broken = true }) × (new.disk.faults ≡ one_more old.disk.faults)
Checkpoints (Err NoMemory) old new = MayCheckpoint old × (new ≡ old)
