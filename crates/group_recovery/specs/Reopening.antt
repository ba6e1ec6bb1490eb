-- The value of an image, as a machine, and the result of opening a device with this image.
use Rattle.std.specs.Prelude.{◌≡◌, ℕ, ◌≤◌, List, length, Result, Ok, Err}
use Rattle.row_map.specs.Database.{RowView}
use Rattle.path_db.specs.declared.command.Command.{Command}
use Rattle.sector_dev.specs.Disk.{Disk, IsHonest}
use Rattle.store_layout.specs.Opening.{StoreValue, OpensTo}
use Rattle.store_layout.specs.Limits.{latest}
use Rattle.store_open.specs.Open.{ComesBack}
use Rattle.store_open.specs.PathStores.{store_format}
use Rattle.store_open.specs.Store.{StoreView}
use Rattle.store_open.specs.declared.error.OpenError.{OpenError}
use Rattle.store_open.specs.declared.error.OpenError.TheVariants.{NotAStore, Device, Pair, Journal, NoMemory}
use Rattle.group_core.specs.Ending.{HasNothingOut}
use Rattle.group_core.specs.Starting.{value_of_store}
use Rattle.group_core.specs.StateView.{StateView}
use Rattle.group_core.specs.Stops.{MayOpen}
use Rattle.group_recovery.specs.declared.reopening.NotReopened.{NotReopened}
use Rattle.group_recovery.specs.declared.reopening.NotReopened.TheVariants.{InUse, Refused}
use Rattle.group_recovery.specs.Machine.{Machine, machine_of, reopened}
use Rattle.group_recovery.specs.RunLeaves.{OpensToPrefix}

-- The value of a machine: the committed rows, and the place that is reached.
abbrev pub machine_value : Machine → StoreValue (List RowView)
machine_value machine = record { db = machine.committed; place = machine.place }

-- The machine of a state, with all commands of an order pending.
abbrev pub machine_with : StateView → List Command → Machine
machine_with start order = record (machine_of start) { pending = order }

-- The image opens to this machine, reopened with a front of its pending commands.
pub record OpensToMachine (machine : Machine) (image : List ℕ) : Type 0 where
  -- The number of the first pending commands that the image has.
  pub kept : ℕ
  -- The number is at most that of the pending commands.
  pub inside : kept ≤ length machine.pending
  -- The image opens to the machine that is reopened with those commands.
  pub opens : OpensTo store_format latest image (machine_value (reopened machine kept))

-- A stop within a run leaves the machine at the run's start, with the commands in the order of the
-- lock, reopened.
abbrev pub PrefixesAreReopened : Type 0
PrefixesAreReopened =
    (start : StateView) (order : List Command) (least : ℕ) (image : List ℕ) → OpensToPrefix start order least image
    → OpensToMachine (machine_with start order) image

-- A stop leaves of a state the state's machine, reopened.
abbrev pub FrontsAreReopened : Type 0
FrontsAreReopened = (view : StateView) (image : List ℕ) → MayOpen view image → OpensToMachine (machine_of view) image

-- The store has the value of the image.
abbrev pub HasValueOf : List ℕ → StoreView → Type 0
HasValueOf image store = (value : StoreValue (List RowView)) → OpensTo store_format latest image value → value_of_store store ≡ value

-- The store is this machine, reopened with a front of its pending commands.
pub record IsReopened (machine : Machine) (store : StoreView) : Type 0 where
  -- The number of the first pending commands that the store has.
  pub kept : ℕ
  -- The number is at most that of the pending commands.
  pub inside : kept ≤ length machine.pending
  -- The store has the value of the machine that is reopened with those commands.
  pub value : value_of_store store ≡ machine_value (reopened machine kept)

-- The store is reopened as every machine to which the image opens.
abbrev pub ReopensMachines : List ℕ → StoreView → Type 0
ReopensMachines image store = (machine : Machine) → OpensToMachine machine image → IsReopened machine store

-- The device failed, or memory was refused: the error does not depend on the image.
abbrev pub SaysNothingOfTheImage : OpenError → Type 0
SaysNothingOfTheImage NotAStore = ⊥
SaysNothingOfTheImage Device = Unit {0}
SaysNothingOfTheImage (Pair e) = ⊥
SaysNothingOfTheImage (Journal e) = ⊥
SaysNothingOfTheImage NoMemory = Unit {0}

-- An image that opens is not refused for its contents.
abbrev pub RefusesNoStore : OpenError → List ℕ → Type 0
RefusesNoStore e image = (value : StoreValue (List RowView)) → OpensTo store_format latest image value → SaysNothingOfTheImage e

-- Why a state is not opened again. Either the state is in use, and is returned. Or the state's
-- device is returned as one that is not opened, and an honest device is not refused for its
-- contents.
abbrev pub IsNotReopened : {D S N : Type 0} → (D → Disk) → NotReopened D S N → StateView → Type 0
IsNotReopened disk_of (InUse back) state = (¬ HasNothingOut state) × (back ≡ state)
IsNotReopened disk_of (Refused device e) state =
    HasNothingOut state × ComesBack e state.disk (disk_of device) × (IsHonest state.disk → SaysNothingOfTheImage e)

-- The device afterwards: in the store, in the state, or returned.
abbrev pub disk_left : {D S N : Type 0} → (D → Disk) → Result StoreView (NotReopened D S N) → Disk
disk_left disk_of (Ok store) = store.disk
disk_left disk_of (Err (InUse back)) = back.disk
disk_left disk_of (Err (Refused device e)) = disk_of device
