-- What a device holds of a store that was just opened, at rest or after a seal. Each statement is
-- the contract of a function.
use Rattle.std.specs.Prelude.{◌≡◌, ℕ, ◌<◌, [], Option, Some, None}
use Rattle.sector_dev.specs.Disk.{Moment}
use Rattle.store_layout.specs.Journal.{Reading}
use Rattle.store_layout.specs.Opening.{Opening, IsOpening, opening_value}
use Rattle.store_layout.specs.StoreFormat.{StoreFormat}
use Rattle.store_layout.specs.StoreGrowth.{last_half, last_reading, IsOtherHalfClosed}
use Rattle.store_layout.specs.TakeOver.{FoldsJournal}
use Rattle.store_layout.specs.Checkpoint.{Checkpoint}
use Rattle.group_phases.specs.declared.phases.Flush.TheVariants.{Resting}
use Rattle.group_phases.specs.declared.phases.Check.{Check}
use Rattle.group_phases.specs.declared.phases.Check.TheVariants.{Ready, Sealed}
use Rattle.group_phases.specs.StoreConfig.{StoreConfig}
use Rattle.group_phases.specs.CommitState.{CommitState, DeviceContents, IsHeldBy}

-- The configuration of an opened store, with the sizes that were read.
abbrev pub config_at_opening : {Db C : Type 0} → StoreFormat Db C → ℕ → Opening Db C → StoreConfig Db C
config_at_opening format latest opening = record { format = format; latest = latest; geometry = opening.geometry }

-- The phase of the checkpointer after an opening. After a seal, the chosen half awaits its
-- checkpoint.
abbrev pub check_of : {C : Type 0} → Option (Reading C) → Check
check_of None = Ready
check_of (Some behind) = Sealed

-- The state after an opening: nothing is pending, and nothing is in flight.
abbrev pub commit_state_at_opening : {Db C : Type 0} → StoreFormat Db C → Opening Db C → CommitState Db C
commit_state_at_opening format opening = record {
  value = opening_value format opening;
  pending = [];
  taken = 0;
  following = 0;
  flush = Resting;
  check = check_of opening.tail;
  half = last_half opening;
  gate = (last_reading opening).tail;
  version = opening.checkpoint.head.version;
  written = 0;
}

-- The device holds the state after an opening.
pub record IsHeldFrom {Db C : Type 0} (format : StoreFormat Db C) (latest : ℕ) (opening : Opening Db C) (new : Checkpoint Db) (moment : Moment) : Type 0 where
  -- The contents of the device.
  pub behind : DeviceContents Db C
  -- The checkpoint of the half that has the tail, written or still to be written, is this one.
  pub new_is : behind.new ≡ new
  -- The device holds the state for these contents.
  pub by : IsHeldBy (config_at_opening format latest opening) (commit_state_at_opening format opening) behind moment

-- The device holds the state after an opening where nothing is dirty, and reads open with a journal
-- that is not sealed, beside a half that is closed.
abbrev pub HeldAtRest : Type 0 → Type 0 → Type 0
HeldAtRest Db C =
    (format : StoreFormat Db C) (latest : ℕ) (opening : Opening Db C) (moment : Moment) → moment.dirty ≡ []
    → IsOpening format latest moment.reads opening → IsOtherHalfClosed opening moment.reads
    → IsHeldFrom format latest opening opening.checkpoint moment

-- The device holds the state after an opening with a sealed journal.
pub record IsHeldBehindSeal {Db C : Type 0} (format : StoreFormat Db C) (latest : ℕ) (opening : Opening Db C) (next : Checkpoint Db) (moment : Moment)
    : Type 0 where
  -- The new checkpoint is one that folds the sealed journal.
  pub held : IsHeldFrom format latest opening next moment
  -- The old checkpoint is that of the half with the sealed journal.
  pub old_is : held.behind.old ≡ opening.checkpoint

-- The device holds the state after an opening where nothing is dirty, and reads open with a sealed
-- journal. Any checkpoint of a later epoch that folds the journal can be the one still to be
-- written.
abbrev pub HeldBehindSeal : Type 0 → Type 0 → Type 0
HeldBehindSeal Db C =
    (format : StoreFormat Db C) (latest : ℕ) (opening : Opening Db C) (moment : Moment) (last : Reading C) (next : Checkpoint Db)
    → moment.dirty ≡ [] → IsOpening format latest moment.reads opening → opening.tail ≡ Some last
    → FoldsJournal format opening next → opening.checkpoint.head.epoch < next.head.epoch
    → IsHeldBehindSeal format latest opening next moment
