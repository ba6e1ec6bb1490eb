-- What the checkpointer relies on, phase by phase: facts of both areas, of both half gates, and of
-- the journal without the tail.
use Rattle.std.specs.Prelude.{◌≡◌, ℕ, ◌*◌, ◌<◌, ◌≤◌, Bool, false, List, length, take}
use Rattle.byte_lists.specs.Content.{part}
use Rattle.byte_lists.specs.declared.format.TheConstants.{SECTOR}
use Rattle.sector_dev.specs.Disk.{Moment}
use Rattle.store_layout.specs.declared.half.Half.{Half}
use Rattle.store_layout.specs.Limits.{limits_of}
use Rattle.store_layout.specs.Journal.{all_of}
use Rattle.store_layout.specs.Layout.{other, area_at}
use Rattle.store_layout.specs.StoreFormat.{StoreFormat, db_after}
use Rattle.store_layout.specs.Checkpoint.{Checkpoint, checkpoint_encoding, CanBeCheckpoint}
use Rattle.group_phases.specs.declared.phases.Flush.TheVariants.{Durable}
use Rattle.group_phases.specs.declared.phases.Check.{Check}
use Rattle.group_phases.specs.declared.phases.Check.TheVariants.{Ready, Sealed, Planned, Laid, Switched, SwitchFailed, Live, Closing, CloseFailed}
use Rattle.group_phases.specs.StoreConfig.{StoreConfig}
use Rattle.group_phases.specs.Halves.{ReadsOpen, IsOpenHalf, IsClosedHalf, HasCheckpoint, HasHead, FirstReadsClosed, IsFirstClosed}
use Rattle.group_phases.specs.Tail.{Seal, Tail, tail_place}
use Rattle.group_phases.specs.FlusherPart.{FlusherPart}

-- The checkpoints of both halves and the sealed journal. The fields of the old half count only
-- while the new checkpoint does not count for sure.
pub record CheckpointPair (Db C : Type 0) : Type 0 where
  -- The half that has the tail.
  pub half : Half
  -- The version under whose limits the tail is written.
  pub version : ℕ
  -- The checkpoint of the half that has the tail, written or still to be written.
  pub new : Checkpoint Db
  -- The checkpoint of the other half.
  pub old : Checkpoint Db
  -- The groups of the other half's journal.
  pub groups : List (List C)
  -- The gate of the seal that ends that journal, in sectors from its start.
  pub gate : ℕ

-- The sealed journal, as a tail that ends with the seal.
abbrev pub sealed_of : {Db C : Type 0} → CheckpointPair Db C → Tail C
sealed_of base = record { half = other base.half; start = base.old.head.place; groups = base.groups; gate = base.gate }

-- The sealed half folded is the new checkpoint.
pub record FoldsTo {Db C : Type 0} (format : StoreFormat Db C) (base : CheckpointPair Db C) : Type 0 where
  -- The sealed journal ends at the new checkpoint's place.
  pub place : tail_place (sealed_of base) ≡ base.new.head.place
  -- The old rows after the commands of the sealed journal are the new rows.
  pub db : db_after format base.old.db (all_of base.groups) ≡ base.new.db
  -- The new checkpoint is newer.
  pub epoch : base.old.head.epoch < base.new.head.epoch
  -- The version of the tail's limits is at most the old half's.
  pub tail : base.version ≤ base.old.head.version
  -- The old half's version is at most the new checkpoint's.
  pub version : base.old.head.version ≤ base.new.head.version

-- The other half counts, and its journal is sealed.
pub record OldStands {Db C : Type 0} (config : StoreConfig Db C) (base : CheckpointPair Db C) (moment : Moment) : Type 0 where
  -- The sealed half folded is the new checkpoint.
  pub folds : FoldsTo config.format base
  -- The other half's gate is open and clean.
  pub gate : IsOpenHalf config.geometry (other base.half) moment
  -- The other half has the old checkpoint.
  pub area : HasCheckpoint config (other base.half) base.old moment
  -- The other half's journal ends with a durable seal.
  pub journal : FlusherPart Durable config.format.commands (limits_of base.old.head.version) config.geometry (sealed_of base) Seal moment

-- The half that has the tail counts, and a checkpoint that the other half may have is older.
pub record NewStands {Db C : Type 0} (config : StoreConfig Db C) (base : CheckpointPair Db C) (moment : Moment) : Type 0 where
  -- The old checkpoint is older.
  pub epoch : base.old.head.epoch < base.new.head.epoch
  -- The version of the tail's limits is at most the new checkpoint's.
  pub tail : base.version ≤ base.new.head.version
  -- The gate of the half that has the tail is open and clean.
  pub gate : IsOpenHalf config.geometry base.half moment
  -- The half that has the tail has the new checkpoint.
  pub area : HasCheckpoint config base.half base.new moment
  -- The other half has the old checkpoint's head.
  pub old : HasHead config (other base.half) base.old.head moment

-- The half that has the tail counts. The other half's gate is closed, and so is the first gate of
-- its journal.
pub record IsOtherHalfReady {Db C : Type 0} (config : StoreConfig Db C) (base : CheckpointPair Db C) (moment : Moment) : Type 0 where
  -- The version of the tail's limits is at most the new checkpoint's.
  pub tail : base.version ≤ base.new.head.version
  -- The gate of the half that has the tail is open and clean.
  pub gate : IsOpenHalf config.geometry base.half moment
  -- The half that has the tail has the new checkpoint.
  pub area : HasCheckpoint config base.half base.new moment
  -- The other half's gate is closed and clean.
  pub closed : IsClosedHalf config.geometry (other base.half) moment
  -- The first gate of the other half's journal is closed and clean.
  pub first : IsFirstClosed config.geometry (other base.half) moment

-- The new checkpoint can be one, of a known version, and has room in its area.
pub record CanBeNewCheckpoint {Db C : Type 0} (config : StoreConfig Db C) (checkpoint : Checkpoint Db) : Type 0 where
  pub can : CanBeCheckpoint config.format.rows checkpoint
  pub known : checkpoint.head.version ≤ config.latest
  pub fits : length (checkpoint_encoding config.format.rows checkpoint) ≤ SECTOR * config.geometry.checkpoint

-- The first `written` sectors of the new checkpoint are on the device.
pub record HasWritten {Db C : Type 0} (config : StoreConfig Db C) (base : CheckpointPair Db C) (written : ℕ) (moment : Moment) : Type 0 where
  pub inside : SECTOR * written ≤ length (checkpoint_encoding config.format.rows base.new)
  pub front : part (SECTOR * area_at config.geometry base.half) (SECTOR * written) moment.reads
      ≡ take (SECTOR * written) (checkpoint_encoding config.format.rows base.new)

-- What the checkpointer relies on in each phase.
abbrev pub BasePart : {Db C : Type 0} → Check → StoreConfig Db C → CheckpointPair Db C → ℕ → Moment → Type 0
BasePart Ready config base written moment = IsOtherHalfReady config base moment
BasePart Sealed config base written moment = OldStands config base moment × IsClosedHalf config.geometry base.half moment
BasePart Planned config base written moment =
    OldStands config base moment × IsClosedHalf config.geometry base.half moment
    × CanBeNewCheckpoint config base.new × HasWritten config base written moment
BasePart Laid config base written moment =
    OldStands config base moment × IsClosedHalf config.geometry base.half moment × HasCheckpoint config base.half base.new moment
BasePart Switched config base written moment =
    OldStands config base moment × HasCheckpoint config base.half base.new moment × ReadsOpen config.geometry base.half moment
BasePart SwitchFailed config base written moment = OldStands config base moment × HasCheckpoint config base.half base.new moment
BasePart Live config base written moment = NewStands config base moment
BasePart Closing config base written moment =
    NewStands config base moment × (¬ ReadsOpen config.geometry (other base.half) moment) × FirstReadsClosed config.geometry (other base.half) moment
BasePart CloseFailed config base written moment = NewStands config base moment

-- A seal may be in the tail's journal only where the other half is ready.
abbrev pub MayBeSealed : Check → Bool → Type 0
MayBeSealed Ready sealed = Unit {0}
MayBeSealed Sealed sealed = sealed ≡ false
MayBeSealed Planned sealed = sealed ≡ false
MayBeSealed Laid sealed = sealed ≡ false
MayBeSealed Switched sealed = sealed ≡ false
MayBeSealed SwitchFailed sealed = sealed ≡ false
MayBeSealed Live sealed = sealed ≡ false
MayBeSealed Closing sealed = sealed ≡ false
MayBeSealed CloseFailed sealed = sealed ≡ false
