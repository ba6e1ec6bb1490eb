-- What the checkpointer's calls do to its part, and what publishing a seal does. Each statement is
-- the contract of a function.
use Rattle.std.specs.Prelude.{◌≡◌, ℕ, ◌+◌, ◌*◌, ◌≤◌, [], ◌++◌, length, Result}
use Rattle.byte_lists.specs.Content.{part}
use Rattle.sector_dev.specs.Disk.{Moment, Disk, IsHonest}
use Rattle.sector_dev.specs.Calls.{WriteCall, SyncCall}
use Rattle.store_layout.specs.Limits.{Limits, AreAsLarge, limits_of}
use Rattle.store_layout.specs.CommandFormat.{CommandFormat}
use Rattle.store_layout.specs.Layout.{Geometry, IsGeometry, other, area_at, gate_at}
use Rattle.store_layout.specs.Checkpoint.{Checkpoint, checkpoint_encoding}
use Rattle.group_phases.specs.declared.phases.Flush.{Flush}
use Rattle.group_phases.specs.declared.phases.Flush.TheVariants.{Resting, Durable}
use Rattle.group_phases.specs.declared.phases.Check.{Check}
use Rattle.group_phases.specs.declared.phases.Check.TheVariants.{Ready, Sealed, Planned, Laid, Switched, SwitchFailed, Live, Closing, CloseFailed}
use Rattle.group_phases.specs.StoreConfig.{StoreConfig, HasTitle}
use Rattle.byte_lists.specs.Sectors.{closed_gate, open_gate}
use Rattle.byte_lists.specs.declared.format.TheConstants.{SECTOR}
use Rattle.group_phases.specs.Tail.{GroupOrSeal, Seal, Tail, tail_place}
use Rattle.group_phases.specs.FlusherPart.{FlusherPart}
use Rattle.group_phases.specs.BasePart.{CheckpointPair, FoldsTo, CanBeNewCheckpoint, BasePart}
use Rattle.group_phases.specs.Kept.{IsBesideJournal}
use Rattle.group_phases.specs.FlusherSteps.{by_result}

-- The flusher's part under limits is its part under larger limits.
abbrev pub StaysUnderLargerLimits : Type 0 → Type 0
StaysUnderLargerLimits C =
    (phase : Flush) (format : CommandFormat C) (small large : Limits) (geometry : Geometry) (tail : Tail C) (load : GroupOrSeal C) (moment : Moment)
    → AreAsLarge small large → FlusherPart phase format small geometry tail load moment → FlusherPart phase format large geometry tail load moment

-- Once the new half counts, the tail may be written under the limits of its version.
abbrev pub TakesTheNewVersion : Type 0 → Type 0 → Type 0
TakesTheNewVersion Db C =
    (config : StoreConfig Db C) (base : CheckpointPair Db C) (written : ℕ) (moment : Moment)
    → BasePart Live config base written moment → BasePart Live config (record base { version = base.new.head.version }) written moment

-- The tail after a durable seal. The tail continues in the other journal, with no group yet.
abbrev pub tail_switched : {C : Type 0} → Tail C → Tail C
tail_switched tail = record { half = other tail.half; start = tail_place tail; groups = []; gate = 0 }

-- The pair of checkpoints after a durable seal: the half that had the tail now counts as the old
-- one, until a checkpoint of it is in the other half.
abbrev pub base_switched : {Db C : Type 0} → CheckpointPair Db C → Tail C → Checkpoint Db → CheckpointPair Db C
base_switched base tail next =
    record { half = other base.half; version = base.version; new = next; old = base.new; groups = tail.groups; gate = tail.gate }

-- Publishing a durable seal puts the checkpointer at `Sealed` and the flusher at `Resting`.
abbrev pub PublishesSeal : Type 0 → Type 0 → Type 0
PublishesSeal Db C =
    (config : StoreConfig Db C) (base : CheckpointPair Db C) (tail : Tail C) (next : Checkpoint Db) (written : ℕ) (moment : Moment)
    → tail.half ≡ base.half → tail.start ≡ base.new.head.place → FoldsTo config.format (base_switched base tail next)
    → HasTitle config.geometry moment → BasePart Ready config base written moment
    → FlusherPart Durable config.format.commands (limits_of base.version) config.geometry tail Seal moment
    → BasePart Sealed config (base_switched base tail next) written moment
    × FlusherPart Resting config.format.commands (limits_of base.version) config.geometry (tail_switched tail) Seal moment

-- The pair with this checkpoint as the new one.
abbrev pub with_new : {Db C : Type 0} → CheckpointPair Db C → Checkpoint Db → CheckpointPair Db C
with_new base next = record base { new = next }

-- A plan begins with a checkpoint that has what the sealed half represents, and that may be
-- written.
abbrev pub BeginsPlan : Type 0 → Type 0 → Type 0
BeginsPlan Db C =
    (config : StoreConfig Db C) (base : CheckpointPair Db C) (next : Checkpoint Db) (written : ℕ) (moment : Moment)
    → FoldsTo config.format (with_new base next) → CanBeNewCheckpoint config next
    → BasePart Sealed config base written moment → BasePart Planned config (with_new base next) 0 moment

-- The checkpointer writes beside the tail's journal.
pub record WritesBeside {Db C : Type 0} (config : StoreConfig Db C) (base : CheckpointPair Db C) (written more : ℕ) : Type 0 where
  -- The sectors of the new checkpoint are beside it.
  pub chunk : IsBesideJournal config.geometry base.half (area_at config.geometry base.half + written)
      (length (part (SECTOR * written) (SECTOR * more) (checkpoint_encoding config.format.rows base.new)))
  -- The new half's gate is beside it.
  pub gate : IsBesideJournal config.geometry base.half (gate_at config.geometry base.half) (length open_gate)
  -- The old half's gate and the first gate of its journal are beside it.
  pub gates : IsBesideJournal config.geometry base.half (gate_at config.geometry (other base.half)) (length (closed_gate ++ closed_gate))

-- The checkpointer writes beside the tail's journal, whatever it has to write.
abbrev pub WritesBesideJournal : Type 0 → Type 0 → Type 0
WritesBesideJournal Db C =
    (config : StoreConfig Db C) (base : CheckpointPair Db C) (written more : ℕ) → IsGeometry config.geometry → CanBeNewCheckpoint config base.new
    → SECTOR * (written + more) ≤ length (checkpoint_encoding config.format.rows base.new) → WritesBeside config base written more

-- The next sectors of the new checkpoint are written.
abbrev pub ChunkIsWritten : Type 0 → Type 0 → Type 0 → Type 0 → Type 0
ChunkIsWritten T E Db C =
    (config : StoreConfig Db C) (base : CheckpointPair Db C) (written more : ℕ) (result : Result T E) (old new : Disk)
    → SECTOR * (written + more) ≤ length (checkpoint_encoding config.format.rows base.new)
    → WriteCall (area_at config.geometry base.half + written)
    (part (SECTOR * written) (SECTOR * more) (checkpoint_encoding config.format.rows base.new)) result old new → IsHonest old
    → HasTitle config.geometry old.history.now → BasePart Planned config base written old.history.now
    → BasePart Planned config base (by_result (written + more) written result) new.history.now

-- A sync leads from one phase to the next. Where the sync fails, the phase stays.
abbrev pub IsBaseSync : Type 0 → Type 0 → Type 0 → Type 0 → Check → Check → Type 0
IsBaseSync T E Db C from done =
    (config : StoreConfig Db C) (base : CheckpointPair Db C) (written : ℕ) (result : Result T E) (old new : Disk)
    → SyncCall result old new → IsHonest old
    → HasTitle config.geometry old.history.now → BasePart from config base written old.history.now
    → BasePart (by_result done from result) config base written new.history.now

-- Once the whole new checkpoint is written, it is synced.
abbrev pub ChunksAreSynced : Type 0 → Type 0 → Type 0 → Type 0 → Type 0
ChunksAreSynced T E Db C =
    (config : StoreConfig Db C) (base : CheckpointPair Db C) (written : ℕ) (result : Result T E) (old new : Disk)
    → SECTOR * written ≡ length (checkpoint_encoding config.format.rows base.new)
    → SyncCall result old new → IsHonest old
    → HasTitle config.geometry old.history.now → BasePart Planned config base written old.history.now
    → BasePart (by_result Laid Planned result) config base written new.history.now

-- The new half's gate is written open.
abbrev pub OpensHalf : Type 0 → Type 0 → Type 0 → Type 0 → Type 0
OpensHalf T E Db C =
    (config : StoreConfig Db C) (base : CheckpointPair Db C) (written : ℕ) (result : Result T E) (old new : Disk)
    → WriteCall (gate_at config.geometry base.half) open_gate result old new → IsHonest old
    → HasTitle config.geometry old.history.now → BasePart Laid config base written old.history.now
    → BasePart (by_result Switched SwitchFailed result) config base written new.history.now

-- The open gate of the new half is synced.
abbrev pub HalfIsSynced : Type 0 → Type 0 → Type 0 → Type 0 → Type 0
HalfIsSynced T E Db C = IsBaseSync T E Db C Switched Live

-- The old half's gate and the first gate of its journal are written closed, in one write.
abbrev pub ClosesHalf : Type 0 → Type 0 → Type 0 → Type 0 → Type 0
ClosesHalf T E Db C =
    (config : StoreConfig Db C) (base : CheckpointPair Db C) (written : ℕ) (result : Result T E) (old new : Disk)
    → WriteCall (gate_at config.geometry (other base.half)) (closed_gate ++ closed_gate) result old new → IsHonest old
    → HasTitle config.geometry old.history.now → BasePart Live config base written old.history.now
    → BasePart (by_result Closing CloseFailed result) config base written new.history.now

-- The closed gates of the old half are synced.
abbrev pub CloseIsSynced : Type 0 → Type 0 → Type 0 → Type 0 → Type 0
CloseIsSynced T E Db C = IsBaseSync T E Db C Closing Ready
