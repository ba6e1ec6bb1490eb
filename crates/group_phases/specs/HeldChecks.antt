-- What each call of the checkpointer leaves on a device that holds what a state represents, in
-- whatever phase the flusher is. Each statement is the contract of a function.
use Rattle.std.specs.Prelude.{◌≡◌, ℕ, ◌+◌, ◌*◌, ◌≤◌, ◌++◌, length, Result}
use Rattle.byte_lists.specs.Content.{part}
use Rattle.sector_dev.specs.Disk.{Disk, IsHonest}
use Rattle.sector_dev.specs.Calls.{WriteCall, SyncCall}
use Rattle.store_layout.specs.Layout.{other, area_at, gate_at}
use Rattle.store_layout.specs.Checkpoint.{checkpoint_encoding}
use Rattle.group_phases.specs.declared.phases.Check.{Check}
use Rattle.group_phases.specs.declared.phases.Check.TheVariants.{Planned, Laid, Switched, SwitchFailed, Live, Closing, CloseFailed}
use Rattle.group_phases.specs.StoreConfig.{StoreConfig}
use Rattle.byte_lists.specs.Sectors.{closed_gate, open_gate}
use Rattle.byte_lists.specs.declared.format.TheConstants.{SECTOR}
use Rattle.group_phases.specs.FlusherSteps.{by_result}
use Rattle.group_phases.specs.CommitState.{CommitState, DeviceContents, IsHeldBy}

-- The state with the checkpointer in another phase, and `written` sectors of the new checkpoint
-- written.
abbrev pub checked : {Db C : Type 0} → CommitState Db C → Check → ℕ → CommitState Db C
checked state phase written = record state { check = phase; written = written }

-- The next sectors of the new checkpoint are written.
abbrev pub HeldWhileChunkIsWritten : Type 0 → Type 0 → Type 0 → Type 0 → Type 0
HeldWhileChunkIsWritten T E Db C =
    (config : StoreConfig Db C) (state : CommitState Db C) (behind : DeviceContents Db C) (more : ℕ) (result : Result T E) (old new : Disk)
    → state.check ≡ Planned
    → IsHeldBy config state behind old.history.now
    → SECTOR * (state.written + more) ≤ length (checkpoint_encoding config.format.rows behind.new)
    → WriteCall (area_at config.geometry state.half + state.written)
    (part (SECTOR * state.written) (SECTOR * more) (checkpoint_encoding config.format.rows behind.new)) result old new → IsHonest old
    → IsHeldBy config (checked state Planned (by_result (state.written + more) state.written result)) behind new.history.now

-- Once the whole new checkpoint is written, it is synced.
abbrev pub HeldWhileChunksAreSynced : Type 0 → Type 0 → Type 0 → Type 0 → Type 0
HeldWhileChunksAreSynced T E Db C =
    (config : StoreConfig Db C) (state : CommitState Db C) (behind : DeviceContents Db C) (result : Result T E) (old new : Disk)
    → state.check ≡ Planned
    → IsHeldBy config state behind old.history.now
    → SECTOR * state.written ≡ length (checkpoint_encoding config.format.rows behind.new)
    → SyncCall result old new → IsHonest old
    → IsHeldBy config (checked state (by_result Laid Planned result) state.written) behind new.history.now

-- The new half's gate is written.
abbrev pub HeldWhileHalfIsOpened : Type 0 → Type 0 → Type 0 → Type 0 → Type 0
HeldWhileHalfIsOpened T E Db C =
    (config : StoreConfig Db C) (state : CommitState Db C) (behind : DeviceContents Db C) (result : Result T E) (old new : Disk)
    → state.check ≡ Laid
    → WriteCall (gate_at config.geometry state.half) open_gate result old new
    → IsHonest old → IsHeldBy config state behind old.history.now
    → IsHeldBy config (checked state (by_result Switched SwitchFailed result) state.written) behind new.history.now

-- The old half's gate and the first gate of its journal are written.
abbrev pub HeldWhileHalfIsClosed : Type 0 → Type 0 → Type 0 → Type 0 → Type 0
HeldWhileHalfIsClosed T E Db C =
    (config : StoreConfig Db C) (state : CommitState Db C) (behind : DeviceContents Db C) (result : Result T E) (old new : Disk)
    → state.check ≡ Live
    → WriteCall (gate_at config.geometry (other state.half)) (closed_gate ++ closed_gate) result old new
    → IsHonest old → IsHeldBy config state behind old.history.now
    → IsHeldBy config (checked state (by_result Closing CloseFailed result) state.written) behind new.history.now

-- A gate that was written is synced.
abbrev pub HeldWhileHalfIsSynced : Check → Check → Type 0 → Type 0 → Type 0 → Type 0 → Type 0
HeldWhileHalfIsSynced from done T E Db C =
    (config : StoreConfig Db C) (state : CommitState Db C) (behind : DeviceContents Db C) (result : Result T E) (old new : Disk)
    → state.check ≡ from
    → SyncCall result old new
    → IsHonest old → IsHeldBy config state behind old.history.now
    → IsHeldBy config (checked state (by_result done from result) state.written) behind new.history.now
