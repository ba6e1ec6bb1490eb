-- What each call of an actor leaves on a device that holds what a state represents, and what a stop
-- within it leaves. Each statement is the contract of a function.
use Rattle.std.specs.Prelude.{◌≡◌, ◌⊎◌, ℕ, ◌+◌, List, Result}
use Rattle.sector_dev.specs.Disk.{Disk, IsHonest}
use Rattle.sector_dev.specs.Calls.{WriteCall, SyncCall}
use Rattle.sector_dev.specs.Stretch.{Stretch}
use Rattle.store_layout.specs.Layout.{journal_at}
use Rattle.group_phases.specs.declared.phases.Flush.{Flush}
use Rattle.group_phases.specs.declared.phases.Flush.TheVariants.{Staged, Written, Stable, Opened, Doubtful}
use Rattle.group_phases.specs.StoreConfig.{StoreConfig}
use Rattle.byte_lists.specs.Sectors.{open_gate}
use Rattle.group_phases.specs.Tail.{load_bytes}
use Rattle.group_phases.specs.FlusherSteps.{by_result}
use Rattle.group_phases.specs.CommitState.{CommitState, load_of, DeviceContents, IsHeldBy, IsHeld, OpensToFront}

-- The state with the flusher in another phase.
abbrev pub flushed : {Db C : Type 0} → CommitState Db C → Flush → CommitState Db C
flushed state phase = record state { flush = phase }

-- What is in flight is written, whatever the checkpointer's phase.
abbrev pub HeldWhileLoadIsWritten : Type 0 → Type 0 → Type 0 → Type 0 → Type 0
HeldWhileLoadIsWritten T E Db C =
    (config : StoreConfig Db C) (state : CommitState Db C) (behind : DeviceContents Db C) (result : Result T E) (old new : Disk)
    → state.flush ≡ Staged
    → WriteCall (journal_at config.geometry state.half + (state.gate + 1))
    (load_bytes config.format.commands state.value.place (load_of state)) result old new
    → IsHonest old → IsHeldBy config state behind old.history.now
    → IsHeldBy config (flushed state (by_result Written Staged result)) behind new.history.now

-- The tail's gate is written, whatever the checkpointer's phase.
abbrev pub HeldWhileGateIsOpened : Type 0 → Type 0 → Type 0 → Type 0 → Type 0
HeldWhileGateIsOpened T E Db C =
    (config : StoreConfig Db C) (state : CommitState Db C) (behind : DeviceContents Db C) (result : Result T E) (old new : Disk)
    → state.flush ≡ Stable
    → WriteCall (journal_at config.geometry state.half + state.gate) open_gate result old new
    → IsHonest old → IsHeldBy config state behind old.history.now
    → IsHeldBy config (flushed state (by_result Opened Doubtful result)) behind new.history.now

-- A sync leads from one phase of the flusher to the next, whatever the checkpointer's phase.
abbrev pub HeldWhileSynced : Flush → Flush → Type 0 → Type 0 → Type 0 → Type 0 → Type 0
HeldWhileSynced from done T E Db C =
    (config : StoreConfig Db C) (state : CommitState Db C) (behind : DeviceContents Db C) (result : Result T E) (old new : Disk)
    → state.flush ≡ from
    → SyncCall result old new
    → IsHonest old → IsHeldBy config state behind old.history.now
    → IsHeldBy config (flushed state (by_result done from result)) behind new.history.now

-- An image after a stop within a call opens to what a stop before the call or after it may leave.
abbrev pub OpensAroundCall : {Db C : Type 0} → StoreConfig Db C → CommitState Db C → CommitState Db C → List ℕ → Type 0
OpensAroundCall config before after image = OpensToFront config before image ⊎ OpensToFront config after image

-- A stop within a write leaves what a stop before it or after it may leave.
abbrev pub WritesLeaveFronts : Type 0 → Type 0 → Type 0 → Type 0 → Type 0
WritesLeaveFronts T E Db C =
    (config : StoreConfig Db C) (before after : CommitState Db C) (sector : ℕ) (bytes : List ℕ) (result : Result T E) (old new : Disk)
    → WriteCall sector bytes result old new
    → (IsHonest old → IsHeld config before old.history.now) → (IsHonest new → IsHeld config after new.history.now)
    → Stretch old new (OpensAroundCall config before after)

-- A stop within a sync leaves what a stop before it or after it may leave.
abbrev pub SyncsLeaveFronts : Type 0 → Type 0 → Type 0 → Type 0 → Type 0
SyncsLeaveFronts T E Db C =
    (config : StoreConfig Db C) (before : CommitState Db C) (result : Result T E) (old new : Disk) → SyncCall result old new
    → (IsHonest old → IsHeld config before old.history.now) → Stretch old new (OpensToFront config before)
