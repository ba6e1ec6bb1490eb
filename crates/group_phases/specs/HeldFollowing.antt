-- What a device holds for a state while a group follows the group in flight: the following group is
-- staged, it is written, and the group in flight is published. `HeldWhileSynced` says what the sync
-- between the last two does. Each statement is the contract of a function.
use Rattle.std.specs.Prelude.{◌≡◌, ℕ, ◌+◌, ◌≤◌, Result}
use Rattle.sector_dev.specs.Disk.{Moment, Disk, IsHonest}
use Rattle.sector_dev.specs.Calls.{WriteCall}
use Rattle.store_layout.specs.Layout.{journal_at}
use Rattle.group_phases.specs.declared.phases.Flush.{Flush}
use Rattle.group_phases.specs.declared.phases.Flush.TheVariants.{Staged, Stable, Opened, Following, Followed, DurableFollowed}
use Rattle.group_phases.specs.StoreConfig.{StoreConfig}
use Rattle.group_phases.specs.Tail.{load_bytes}
use Rattle.group_phases.specs.FlusherSteps.{by_result}
use Rattle.group_phases.specs.CommitState.{CommitState, load_of, DeviceContents, IsHeldBy}
use Rattle.group_phases.specs.HeldSteps.{flushed}
use Rattle.group_phases.specs.HeldTurns.{group_published, behind_group}
use Rattle.group_phases.specs.HeldCommands.{CanBeStaged}

-- The state after the group in flight is committed, with the following group in flight at a phase.
abbrev pub follower_in_flight : {Db C : Type 0} → StoreConfig Db C → CommitState Db C → Flush → CommitState Db C
follower_in_flight config state phase = record (group_published config state) { taken = state.following; following = 0; flush = phase }

-- The state with the `following` commands after those in flight staged as the following group.
abbrev pub followed : {Db C : Type 0} → CommitState Db C → ℕ → CommitState Db C
followed state following = record state { following = following; flush = Following }

-- The device still holds what the state represents when a following group is staged: one that might
-- be staged after the group in flight is published.
abbrev pub HeldWhenFollowerIsStaged : Type 0 → Type 0 → Type 0
HeldWhenFollowerIsStaged Db C =
    (config : StoreConfig Db C) (state : CommitState Db C) (behind : DeviceContents Db C) (moment : Moment) (following : ℕ)
    → state.flush ≡ Opened → 1 ≤ state.taken → CanBeStaged config (group_published config state) following
    → IsHeldBy config state behind moment → IsHeldBy config (followed state following) behind moment

-- The following group is written: the bytes and the sector are those of its write when it is in
-- flight, whatever the checkpointer's phase.
abbrev pub HeldWhileFollowerIsWritten : Type 0 → Type 0 → Type 0 → Type 0 → Type 0
HeldWhileFollowerIsWritten T E Db C =
    (config : StoreConfig Db C) (state : CommitState Db C) (behind : DeviceContents Db C) (result : Result T E) (old new : Disk)
    → state.flush ≡ Following
    → WriteCall (journal_at config.geometry state.half + ((follower_in_flight config state Staged).gate + 1))
    (load_bytes config.format.commands (follower_in_flight config state Staged).value.place (load_of (follower_in_flight config state Staged))) result old new
    → IsHonest old → IsHeldBy config state behind old.history.now
    → IsHeldBy config (flushed state (by_result Followed Following result)) behind new.history.now

-- The device still holds what the state represents when the group in flight is published and the
-- following group is in flight.
abbrev pub HeldWhenFollowedIsPublished : Type 0 → Type 0 → Type 0
HeldWhenFollowedIsPublished Db C =
    (config : StoreConfig Db C) (state : CommitState Db C) (behind : DeviceContents Db C) (moment : Moment) → state.flush ≡ DurableFollowed
    → IsHeldBy config state behind moment → IsHeldBy config (follower_in_flight config state Stable) (behind_group state behind) moment
