-- What a device holds for a state after commands: one is accepted, a group is staged, or a seal is.
-- Each statement is the contract of a function.
use Rattle.std.specs.Prelude.{◌≡◌, ℕ, ◌≤◌, [], ◌∷◌, ◌++◌, length, take}
use Rattle.sector_dev.specs.Disk.{Moment}
use Rattle.store_layout.specs.Limits.{limits_of}
use Rattle.store_layout.specs.Group.{last_place, group_sectors, JournalHasRoom, CanBeGroup}
use Rattle.group_phases.specs.declared.phases.Flush.TheVariants.{Resting, Staged}
use Rattle.group_phases.specs.declared.phases.Check.TheVariants.{Ready}
use Rattle.group_phases.specs.StoreConfig.{StoreConfig}
use Rattle.group_phases.specs.CommitState.{CommitState, DeviceContents, IsHeldBy}

-- The state with a command accepted after the pending ones.
abbrev pub with_accepted_command : {Db C : Type 0} → CommitState Db C → C → CommitState Db C
with_accepted_command state command = record state { pending = state.pending ++ command ∷ [] }

-- The device still holds what the state represents when a command is accepted, whatever is in
-- flight.
abbrev pub HeldWhenAccepted : Type 0 → Type 0 → Type 0
HeldWhenAccepted Db C =
    (config : StoreConfig Db C) (state : CommitState Db C) (behind : DeviceContents Db C) (moment : Moment) (command : C)
    → IsHeldBy config state behind moment → IsHeldBy config (with_accepted_command state command) behind moment

-- The state with its first `taken` pending commands staged, or a seal where `taken` is 0.
abbrev pub staged : {Db C : Type 0} → CommitState Db C → ℕ → CommitState Db C
staged state taken = record state { taken = taken; flush = Staged }

-- The first `taken` pending commands may be a group at the place reached, and have room after the
-- tail's gate.
pub record CanBeStaged {Db C : Type 0} (config : StoreConfig Db C) (state : CommitState Db C) (taken : ℕ) : Type 0 where
  pub inside : taken ≤ length state.pending
  pub can : CanBeGroup config.format.commands (limits_of state.version) state.value.place (take taken state.pending)
  pub room : JournalHasRoom state.gate (group_sectors config.format.commands (take taken state.pending)) config.geometry.journal

-- The device still holds what the state represents when a group is staged.
abbrev pub HeldWhenGroupIsStaged : Type 0 → Type 0 → Type 0
HeldWhenGroupIsStaged Db C =
    (config : StoreConfig Db C) (state : CommitState Db C) (behind : DeviceContents Db C) (moment : Moment) (taken : ℕ)
    → state.flush ≡ Resting → 1 ≤ taken → CanBeStaged config state taken
    → IsHeldBy config state behind moment → IsHeldBy config (staged state taken) behind moment

-- The device still holds what the state represents when a seal is staged, where the other half is
-- ready.
abbrev pub HeldWhenSealIsStaged : Type 0 → Type 0 → Type 0
HeldWhenSealIsStaged Db C =
    (config : StoreConfig Db C) (state : CommitState Db C) (behind : DeviceContents Db C) (moment : Moment)
    → state.flush ≡ Resting → state.check ≡ Ready → state.value.place ≤ last_place
    → IsHeldBy config state behind moment → IsHeldBy config (staged state 0) behind moment
