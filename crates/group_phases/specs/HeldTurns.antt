-- What a device holds for a state after a turn without a call: a durable group or seal is
-- published, a plan begins, or the new half's version counts. Each statement is the contract of a
-- function.
use Rattle.std.specs.Prelude.{◌≡◌, ◌≤◌, [], ◌∷◌, ◌++◌, take, drop}
use Rattle.sector_dev.specs.Disk.{Moment}
use Rattle.store_layout.specs.Journal.{gate_behind}
use Rattle.store_layout.specs.Layout.{other}
use Rattle.store_layout.specs.Checkpoint.{Checkpoint}
use Rattle.store_layout.specs.StoreValues.{value_after}
use Rattle.group_phases.specs.declared.phases.Flush.TheVariants.{Resting, Durable}
use Rattle.group_phases.specs.declared.phases.Check.TheVariants.{Ready, Sealed, Planned, Live}
use Rattle.group_phases.specs.StoreConfig.{StoreConfig}
use Rattle.group_phases.specs.BasePart.{FoldsTo, CanBeNewCheckpoint}
use Rattle.group_phases.specs.CheckpointerSteps.{base_switched, with_new}
use Rattle.group_phases.specs.CommitState.{CommitState, DeviceContents, tail_of, checkpoint_pair_of, IsHeldBy}
use Rattle.group_phases.specs.HeldChecks.{checked}

-- The state after a durable group is committed.
abbrev pub group_published : {Db C : Type 0} → StoreConfig Db C → CommitState Db C → CommitState Db C
group_published config state = record state {
  value = value_after config.format state.value (take state.taken state.pending);
  pending = drop state.taken state.pending;
  taken = 0;
  flush = Resting;
  gate = gate_behind config.format.commands state.gate (take state.taken state.pending);
}

-- The contents of the device after that group is committed.
abbrev pub behind_group : {Db C : Type 0} → CommitState Db C → DeviceContents Db C → DeviceContents Db C
behind_group state behind = record behind { groups = behind.groups ++ take state.taken state.pending ∷ [] }

-- The device still holds what the state represents when a durable group is published.
abbrev pub HeldWhenGroupIsPublished : Type 0 → Type 0 → Type 0
HeldWhenGroupIsPublished Db C =
    (config : StoreConfig Db C) (state : CommitState Db C) (behind : DeviceContents Db C) (moment : Moment) → state.flush ≡ Durable → 1 ≤ state.taken
    → IsHeldBy config state behind moment → IsHeldBy config (group_published config state) (behind_group state behind) moment

-- The state after a durable seal: the tail continues in the other half, and the sealed half awaits
-- its checkpoint.
abbrev pub seal_published : {Db C : Type 0} → CommitState Db C → CommitState Db C
seal_published state = record state { flush = Resting; check = Sealed; half = other state.half; gate = 0 }

-- The contents of the device after that seal is published.
abbrev pub behind_seal : {Db C : Type 0} → CommitState Db C → DeviceContents Db C → Checkpoint Db → DeviceContents Db C
behind_seal state behind next = record {
  groups = [];
  new = next;
  old = behind.new;
  old_groups = behind.groups;
  old_gate = state.gate;
}

-- The device still holds what the state represents when a durable seal is published.
abbrev pub HeldWhenSealIsPublished : Type 0 → Type 0 → Type 0
HeldWhenSealIsPublished Db C =
    (config : StoreConfig Db C) (state : CommitState Db C) (behind : DeviceContents Db C) (moment : Moment) (next : Checkpoint Db)
    → state.flush ≡ Durable → state.taken ≡ 0 → state.check ≡ Ready
    → IsHeldBy config state behind moment
    → FoldsTo config.format (base_switched (checkpoint_pair_of state behind) (tail_of state behind) next)
    → IsHeldBy config (seal_published state) (behind_seal state behind next) moment

-- The contents of the device after a plan begins, of which nothing is written yet.
abbrev pub behind_plan : {Db C : Type 0} → DeviceContents Db C → Checkpoint Db → DeviceContents Db C
behind_plan behind next = record behind { new = next }

-- The device still holds what the state represents when a plan begins.
abbrev pub HeldWhenPlanBegins : Type 0 → Type 0 → Type 0
HeldWhenPlanBegins Db C =
    (config : StoreConfig Db C) (state : CommitState Db C) (behind : DeviceContents Db C) (moment : Moment) (next : Checkpoint Db)
    → state.check ≡ Sealed → IsHeldBy config state behind moment
    → FoldsTo config.format (with_new (checkpoint_pair_of state behind) next) → CanBeNewCheckpoint config next
    → IsHeldBy config (checked state Planned 0) (behind_plan behind next) moment

-- The device still holds what the state represents when the new half counts with its version.
abbrev pub HeldUnderTheNewVersion : Type 0 → Type 0 → Type 0
HeldUnderTheNewVersion Db C =
    (config : StoreConfig Db C) (state : CommitState Db C) (behind : DeviceContents Db C) (moment : Moment) → state.check ≡ Live
    → IsHeldBy config state behind moment
    → IsHeldBy config (record state { version = behind.new.head.version }) behind moment
