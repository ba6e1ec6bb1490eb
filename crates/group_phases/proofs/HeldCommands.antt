-- What becomes of what a device holds for a state when commands come.
use Rattle.std.proofs.Common.{◌≡◌, ℕ, zero, suc, ◌≤◌, List, [], ◌∷◌, ◌++◌, length, take, refl, sym, ap, subst, arith, length-append}
use Rattle.store_layout.specs.Limits.{limits_of}
use Rattle.store_layout.specs.Group.{CanBeGroup}
use Rattle.group_phases.specs.declared.phases.Flush.{Flush}
use Rattle.group_phases.specs.declared.phases.Flush.TheVariants.{Resting, Staged}
use Rattle.group_phases.specs.declared.phases.Check.{Check}
use Rattle.group_phases.specs.Tail.{GroupOrSeal, Commands, Seal, CanBeLoad}
use Rattle.group_phases.specs.FlusherPart.{FlusherPart}
use Rattle.group_phases.specs.BasePart.{MayBeSealed}
use Rattle.group_phases.specs.StoreConfig.{StoreConfig}
use Rattle.sector_dev.specs.Disk.{Moment}
use Rattle.group_phases.specs.CommitState.{CommitState, DeviceContents, load_by, load_of, seals, tail_of, IsHeldBy}
use Rattle.group_phases.specs.HeldCommands.{HeldWhenAccepted, HeldWhenGroupIsStaged, HeldWhenSealIsStaged}
use Rattle.group_phases.proofs.CommitStates.{unsealed_may}
use Rattle.group_phases.proofs.Followers.{take_front, follows_before_more}
use Rattle.group_phases.proofs.HeldTurns.{load_some}

load_front : {A : Type 0} (n : ℕ) (front behind : List A) → n ≤ length front → load_by n (front ++ behind) ≡ load_by n front
load_front zero front behind inside = refl
load_front (suc n) front behind inside = ap Commands (take_front (suc n) front behind inside)

pub held_when_accepted : (Db C : Type 0) → HeldWhenAccepted Db C
held_when_accepted Db C config state behind moment command held = record {
  title = held.title;
  taken = omega (arith, length-append state.pending (command ∷ []), held.taken);
  place = held.place;
  db = held.db;
  flusher =
      subst (λ (load : GroupOrSeal C). FlusherPart state.flush config.format.commands (limits_of state.version) config.geometry (tail_of state behind) load moment) (sym same) held.flusher;
  base = held.base;
  seal = subst (λ (load : GroupOrSeal C). MayBeSealed state.check (seals state.flush load)) (sym same) held.seal;
  follower = follows_before_more state.flush config.format.commands (limits_of state.version) config.geometry (tail_of state behind)
      state.pending (command ∷ []) state.taken state.following moment held.follower;
}
  where
    same : load_by state.taken (state.pending ++ command ∷ []) ≡ load_by state.taken state.pending
    same = load_front state.taken state.pending (command ∷ []) held.taken

-- at rest the tail's gate is closed
module _ {Db C : Type 0} (config : StoreConfig Db C) (state : CommitState Db C) (behind : DeviceContents Db C) (moment : Moment) (held : IsHeldBy config state behind moment)
    (is : state.flush ≡ Resting) where
  resting : FlusherPart Resting config.format.commands (limits_of state.version) config.geometry (tail_of state behind) (load_of state) moment
  resting = subst (λ (p : Flush). FlusherPart p config.format.commands (limits_of state.version) config.geometry (tail_of state behind) (load_of state) moment) is held.flusher

  -- what can be in flight is staged there
  staged_part : (load : GroupOrSeal C) → CanBeLoad config.format.commands (limits_of state.version) config.geometry (tail_of state behind) load
      → FlusherPart Staged config.format.commands (limits_of state.version) config.geometry (tail_of state behind) load moment
  staged_part load can = record { groups = resting.groups; can = can; facts = resting.facts }

pub held_when_group_is_staged : (Db C : Type 0) → HeldWhenGroupIsStaged Db C
held_when_group_is_staged Db C config state behind moment taken is some can held = record {
  title = held.title;
  taken = can.inside;
  place = held.place;
  db = held.db;
  flusher =
      subst (λ (load : GroupOrSeal C). FlusherPart Staged config.format.commands (limits_of state.version) config.geometry (tail_of state behind) load moment) (sym group)
      (staged_part config state behind moment held is (Commands (take taken state.pending))
      (subst (λ (place : ℕ). CanBeGroup config.format.commands (limits_of state.version) place (take taken state.pending)) (sym held.place) can.can, can.room));
  base = held.base;
  seal = subst (λ (load : GroupOrSeal C). MayBeSealed state.check (seals Staged load)) (sym group) (unsealed_may state.check);
  follower = tt;
}
  where
    group : load_by taken state.pending ≡ Commands (take taken state.pending)
    group = load_some taken state.pending some

pub held_when_seal_is_staged : (Db C : Type 0) → HeldWhenSealIsStaged Db C
held_when_seal_is_staged Db C config state behind moment is ready place held = record {
  title = held.title;
  taken = omega arith;
  place = held.place;
  db = held.db;
  flusher = staged_part config state behind moment held is Seal (omega (arith, place, held.place));
  base = held.base;
  seal = subst (λ (p : Check). MayBeSealed p (seals Staged (load_by 0 state.pending))) (sym ready) tt;
  follower = tt;
}
