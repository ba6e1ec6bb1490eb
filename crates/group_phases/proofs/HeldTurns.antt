-- What becomes of what a device holds for a state without a call.
use Rattle.std.proofs.Common.{◌≡◌, ℕ, zero, suc, ◌≤◌, false, List, [], ◌∷◌, ◌++◌, length, take, refl, sym, ◌∙◌, ap, subst, arith, length-append}
use Rattle.store_layout.specs.Limits.{limits_of}
use Rattle.store_layout.specs.Journal.{all_of}
use Rattle.store_layout.specs.Layout.{other}
use Rattle.store_layout.specs.StoreFormat.{db_after}
use Rattle.store_layout.proofs.Exports.{all_of_more, folds_in_parts, later_allow_more}
use Rattle.group_phases.specs.declared.phases.Flush.{Flush}
use Rattle.group_phases.specs.declared.phases.Flush.TheVariants.{Resting, Durable}
use Rattle.group_phases.specs.declared.phases.Check.{Check}
use Rattle.group_phases.specs.declared.phases.Check.TheVariants.{Ready, Sealed, Live}
use Rattle.group_phases.specs.Tail.{GroupOrSeal, Commands, Seal, Tail}
use Rattle.group_phases.specs.FlusherPart.{FlusherPart}
use Rattle.group_phases.specs.FollowerPart.{IsFollowed}
use Rattle.group_phases.specs.BasePart.{CheckpointPair, BasePart, MayBeSealed}
use Rattle.group_phases.specs.CheckpointerSteps.{tail_switched, base_switched}
use Rattle.group_phases.specs.CommitState.{load_by, load_of, seals, tail_of, checkpoint_pair_of}
use Rattle.group_phases.specs.HeldTurns.{HeldWhenGroupIsPublished, HeldWhenSealIsPublished, HeldWhenPlanBegins, HeldUnderTheNewVersion}
use Rattle.group_phases.proofs.CommitStates.{unsealed_may}
use Rattle.group_phases.proofs.FlusherSteps.{publishes_group}
use Rattle.group_phases.proofs.Followers.{follows_under_larger_limits}
use Rattle.group_phases.proofs.CheckpointerSteps.{stays_under_larger_limits, takes_the_new_version, publishes_seal, begins_plan}

-- what is in flight, by how many commands are
pub load_some : {C : Type 0} (taken : ℕ) (pending : List C) → 1 ≤ taken → load_by taken pending ≡ Commands (take taken pending)
load_some zero pending some = absurd (omega arith)
load_some (suc n) pending some = refl

pub held_when_group_is_published : (Db C : Type 0) → HeldWhenGroupIsPublished Db C
held_when_group_is_published Db C config state behind moment is some held = record {
  title = held.title;
  taken = omega arith;
  place = omega (arith, ap length more, length-append (all_of behind.groups) group, held.place);
  db = ap (db_after config.format behind.new.db) more ∙ folds_in_parts Db C config.format behind.new.db (all_of behind.groups) group ∙ ap (λ (db : Db). db_after config.format db group) held.db;
  flusher = publishes_group C config.format.commands (limits_of state.version) config.geometry tail group moment held.title durable;
  base = held.base;
  seal = unsealed_may state.check;
  follower = tt;
}
  where
    group : List C
    group = take state.taken state.pending

    tail : Tail C
    tail = tail_of state behind

    more : all_of (behind.groups ++ group ∷ []) ≡ all_of behind.groups ++ group
    more = all_of_more config.format.commands (limits_of state.version) behind.groups group

    durable : FlusherPart Durable config.format.commands (limits_of state.version) config.geometry tail (Commands group) moment
    durable =
        subst (λ (load : GroupOrSeal C). FlusherPart Durable config.format.commands (limits_of state.version) config.geometry tail load moment) (load_some state.taken state.pending some)
        (subst (λ (p : Flush). FlusherPart p config.format.commands (limits_of state.version) config.geometry tail (load_of state) moment) is held.flusher)

pub held_when_seal_is_published : (Db C : Type 0) → HeldWhenSealIsPublished Db C
held_when_seal_is_published Db C config state behind moment next is none turn held folds = record {
  title = held.title;
  taken = held.taken;
  place = omega (arith, folds.place, held.place);
  db = sym folds.db ∙ held.db;
  flusher =
      subst (λ (load : GroupOrSeal C). FlusherPart Resting config.format.commands (limits_of state.version) config.geometry (tail_of_next next.head.place) load moment) (sym nothing)
      (subst (λ (start : ℕ). FlusherPart Resting config.format.commands (limits_of state.version) config.geometry (tail_of_next start) Seal moment) folds.place published.1);
  base = published.0;
  seal = refl;
  follower = tt;
}
  where
    tail : Tail C
    tail = tail_of state behind

    base : CheckpointPair Db C
    base = checkpoint_pair_of state behind

    tail_of_next : ℕ → Tail C
    tail_of_next start = record { half = other state.half; start = start; groups = []; gate = 0 }

    nothing : load_of state ≡ Seal
    nothing = ap (λ (n : ℕ). load_by n state.pending) none

    durable : FlusherPart Durable config.format.commands (limits_of state.version) config.geometry tail Seal moment
    durable =
        subst (λ (load : GroupOrSeal C). FlusherPart Durable config.format.commands (limits_of state.version) config.geometry tail load moment) nothing
        (subst (λ (p : Flush). FlusherPart p config.format.commands (limits_of state.version) config.geometry tail (load_of state) moment) is held.flusher)

    ready : BasePart Ready config base state.written moment
    ready = subst (λ (p : Check). BasePart p config base state.written moment) turn held.base

    published : BasePart Sealed config (base_switched base tail next) state.written moment
        × FlusherPart Resting config.format.commands (limits_of state.version) config.geometry (tail_switched tail) Seal moment
    published = publishes_seal Db C config base tail next state.written moment refl refl folds held.title ready durable

pub held_when_plan_begins : (Db C : Type 0) → HeldWhenPlanBegins Db C
held_when_plan_begins Db C config state behind moment next is held folds can = record {
  title = held.title;
  taken = held.taken;
  place = omega (arith, same_place, held.place);
  db = ap (λ (db : Db). db_after config.format db (all_of behind.groups)) (sym folds.db ∙ sealed.0.folds.db) ∙ held.db;
  flusher = subst (λ (start : ℕ). FlusherPart state.flush config.format.commands (limits_of state.version) config.geometry (record { half = state.half; start = start; groups = behind.groups; gate = state.gate }) (load_of state) moment) same_place held.flusher;
  base = begins_plan Db C config base next state.written moment folds can sealed;
  seal = held_seal;
  follower = subst (λ (start : ℕ). IsFollowed state.flush config.format.commands (limits_of state.version) config.geometry (record { half = state.half; start = start; groups = behind.groups; gate = state.gate }) state.pending state.taken state.following moment) same_place held.follower;
}
  where
    base : CheckpointPair Db C
    base = checkpoint_pair_of state behind

    sealed : BasePart Sealed config base state.written moment
    sealed = subst (λ (p : Check). BasePart p config base state.written moment) is held.base

    same_place : behind.new.head.place ≡ next.head.place
    same_place = sym sealed.0.folds.place ∙ folds.place

    held_seal : seals state.flush (load_of state) ≡ false
    held_seal = subst (λ (p : Check). MayBeSealed p (seals state.flush (load_of state))) is held.seal

pub held_under_the_new_version : (Db C : Type 0) → HeldUnderTheNewVersion Db C
held_under_the_new_version Db C config state behind moment is held = record {
  title = held.title;
  taken = held.taken;
  place = held.place;
  db = held.db;
  flusher = stays_under_larger_limits C state.flush config.format.commands (limits_of state.version) (limits_of behind.new.head.version) config.geometry
      (tail_of state behind) (load_of state) moment (later_allow_more state.version behind.new.head.version live.tail) held.flusher;
  base = subst (λ (p : Check). BasePart p config later state.written moment) (sym is) (takes_the_new_version Db C config base state.written moment live);
  seal = held.seal;
  follower = follows_under_larger_limits state.flush config.format.commands (limits_of state.version) (limits_of behind.new.head.version) config.geometry (tail_of state behind)
      state.pending state.taken state.following moment (later_allow_more state.version behind.new.head.version live.tail) held.follower;
}
  where
    base : CheckpointPair Db C
    base = checkpoint_pair_of state behind

    later : CheckpointPair Db C
    later = record base { version = behind.new.head.version }

    live : BasePart Live config base state.written moment
    live = subst (λ (p : Check). BasePart p config base state.written moment) is held.base
