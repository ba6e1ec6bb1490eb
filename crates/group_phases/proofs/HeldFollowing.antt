-- What a device holds for a state when a group follows the one in flight.
use Rattle.std.proofs.Common.{◌≡◌, ℕ, ◌+◌, ◌≤◌, List, [], ◌∷◌, ◌++◌, length, take, drop, refl, sym, ◌∙◌, ap, subst, arith, length-append, length-take, length-drop, Result, Ok, Err}
use Rattle.sector_dev.specs.Disk.{Moment}
use Rattle.sector_dev.specs.Calls.{WriteCall}
use Rattle.store_layout.specs.Limits.{limits_of}
use Rattle.store_layout.specs.Group.{CanBeGroup}
use Rattle.store_layout.specs.Journal.{all_of}
use Rattle.store_layout.specs.StoreFormat.{db_after}
use Rattle.store_layout.proofs.Exports.{all_of_more, folds_in_parts}
use Rattle.group_phases.specs.declared.phases.Flush.{Flush}
use Rattle.group_phases.specs.declared.phases.Flush.TheVariants.{Stable, Opened, Durable, Following, Followed, DurableFollowed}
use Rattle.group_phases.specs.StoreConfig.{StoreConfig}
use Rattle.group_phases.specs.Tail.{GroupOrSeal, Commands, load_bytes, Tail, tail_place, tail_after}
use Rattle.group_phases.specs.FlusherPart.{FlusherPart}
use Rattle.group_phases.specs.FollowerPart.{FollowerPart, Follower, IsFollowed}
use Rattle.group_phases.specs.BasePart.{MayBeSealed}
use Rattle.group_phases.specs.FlusherSteps.{by_result, load_at}
use Rattle.group_phases.specs.CommitState.{CommitState, DeviceContents, load_by, load_of, seals, tail_of, IsHeldBy}
use Rattle.group_phases.specs.HeldSteps.{HeldWhileSynced}
use Rattle.group_phases.specs.HeldFollowing.{HeldWhenFollowerIsStaged, HeldWhileFollowerIsWritten, HeldWhenFollowedIsPublished}
use Rattle.group_phases.proofs.CommitStates.{unsealed_may}
use Rattle.group_phases.proofs.Kept.{tail_writes_leave_base, syncs_leave_both}
use Rattle.group_phases.proofs.FlusherSteps.{length-load}
use Rattle.group_phases.proofs.FollowingSteps.{writes_follower, syncs_follower, publishes_follower}
use Rattle.group_phases.proofs.HeldSteps.{held_flushed, part_at, seals_by}
use Rattle.group_phases.proofs.HeldTurns.{load_some}

-- from what holds by a result at two phases, to what holds by it at two others
at_result : {X Y T E : Type 0} (P : X → Type 0) (Q : Y → Type 0) (done failed : X) (other_done other_failed : Y) (result : Result T E) → (P done → Q other_done) → (P failed → Q other_failed)
    → P (by_result done failed result) → Q (by_result other_done other_failed result)
at_result P Q done failed other_done other_failed (Ok value) one two has = one has
at_result P Q done failed other_done other_failed (Err error) one two has = two has

module _ {Db C : Type 0} (config : StoreConfig Db C) (state : CommitState Db C) (behind : DeviceContents Db C) where
  abbrev tail : Tail C
  tail = tail_of state behind

  abbrev group : List C
  group = take state.taken state.pending

  abbrev next : List C
  next = take state.following (drop state.taken state.pending)

  abbrev after : Tail C
  after = tail_after config.format.commands tail group

  abbrev Flushes : Flush → GroupOrSeal C → Moment → Type 0
  Flushes phase load moment = FlusherPart phase config.format.commands (limits_of state.version) config.geometry tail load moment

  abbrev Follows : Flush → Moment → Type 0
  Follows phase moment = FollowerPart phase config.format.commands (limits_of state.version) config.geometry tail group next moment

  abbrev IsFollowedAt : Flush → Moment → Type 0
  IsFollowedAt phase moment = IsFollowed phase config.format.commands (limits_of state.version) config.geometry tail state.pending state.taken state.following moment

  more : all_of (behind.groups ++ group ∷ []) ≡ all_of behind.groups ++ group
  more = all_of_more config.format.commands (limits_of state.version) behind.groups group

  module _ (moment : Moment) (held : IsHeldBy config state behind moment) where
    -- the place that is reached once the group in flight is published
    place_after : tail_place after ≡ state.value.place + length group
    place_after = omega (arith, ap length more, length-append (all_of behind.groups) group, held.place)

    -- what follows, at a phase that is known
    follower_at : (phase : Flush) → state.flush ≡ phase → IsFollowedAt phase moment
    follower_at phase is = subst (λ (p : Flush). IsFollowedAt p moment) is held.follower

    -- and the part of the group in flight
    flushes_at : (phase : Flush) → state.flush ≡ phase → 1 ≤ state.taken → Flushes phase (Commands group) moment
    flushes_at phase is some = subst (λ (load : GroupOrSeal C). Flushes phase load moment) (load_some state.taken state.pending some)
        (subst (λ (p : Flush). Flushes p (load_of state) moment) is held.flusher)

    -- some commands follow
    some_follow : (phase : Flush) → Follower phase config.format.commands (limits_of state.version) config.geometry tail state.pending state.taken state.following moment
        → 1 ≤ state.following
    some_follow phase follows = omega (arith, follows.part.can.0.some, length-take state.following (drop state.taken state.pending))

pub held_when_follower_is_staged : (Db C : Type 0) → HeldWhenFollowerIsStaged Db C
held_when_follower_is_staged Db C config state behind moment following is some can held = record {
  title = held.title;
  taken = held.taken;
  place = held.place;
  db = held.db;
  flusher = record { groups = opened.groups; can = opened.can; facts = opened.facts };
  base = held.base;
  seal = subst (λ (p : Flush). MayBeSealed state.check (seals p (load_of state))) is held.seal;
  follower = record {
    some = some;
    inside = omega (arith, can.inside, held.taken, length-drop state.taken state.pending);
    part = record {
      can = (
        subst (λ (place : ℕ). CanBeGroup config.format.commands (limits_of state.version) place (take following (drop state.taken state.pending)))
            (sym (place_after config state behind moment held)) can.can,
        can.room,
      );
      facts = tt;
    };
  };
}
  where
    opened : FlusherPart Opened config.format.commands (limits_of state.version) config.geometry (tail config state behind) (load_of state) moment
    opened = part_at config state behind moment moment held Opened is

pub held_while_follower_is_written : (T E Db C : Type 0) → HeldWhileFollowerIsWritten T E Db C
held_while_follower_is_written T E Db C config state behind result old new is call honest held =
    held_flushed config state behind old.history.now new.history.now held (by_result Followed Following result)
    (tail_writes_leave_base T E config.geometry state.half (load_at config.geometry (after config state behind)) bytes result old new call_so honest held.title.store.room
    (record { from = omega arith; to = omega (arith, follows.part.can.1, length-load config.format.commands (tail_place (after config state behind)) (Commands (next config state behind))) }))
    (subst (λ (load : GroupOrSeal C). Flushes config state behind (by_result Followed Following result) load new.history.now) (sym load_is)
    (at_result (λ (p : Flush). Flushes config state behind p (Commands (group config state behind)) new.history.now) (λ (p : Flush). Flushes config state behind p (Commands (group config state behind)) new.history.now)
    Opened Opened Followed Following result
    (λ has. record { groups = has.groups; can = has.can; facts = has.facts })
    (λ has. record { groups = has.groups; can = has.can; facts = has.facts })
    (same_twice result written.0)))
    (seals_by state Following Followed Following result is refl refl)
    (at_result (λ (p : Flush). Follows config state behind p new.history.now) (λ (p : Flush). IsFollowedAt config state behind p new.history.now)
    Followed Following Followed Following result
    (λ part. record { some = follows.some; inside = follows.inside; part = part })
    (λ part. record { some = follows.some; inside = follows.inside; part = part })
    written.1)
  where
    bytes : List ℕ
    bytes = load_bytes config.format.commands (tail_place (after config state behind)) (Commands (next config state behind))

    follows : Follower Following config.format.commands (limits_of state.version) config.geometry (tail config state behind) state.pending state.taken state.following old.history.now
    follows = follower_at config state behind old.history.now held Following is

    load_is : load_of state ≡ Commands (group config state behind)
    load_is = load_some state.taken state.pending follows.some

    next_is : load_by state.following (drop state.taken state.pending) ≡ Commands (next config state behind)
    next_is = load_some state.following (drop state.taken state.pending) (some_follow config state behind old.history.now held Following follows)

    call_so : WriteCall (load_at config.geometry (after config state behind)) bytes result old new
    call_so =
        subst (λ (place : ℕ). WriteCall (load_at config.geometry (after config state behind)) (load_bytes config.format.commands place (Commands (next config state behind))) result old new)
        (sym (place_after config state behind old.history.now held))
        (subst (λ (load : GroupOrSeal C). WriteCall (load_at config.geometry (after config state behind)) (load_bytes config.format.commands (state.value.place + length (group config state behind)) load) result old new) next_is call)

    opened : Flushes config state behind Opened (Commands (group config state behind)) old.history.now
    opened =
        let has = flushes_at config state behind old.history.now held Following is follows.some in
        record { groups = has.groups; can = has.can; facts = has.facts }

    written : Flushes config state behind Opened (Commands (group config state behind)) new.history.now × Follows config state behind (by_result Followed Following result) new.history.now
    written = writes_follower T E C config.format.commands (limits_of state.version) config.geometry (tail config state behind) (group config state behind) (next config state behind) result old new call_so honest held.title opened follows.part

    same_twice : (r : Result T E) → Flushes config state behind Opened (Commands (group config state behind)) new.history.now → Flushes config state behind (by_result Opened Opened r) (Commands (group config state behind)) new.history.now
    same_twice (Ok value) has = has
    same_twice (Err error) has = has

pub held_while_followed_is_synced : (T E Db C : Type 0) → HeldWhileSynced Followed DurableFollowed T E Db C
held_while_followed_is_synced T E Db C config state behind result old new is call honest held =
    held_flushed config state behind old.history.now new.history.now held (by_result DurableFollowed Followed result)
    ((syncs_leave_both T E config.geometry state.half result old new call honest).1)
    (subst (λ (load : GroupOrSeal C). Flushes config state behind (by_result DurableFollowed Followed result) load new.history.now) (sym load_is)
    (at_result (λ (p : Flush). Flushes config state behind p (Commands (group config state behind)) new.history.now) (λ (p : Flush). Flushes config state behind p (Commands (group config state behind)) new.history.now)
    Durable Opened DurableFollowed Followed result
    (λ has. record { groups = has.groups; can = has.can; facts = has.facts })
    (λ has. record { groups = has.groups; can = has.can; facts = has.facts })
    synced.0))
    (seals_by state Followed DurableFollowed Followed result is refl refl)
    (at_result (λ (p : Flush). Follows config state behind p new.history.now) (λ (p : Flush). IsFollowedAt config state behind p new.history.now)
    DurableFollowed Followed DurableFollowed Followed result
    (λ part. record { some = follows.some; inside = follows.inside; part = part })
    (λ part. record { some = follows.some; inside = follows.inside; part = part })
    synced.1)
  where
    follows : Follower Followed config.format.commands (limits_of state.version) config.geometry (tail config state behind) state.pending state.taken state.following old.history.now
    follows = follower_at config state behind old.history.now held Followed is

    load_is : load_of state ≡ Commands (group config state behind)
    load_is = load_some state.taken state.pending follows.some

    opened : Flushes config state behind Opened (Commands (group config state behind)) old.history.now
    opened =
        let has = flushes_at config state behind old.history.now held Followed is follows.some in
        record { groups = has.groups; can = has.can; facts = has.facts }

    synced : Flushes config state behind (by_result Durable Opened result) (Commands (group config state behind)) new.history.now × Follows config state behind (by_result DurableFollowed Followed result) new.history.now
    synced = syncs_follower T E C config.format.commands (limits_of state.version) config.geometry (tail config state behind) (group config state behind) (next config state behind) result old new call honest held.title opened follows.part

pub held_when_followed_is_published : (Db C : Type 0) → HeldWhenFollowedIsPublished Db C
held_when_followed_is_published Db C config state behind moment is held = record {
  title = held.title;
  taken = omega (arith, follows.inside, length-drop state.taken state.pending);
  place = place_after config state behind moment held;
  db = ap (db_after config.format behind.new.db) (more config state behind) ∙ folds_in_parts Db C config.format behind.new.db (all_of behind.groups) (group config state behind) ∙ ap (λ (db : Db). db_after config.format db (group config state behind)) held.db;
  flusher = subst (λ (load : GroupOrSeal C). FlusherPart Stable config.format.commands (limits_of state.version) config.geometry (after config state behind) load moment) (sym next_is)
      (publishes_follower C config.format.commands (limits_of state.version) config.geometry (tail config state behind) (group config state behind) (next config state behind) moment held.title durable follows.part);
  base = held.base;
  seal = subst (λ (load : GroupOrSeal C). MayBeSealed state.check (seals Stable load)) (sym next_is) (unsealed_may state.check);
  follower = tt;
}
  where
    follows : Follower DurableFollowed config.format.commands (limits_of state.version) config.geometry (tail config state behind) state.pending state.taken state.following moment
    follows = follower_at config state behind moment held DurableFollowed is

    next_is : load_by state.following (drop state.taken state.pending) ≡ Commands (next config state behind)
    next_is = load_some state.following (drop state.taken state.pending) (some_follow config state behind moment held DurableFollowed follows)

    durable : Flushes config state behind Durable (Commands (group config state behind)) moment
    durable =
        let has = flushes_at config state behind moment held DurableFollowed is follows.some in
        record { groups = has.groups; can = has.can; facts = has.facts }
