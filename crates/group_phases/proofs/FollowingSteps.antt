-- What the flusher's calls make of a group that follows the one in flight.
use Rattle.std.proofs.Common.{inr, ℕ, ◌+◌, ◌*◌, ◌≤◌, arith, Result, Ok, Err}
use Rattle.sector_dev.specs.Calls.{WriteCall, SyncCall}
use Rattle.store_layout.specs.Layout.{journal_at}
use Rattle.store_layout.proofs.Exports.{half_inside}
use Rattle.group_phases.specs.declared.phases.Flush.{Flush}
use Rattle.group_phases.specs.declared.phases.Flush.TheVariants.{Opened, Following, Followed, DurableFollowed}
use Rattle.group_phases.specs.Range.{Untouched}
use Rattle.group_phases.specs.Tail.{Commands, load_bytes, written_sectors, Tail, tail_place, tail_after}
use Rattle.group_phases.specs.FlusherPart.{HasLoad, FlusherPart}
use Rattle.group_phases.specs.FlusherSteps.{by_result, load_at}
use Rattle.group_phases.specs.FollowerPart.{FollowFacts}
use Rattle.group_phases.specs.FollowingSteps.{WritesFollower, SyncsFollower, PublishesFollower, KeepsFollower}
use Rattle.group_phases.proofs.Calls.{writes_leave_what_is_beside, syncs_leave_all}
use Rattle.group_phases.proofs.Ranges.{has_untouched_parts}
use Rattle.group_phases.proofs.TailReads.{load_room, sectors_kept, groups_kept, open_kept, load_kept}
use Rattle.group_phases.proofs.FlusherSteps.{length-load, group_there, synced_clean, syncs_tail_gate, publishes_group}

pub writes_follower : (T E C : Type 0) → WritesFollower T E C
writes_follower T E C format limits geometry tail commands next result old new call honest title has follows =
    (kept, record { can = follows.can; facts = by_answer result call })
  where
    after : Tail C
    after = tail_after format tail commands

    leaves : (at n : ℕ) → at + n ≤ 512 * load_at geometry after → Untouched at n old.history.now new.history.now
    leaves at n before =
        writes_leave_what_is_beside T E (load_at geometry after) (load_bytes format (tail_place after) (Commands next)) result old new at n call honest
        (omega (arith, half_inside geometry tail.half, title.store.room, follows.can.1, length-load format (tail_place after) (Commands next))) (inr before)

    load_inside : tail.gate + 1 + written_sectors format (Commands commands) ≤ geometry.journal
    load_inside = load_room format limits geometry tail (Commands commands) has.groups.room has.can

    load_same : Untouched (512 * (journal_at geometry tail.half + (tail.gate + 1))) (512 * written_sectors format (Commands commands)) old.history.now new.history.now
    load_same = leaves (512 * (journal_at geometry tail.half + (tail.gate + 1))) (512 * written_sectors format (Commands commands)) (omega arith)

    kept : FlusherPart Opened format limits geometry tail (Commands commands) new.history.now
    kept = record {
      groups = groups_kept format limits geometry tail old.history.now new.history.now title.store.room
          (leaves (512 * (journal_at geometry tail.half + 0)) (512 * tail.gate) (omega arith)) has.groups;
      can = has.can;
      facts = (
        load_kept format limits geometry tail old.history.now new.history.now title.store.room (Commands commands) load_inside load_same has.facts.0,
        sectors_kept format limits geometry tail old.history.now new.history.now title.store.room (tail.gate + 1) (written_sectors format (Commands commands)) load_same has.facts.1,
        open_kept format limits geometry tail old.history.now new.history.now title.store.room (omega (arith, has.groups.room))
            (leaves (512 * (journal_at geometry tail.half + tail.gate)) (512 * 1) (omega arith)) has.facts.2,
      );
    }

    by_answer : (r : Result T E) → WriteCall (load_at geometry after) (load_bytes format (tail_place after) (Commands next)) r old new
        → FollowFacts (by_result Followed Following r) format geometry after (Commands next) new.history.now
    by_answer (Ok value) wrote = group_there E value format limits geometry after next old new wrote honest title follows.can
    by_answer (Err error) wrote = tt

pub syncs_follower : (T E C : Type 0) → SyncsFollower T E C
syncs_follower T E C format limits geometry tail commands next result old new call honest title has follows =
    (syncs_tail_gate T E C format limits geometry tail (Commands commands) result old new call honest title has, record { can = follows.can; facts = by_answer result call })
  where
    after : Tail C
    after = tail_after format tail commands

    there : (r : Result T E) → SyncCall r old new → HasLoad format geometry after (Commands next) new.history.now
    there r sync = load_kept format limits geometry after old.history.now new.history.now title.store.room (Commands next) (omega (arith, follows.can.1))
        (syncs_leave_all T E r old new (512 * (journal_at geometry after.half + (after.gate + 1))) (512 * written_sectors format (Commands next)) sync honest) follows.facts

    by_answer : (r : Result T E) → SyncCall r old new → FollowFacts (by_result DurableFollowed Followed r) format geometry after (Commands next) new.history.now
    by_answer (Ok value) sync = (
      there (Ok value) sync,
      synced_clean E value old new sync honest (512 * (journal_at geometry after.half + (after.gate + 1))) (512 * written_sectors format (Commands next)),
    )
    by_answer (Err error) sync = there (Err error) sync

pub publishes_follower : (C : Type 0) → PublishesFollower C
publishes_follower C format limits geometry tail commands next moment title has follows =
    let rests = publishes_group C format limits geometry tail commands moment title has in
    record { groups = rests.groups; can = follows.can; facts = (rests.facts, follows.facts.0, follows.facts.1) }

pub keeps_follower : (C : Type 0) → KeepsFollower C
keeps_follower C phase format limits geometry tail commands next old new title same follows =
    record { can = follows.can; facts = by_phase phase follows.facts }
  where
    after : Tail C
    after = tail_after format tail commands

    load_same : Untouched (512 * (journal_at geometry after.half + (after.gate + 1))) (512 * written_sectors format (Commands next)) old new
    load_same = has_untouched_parts (512 * journal_at geometry tail.half) (512 * geometry.journal) (512 * (journal_at geometry after.half + (after.gate + 1)))
        (512 * written_sectors format (Commands next)) old new (omega arith) (omega (arith, follows.can.1)) same.journal

    there : HasLoad format geometry after (Commands next) old → HasLoad format geometry after (Commands next) new
    there = load_kept format limits geometry after old new title.store.room (Commands next) (omega (arith, follows.can.1)) load_same

    by_phase : (p : Flush) → FollowFacts p format geometry after (Commands next) old → FollowFacts p format geometry after (Commands next) new
    by_phase Followed facts = there facts
    by_phase DurableFollowed facts = (
      there facts.0,
      sectors_kept format limits geometry after old new title.store.room (after.gate + 1) (written_sectors format (Commands next)) load_same facts.1,
    )
    by_phase _ facts = tt
