-- The steps that commit the one pending command. For commit_pending, commit_after_seal and
-- commit_durable.
use Rattle.std.proofs.Common.{◌≡◌, ℕ, ◌+◌, ◌<◌, ◌≤◌, List, [], ◌∷◌, length, take, drop, Some, None, IsSome, refl, sym, ap, subst, ◌∙◌, arith}
use Rattle.row_map.specs.Database.{RowView}
use Rattle.path_db.specs.declared.command.Command.{Command}
use Rattle.path_db.specs.declared.outcome.Outcome.{Outcome}
use Rattle.store_layout.specs.Group.{last_place}
use Rattle.store_layout.specs.Opening.{StoreValue}
use Rattle.store_layout.specs.StoreFormat.{db_after}
use Rattle.store_open.specs.PathStores.{store_format}
use Rattle.group_phases.specs.declared.phases.Flush.TheVariants.{Resting, Durable}
use Rattle.group_phases.specs.declared.phases.Check.{Check}
use Rattle.group_phases.specs.declared.phases.Check.TheVariants.{Ready}
use Rattle.group_core.specs.declared.phases.AtDurable.{AtDurable}
use Rattle.group_core.specs.declared.values.Commit.{Commit}
use Rattle.group_core.specs.declared.ticket.Ticket.{Ticket}
use Rattle.group_core.specs.StateView.{StateView}
use Rattle.group_core.specs.Steps.{IsFlushTurn}
use Rattle.group_core.specs.Publishing.{group_committed, journal_sealed}
use Rattle.group_core.specs.Redeeming.{outcome_at, kept_without, redeemed}
use Rattle.once_store.specs.Resting.{CheckRests, IsSteady, HasOnePending}
use Rattle.once_store.specs.Folding.{IsRoomMade, OnlyDeviceWasRead}
use Rattle.once_store.specs.Committing.{IsNextDurable, SameAbove, IsOnePendingCommitted, IsHeldBack, IsCarried}

-- ---- what is carried

pub carried_by_room : (old new : StateView) → IsRoomMade old new → IsCarried old new
carried_by_room old new made = let is = made.state in record {
  value = ap (λ (v : StateView). v.value) is;
  pending = ap (λ (v : StateView). v.pending) is;
  kept = ap (λ (v : StateView). v.kept) is;
  home = ap (λ (v : StateView). v.home) is;
}

pub carried_by_look : (old new : StateView) → OnlyDeviceWasRead old new → IsCarried old new
carried_by_look old new look = let is = look.state in record {
  value = ap (λ (v : StateView). v.value) is;
  pending = ap (λ (v : StateView). v.pending) is;
  kept = ap (λ (v : StateView). v.kept) is;
  home = ap (λ (v : StateView). v.home) is;
}

pub carried_by_durable : (value : Commit AtDurable) (old new : StateView) → IsNextDurable value old new → IsCarried old new
carried_by_durable value old new next = let is = next.state in record {
  value = ap (λ (v : StateView). v.value) is;
  pending = ap (λ (v : StateView). v.pending) is;
  kept = ap (λ (v : StateView). v.kept) is;
  home = ap (λ (v : StateView). v.home) is;
}

pub carried_by_seal : (old new : StateView) → new ≡ journal_sealed old → IsCarried old new
carried_by_seal old new is = record {
  value = ap (λ (v : StateView). v.value) is;
  pending = ap (λ (v : StateView). v.pending) is;
  kept = ap (λ (v : StateView). v.kept) is;
  home = ap (λ (v : StateView). v.home) is;
}

pub carried_on : (one two three : StateView) → IsCarried one two → IsCarried two three → IsCarried one three
carried_on one two three first next = record {
  value = next.value ∙ first.value;
  pending = next.pending ∙ first.pending;
  kept = next.kept ∙ first.kept;
  home = next.home ∙ first.home;
}

pub one_carried : (ticket : Ticket) (old new : StateView) → HasOnePending ticket old → IsCarried old new → HasOnePending ticket new
one_carried ticket old new one carried = record {
  command = one.command;
  pending = carried.pending ∙ one.pending;
  home = one.home ∙ sym carried.home;
  place = one.place ∙ sym (ap (λ (v : StoreValue (List RowView)). v.place) carried.value);
  last = subst (λ (v : StoreValue (List RowView)). v.place < last_place) (sym carried.value) one.last;
  kept = subst (λ (k : List (ℕ × Outcome)). IsSome (outcome_at ticket.place k)) (sym carried.kept) one.kept;
  alone = ap (kept_without ticket.place) carried.kept ∙ one.alone;
}

same_so : (old new : StateView) → IsCarried old new → SameAbove old new
same_so old new carried = record {
  rows = λ i. db_after store_format (carried.value i).db (carried.pending i);
  place = λ i. (carried.value i).place + length (carried.pending i);
  home = carried.home;
}

one_pending : (ticket : Ticket) (view : StateView) → HasOnePending ticket view → length view.pending ≡ 1
one_pending ticket view one = ap length one.pending

-- ---- states that rest

ready_rests : (view : StateView) → IsSteady view → view.check ≡ Ready → CheckRests Ready view
ready_rests view steady ready = subst (λ (c : Check). CheckRests c view) ready steady.check

pub durable_steady : (value : Commit AtDurable) (old new : StateView) → IsSteady old → old.check ≡ Ready → IsNextDurable value old new → IsSteady new
durable_steady value old new steady ready next =
    let is = next.state in
    let rests = ready_rests old steady ready in
    let at : new.check ≡ Ready = ap (λ (v : StateView). v.check) is ∙ ready in
    record {
      geometry = ap (λ (v : StateView). v.geometry) is ∙ steady.geometry;
      version = ap (λ (v : StateView). v.version) is ∙ steady.version;
      going = ap (λ (v : StateView). v.stopped) is ∙ steady.going;
      plan = ap (λ (v : StateView). v.plan.out) is ∙ steady.plan;
      check = subst (λ (c : Check). CheckRests c new) (sym at) (
        omega (arith, rests.0, ap (λ (v : StateView). v.epoch) is, ap (λ (v : StateView). v.value.place) is),
        λ some. let old_some : 1 ≤ old.gate = omega (arith, some, ap (λ (v : StateView). v.gate) is) in
            let low = rests.1 old_some in omega (arith, low, ap (λ (v : StateView). v.epoch) is, ap (λ (v : StateView). v.value.place) is),
      );
    }

pub seal_steady : (old new : StateView) → IsSteady old → old.check ≡ Ready → 1 ≤ old.gate → new ≡ journal_sealed old → IsSteady new
seal_steady old new steady ready some is =
    let rests = ready_rests old steady ready in
    let low = rests.1 some in
    record {
      geometry = ap (λ (v : StateView). v.geometry) is ∙ steady.geometry;
      version = ap (λ (v : StateView). v.version) is ∙ steady.version;
      going = ap (λ (v : StateView). v.stopped) is ∙ steady.going;
      plan = ap (λ (v : StateView). v.plan.out) is ∙ steady.plan;
      check = subst (λ (c : Check). CheckRests c new) (sym (ap (λ (v : StateView). v.check) is))
          (omega (arith, low, ap (λ (v : StateView). v.epoch) is, ap (λ (v : StateView). v.value.place) is), ap (λ (v : StateView). v.gate) is);
    }

-- ---- the command is committed

module _ (ticket : Ticket) (outcome : Outcome) (old : StateView) (one : HasOnePending ticket old) (steady : IsSteady old) (ready : old.check ≡ Ready) (taken : old.taken ≡ 1) where
  taken_all : take old.taken old.pending ≡ one.command ∷ []
  taken_all = λ i. take (taken i) (one.pending i)

  none_left : drop old.taken old.pending ≡ []
  none_left = λ i. drop (taken i) (one.pending i)

  abbrev after : StateView
  after = redeemed ticket (group_committed old)

  one_more : after.value.place ≡ old.value.place + 1
  one_more = ap (λ (l : List Command). old.value.place + length l) taken_all

  after_committed : outcome_at ticket.place old.kept ≡ Some outcome → IsOnePendingCommitted outcome old after
  after_committed found =
      let rests = ready_rests old steady ready in
      record {
        outcome_is = ap (λ (p : ℕ). outcome_at p old.kept) (sym one.place) ∙ found;
        steady = record {
          geometry = steady.geometry;
          version = steady.version;
          going = steady.going;
          plan = steady.plan;
          check = subst (λ (c : Check). CheckRests c after) (sym ready) (omega (arith, rests.0, one_more), λ some. omega (arith, rests.0, one_more));
        };
        rests = refl;
        pending = none_left;
        kept = one.alone;
        same = record {
          rows =
              (λ i. db_after store_format
              (db_after store_format old.value.db (taken_all i)) (none_left i))
              ∙ sym (ap (db_after store_format old.value.db) one.pending);
          place = omega (arith, one_more, ap length none_left, one_pending ticket old one);
          home = refl;
        };
      }

pub committed : (ticket : Ticket) (outcome : Outcome) (old new : StateView) → HasOnePending ticket old → IsSteady old → old.check ≡ Ready → old.taken ≡ 1
    → outcome_at ticket.place old.kept ≡ Some outcome → new ≡ redeemed ticket (group_committed old) → IsOnePendingCommitted outcome old new
committed ticket outcome old new one steady ready taken found is = subst (λ (v : StateView). IsOnePendingCommitted outcome old v) (sym is) (after_committed ticket outcome old one steady ready taken found)

-- and so it is from a state on by which it was carried
pub committed_from : (outcome : Outcome) (start old new : StateView) → IsCarried start old → IsOnePendingCommitted outcome old new → IsOnePendingCommitted outcome start new
committed_from outcome start old new carried done =
    let same = same_so start old carried in
    let above = done.same in
    record {
      outcome_is = sym (λ i. outcome_at ((carried.value i).place) (carried.kept i)) ∙ done.outcome_is;
      steady = done.steady;
      rests = done.rests;
      pending = done.pending;
      kept = done.kept;
      same = record { rows = above.rows ∙ same.rows; place = above.place ∙ same.place; home = above.home ∙ same.home };
    }

-- ---- or it is held back

pub held_resting : (ticket : Ticket) (start old : StateView) → HasOnePending ticket start → IsSteady old → old.flush ≡ Resting → IsCarried start old
    → IsHeldBack ticket None ticket start old
held_resting ticket start old one steady rests carried = record {
  same_ticket = refl;
  one = one_carried ticket start old one carried;
  steady = steady;
  holds = rests;
  kept = carried.kept;
  same = same_so start old carried;
}

pub held_durable : (ticket : Ticket) (value : Commit AtDurable) (start old : StateView) → HasOnePending ticket start → IsSteady old → IsFlushTurn Durable value old
    → old.taken ≡ 1 → old.check ≡ Ready → IsCarried start old → IsHeldBack ticket (Some value) ticket start old
held_durable ticket value start old one steady turn taken ready carried = record {
  same_ticket = refl;
  one = one_carried ticket start old one carried;
  steady = steady;
  holds = (turn, taken, ready);
  kept = carried.kept;
  same = same_so start old carried;
}
