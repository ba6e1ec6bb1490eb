-- Between its events a run holds the values of its state.
use Rattle.std.proofs.Common.{◌≡◌, ◌≢◌, inl, inr, ℕ, ◌+◌, ◌*◌, ◌==◌, Bool, true, false, List, [], length, Option, IsSome, refl, sym, ◌∙◌, ap, subst, arith}
use Rattle.std.proofs.lemmas.List.{append-nil}
use Rattle.path_db.specs.declared.outcome.Outcome.{Outcome}
use Rattle.seg_lookup.specs.declared.query.Query.{Query}
use Rattle.group_phases.specs.declared.phases.Flush.{Flush}
use Rattle.group_phases.specs.declared.phases.Check.{Check}
use Rattle.group_phases.specs.declared.phases.Check.TheVariants as check
use Rattle.sector_dev.specs.Disk.{Disk}
use Rattle.group_core.specs.declared.bookkeeping.Turn.{Turn}
use Rattle.group_core.specs.declared.phases.AtPlan.{AtPlan}
use Rattle.group_core.specs.declared.values.Commit.{Commit}
use Rattle.group_core.specs.declared.beginning.BeginError.TheVariants as begin
use Rattle.group_recovery.specs.declared.events.Reply.{Reply}
use Rattle.group_recovery.specs.declared.events.Reply.TheVariants as reply
use Rattle.group_recovery.specs.declared.events.StepRefusal.TheVariants as why
use Rattle.group_recovery.specs.declared.holding.HeldGroup.{HeldGroup}
use Rattle.group_recovery.specs.declared.holding.HeldGroup.TheVariants as group
use Rattle.group_recovery.specs.declared.holding.HeldPlan.{HeldPlan}
use Rattle.group_recovery.specs.declared.holding.HeldPlan.TheVariants as plan
use Rattle.group_core.specs.declared.ticket.Ticket.{Ticket}
use Rattle.group_core.specs.StateView.{StateView, all_unprepared}
use Rattle.group_core.specs.Steps.{IsFlushTurn, IsCheckTurn, IsPlanTurn, is_whole, spent, chunk_written}
use Rattle.group_core.specs.Staging.{Takes, staged_by}
use Rattle.group_core.specs.Following.{followed_by}
use Rattle.group_core.specs.Beginning.{plan_begun}
use Rattle.group_core.specs.Redeeming.{outcome_at}
use Rattle.group_core.specs.Submitting.{next_place}
use Rattle.group_recovery.specs.RunSteps.{IsPlanOutAt, IsPlanOut, FlushEvent, CheckEvent, ChunkEvent, StageEvent, FollowEvent, PrepareEvent, BeginEvent, HaltEvent, LookupEvent}
use Rattle.group_recovery.specs.Holding.{HoldsGroup, HoldsPlan, SealWaits, HoldsTickets, IsHolding}
use Rattle.group_recovery.proofs.Prefix.{Moves}

-- The parts of a state that stay: those that tickets, the flusher's value, the checkpointer's value
-- and a seal depend on.
pub record TicketsStay (old new : StateView) : Type 0 where
  pub home : new.home ≡ old.home
  pub next : next_place new ≡ next_place old
  pub kept : new.kept ≡ old.kept

pub record GroupStays (old new : StateView) : Type 0 where
  pub home : new.home ≡ old.home
  pub flush : new.flush ≡ old.flush
  pub group : new.group ≡ old.group

pub record PlanStays (old new : StateView) : Type 0 where
  pub home : new.home ≡ old.home
  pub check : new.check ≡ old.check
  pub plan : new.plan ≡ old.plan
  pub checkpoint : new.checkpoint ≡ old.checkpoint
  pub written : new.written ≡ old.written

abbrev pub SealStays : StateView → StateView → Type 0
SealStays old new = SealWaits old → SealWaits new

pub tickets_stay : {tickets : List (Option Ticket)} {old new : StateView} → TicketsStay old new → HoldsTickets tickets old → HoldsTickets tickets new
tickets_stay {tickets} {old} {new} stays holds = record {
  each = λ k ticket at. let own = holds.each k ticket at in record {
    home = own.home ∙ sym stays.home;
    before = omega (arith, own.before, stays.next);
    kept = subst (λ (l : List (ℕ × Outcome)). IsSome (outcome_at ticket.place l)) (sym stays.kept) own.kept;
  };
  apart = holds.apart;
}

module _ {old new : StateView} (stays : GroupStays old new) where
  out_so : {out : Bool} → old.group.out ≡ out → new.group.out ≡ out
  out_so is = ap (λ (t : Turn). t.out) stays.group ∙ is

  turn_so : {P : Type 0} {phase : Flush} {value : Commit P} → IsFlushTurn phase value old → IsFlushTurn phase value new
  turn_so turn = record {
    is_of = record { home = turn.is_of.home ∙ sym stays.home; number = turn.is_of.number ∙ sym (ap (λ (t : Turn). t.number) stays.group) };
    at = stays.flush ∙ turn.at;
  }

  pub group_stays : (held : HeldGroup) → HoldsGroup held old → HoldsGroup held new
  group_stays group.None holds = out_so holds
  group_stays (group.Staged value) holds = (out_so holds.0, turn_so holds.1)
  group_stays (group.Written value) holds = (out_so holds.0, turn_so holds.1)
  group_stays (group.Stable value) holds = (out_so holds.0, turn_so holds.1)
  group_stays (group.Opened value) holds = (out_so holds.0, turn_so holds.1)
  group_stays (group.Durable value) holds = (out_so holds.0, turn_so holds.1)
  group_stays (group.Following value) holds = (out_so holds.0, turn_so holds.1)
  group_stays (group.Followed value) holds = (out_so holds.0, turn_so holds.1)
  group_stays (group.DurableFollowed value) holds = (out_so holds.0, turn_so holds.1)

module _ {old new : StateView} (stays : PlanStays old new) where
  plan_out_so : {out : Bool} → old.plan.out ≡ out → new.plan.out ≡ out
  plan_out_so is = ap (λ (t : Turn). t.out) stays.plan ∙ is

  check_turn_so : {P : Type 0} {phase : Check} {value : Commit P} → IsCheckTurn phase value old → IsCheckTurn phase value new
  check_turn_so turn = record {
    is_of = record { home = turn.is_of.home ∙ sym stays.home; number = turn.is_of.number ∙ sym (ap (λ (t : Turn). t.number) stays.plan) };
    at = stays.check ∙ turn.at;
  }

  whole_so : is_whole old ≡ is_whole new
  whole_so = λ i. 512 * sym stays.written i == length (sym stays.checkpoint i)

  plan_turn_so : {value : Commit AtPlan} → IsPlanTurn value old → IsPlanTurn value new
  plan_turn_so turn = record {
    is_of = record { home = turn.is_of.home ∙ sym stays.home; number = turn.is_of.number ∙ sym (ap (λ (t : Turn). t.number) stays.plan) };
    at = stays.check ∙ turn.at;
    done = turn.done ∙ whole_so;
  }

  pub plan_stays : (held : HeldPlan) → HoldsPlan held old → HoldsPlan held new
  plan_stays plan.None holds = plan_out_so holds
  plan_stays (plan.Plan value) holds = (plan_out_so holds.0, plan_turn_so holds.1)
  plan_stays (plan.Laid value) holds = (plan_out_so holds.0, check_turn_so holds.1)
  plan_stays (plan.Switched value) holds = (plan_out_so holds.0, check_turn_so holds.1)
  plan_stays (plan.Live value) holds = (plan_out_so holds.0, check_turn_so holds.1)
  plan_stays (plan.Closing value) holds = (plan_out_so holds.0, check_turn_so holds.1)

-- the committed rows, the pending commands and the sizes stay
pub record Still (old new : StateView) : Type 0 where
  pub value : new.value ≡ old.value
  pub pending : new.pending ≡ old.pending
  pub geometry : new.geometry ≡ old.geometry

pub moves_none : {old new : StateView} → Still old new → Moves [] old new
moves_none {old} {new} still = record {
  shown = 0;
  inside = omega arith;
  value = still.value ∙ (λ i. record { db = old.value.db; place = same i });
  pending = still.pending ∙ sym (append-nil old.pending);
  geometry = still.geometry;
}
  where
    same : old.value.place ≡ old.value.place + 0
    same = omega arith

-- A step of the flusher, and the parts that it leaves unchanged.
pub record FlushRest (old new : StateView) : Type 0 where
  pub still : Still old new
  pub tickets : TicketsStay old new
  pub plan : PlanStays old new
  pub seal : SealStays old new

pub record CheckRest (old new : StateView) : Type 0 where
  pub still : Still old new
  pub tickets : TicketsStay old new
  pub group : GroupStays old new
  pub seal : SealStays old new

module _ (old : StateView) where
  flush_touched : (disk : Disk) (phase : Flush) (turn : Turn) (stopped : Bool) → (turn.out ≡ true → old.group.out ≡ true)
      → FlushRest old (record old { disk = disk; flush = phase; group = turn; stopped = stopped })
  flush_touched disk phase turn stopped out = record {
    still = record { value = refl; pending = refl; geometry = refl };
    tickets = record { home = refl; next = refl; kept = refl };
    plan = record { home = refl; check = refl; plan = refl; checkpoint = refl; written = refl };
    seal = λ waits is none. waits (out is) none;
  }

  flush_same : FlushRest old old
  flush_same = flush_touched old.disk old.flush old.group old.stopped (λ is. is)

  pub flush_rest : (from to failed : Flush) (reply : Reply) (new : StateView) → FlushEvent from to failed reply old new → FlushRest old new
  flush_rest from to failed reply.Done new step = subst (FlushRest old) (sym step.3) (flush_touched new.disk to old.group old.stopped (λ is. is))
  flush_rest from to failed (reply.StepRefused why.Stopped) new step =
      subst (FlushRest old) (sym step.2) (flush_touched old.disk old.flush (spent old.group) old.stopped (λ (is : false ≡ true). cc))
  flush_rest from to failed (reply.StepRefused why.Fault) new step =
      subst (FlushRest old) (sym step.3) (flush_touched new.disk failed (spent old.group) true (λ (is : false ≡ true). cc))
  flush_rest from to failed reply.NoValue new step = subst (FlushRest old) (sym step.1) flush_same
  flush_rest from to failed _ new step = absurd step

  pub halt_rest : (reply : Reply) (new : StateView) → HaltEvent reply old new → FlushRest old new
  halt_rest reply.Done new step = subst (FlushRest old) (sym step) (flush_touched old.disk old.flush old.group true (λ is. is))
  halt_rest _ new step = absurd step

  pub lookup_rest : (query : Query) (now : ℕ) (reply : Reply) (new : StateView) → LookupEvent query now reply old new → FlushRest old new
  lookup_rest query now (reply.Answer found) new step = subst (FlushRest old) (sym step.1) flush_same
  lookup_rest query now reply.AnswerRefused new step = subst (FlushRest old) (sym step.1) flush_same
  lookup_rest query now _ new step = absurd step

  pub stage_rest : (reply : Reply) (new : StateView) → StageEvent reply old new → FlushRest old new
  stage_rest reply.Done new step = record {
    still = record { value = ap (λ (v : StateView). v.value) is; pending = ap (λ (v : StateView). v.pending) is; geometry = ap (λ (v : StateView). v.geometry) is };
    tickets = subst (TicketsStay old) (sym is) (record { home = refl; next = refl; kept = refl });
    plan = subst (PlanStays old) (sym is) (record { home = refl; check = refl; plan = refl; checkpoint = refl; written = refl });
    seal = λ waits out none. ap (λ (v : StateView). v.check) is ∙ ready step.1.0 none;
  }
    where
      is : new ≡ staged_by old new.taken
      is = step.1.2

      ready : Takes old new.taken → new.taken ≡ 0 → old.check ≡ check.Ready
      ready (inl front) none = absurd (omega (arith, front.some, none))
      ready (inr sealing) none = sealing.ready
  stage_rest (reply.StageRefused e) new step = subst (FlushRest old) (sym step.1) flush_same
  stage_rest _ new step = absurd step

  follow_touched : (following : ℕ) → FlushRest old (followed_by old following)
  follow_touched following = record {
    still = record { value = refl; pending = refl; geometry = refl };
    tickets = record { home = refl; next = refl; kept = refl };
    plan = record { home = refl; check = refl; plan = refl; checkpoint = refl; written = refl };
    seal = λ waits. waits;
  }

  pub follow_rest : (reply : Reply) (new : StateView) → FollowEvent reply old new → FlushRest old new
  follow_rest reply.Done new step = subst (FlushRest old) (sym step.3) (follow_touched new.following)
  follow_rest (reply.FollowRefused e) new step = subst (FlushRest old) (sym step.2) flush_same
  follow_rest reply.NoValue new step = subst (FlushRest old) (sym step.1) flush_same
  follow_rest _ new step = absurd step

  check_touched : (disk : Disk) (phase : Check) (turn : Turn) (bytes : List ℕ) (written unprepared epoch version : ℕ) (stopped : Bool) → (old.check ≡ check.Ready → phase ≡ check.Ready)
      → CheckRest old (record old { disk = disk; check = phase; plan = turn; checkpoint = bytes; written = written; unprepared = unprepared; epoch = epoch; version = version; stopped = stopped })
  check_touched disk phase turn bytes written unprepared epoch version stopped ready = record {
    still = record { value = refl; pending = refl; geometry = refl };
    tickets = record { home = refl; next = refl; kept = refl };
    group = record { home = refl; flush = refl; group = refl };
    seal = λ waits is none. ready (waits is none);
  }

  check_same : CheckRest old old
  check_same = check_touched old.disk old.check old.plan old.checkpoint old.written old.unprepared old.epoch old.version old.stopped (λ is. is)

  pub check_rest : (has : Type 0) → (has → old.check ≢ check.Ready) → (phase : Check) (turn : Turn) (written epoch version : ℕ) (failed : Check) (reply : Reply) (new : StateView)
      → CheckEvent has (record old { check = phase; plan = turn; written = written; epoch = epoch; version = version }) failed reply old new → CheckRest old new
  check_rest has busy phase turn written epoch version failed reply.Done new step =
      subst (CheckRest old) (sym step.3) (check_touched new.disk phase turn old.checkpoint written old.unprepared epoch version old.stopped (λ is. absurd (busy step.0 is)))
  check_rest has busy phase turn written epoch version failed (reply.StepRefused why.Stopped) new step =
      subst (CheckRest old) (sym step.2) (check_touched old.disk old.check (spent old.plan) old.checkpoint old.written old.unprepared old.epoch old.version old.stopped (λ is. is))
  check_rest has busy phase turn written epoch version failed (reply.StepRefused why.Fault) new step =
      subst (CheckRest old) (sym step.3) (check_touched new.disk failed (spent old.plan) old.checkpoint old.written old.unprepared old.epoch old.version true (λ is. absurd (busy step.0 is)))
  check_rest has busy phase turn written epoch version failed reply.NoValue new step = subst (CheckRest old) (sym step.1) check_same
  check_rest has busy phase turn written epoch version failed _ new step = absurd step

  pub planned_busy : (whole : Bool) → IsPlanOut whole old → old.check ≢ check.Ready
  planned_busy whole has is = let at = has.1 in cc

  chunk_on : (reply : Reply) (new : StateView) → CheckEvent (IsPlanOut false old) (chunk_written old) check.Planned reply old new → CheckRest old new
  chunk_on reply new step = check_rest (IsPlanOut false old) (planned_busy false) old.check old.plan (chunk_written old).written old.epoch old.version check.Planned reply new step

  pub chunk_rest : (reply : Reply) (new : StateView) → ChunkEvent reply old new → CheckRest old new
  chunk_rest (reply.StepRefused why.Damaged) new step =
      subst (CheckRest old) (sym step.4) (check_touched new.disk old.check (spent old.plan) old.checkpoint old.written old.unprepared old.epoch old.version true (λ is. is))
  chunk_rest reply.Done new step = chunk_on reply.Done new step
  chunk_rest (reply.StepRefused why.Stopped) new step = chunk_on (reply.StepRefused why.Stopped) new step
  chunk_rest (reply.StepRefused why.Fault) new step = chunk_on (reply.StepRefused why.Fault) new step
  chunk_rest reply.NoValue new step = chunk_on reply.NoValue new step
  chunk_rest _ new step = absurd step

  pub at_busy : (phase : Check) → phase ≢ check.Ready → IsPlanOutAt phase old → old.check ≢ check.Ready
  at_busy phase other has is = other (sym has.1 ∙ is)

  pub begin_rest : (reply : Reply) (new : StateView) → BeginEvent reply old new → CheckRest old new
  begin_rest reply.Done new step =
      let made = step.1 in
      let may = made.0 in
      subst (CheckRest old) (sym made.4) (check_touched new.disk check.Planned (plan_begun old.plan) new.checkpoint 0 all_unprepared old.epoch old.version old.stopped (λ is. absurd (let sealed = may.sealed in cc)))
  begin_rest (reply.BeginRefused begin.Stopped) new step = subst (CheckRest old) (sym step.1) check_same
  begin_rest (reply.BeginRefused begin.InFlight) new step = subst (CheckRest old) (sym step.2) check_same
  begin_rest (reply.BeginRefused begin.NotSealed) new step = subst (CheckRest old) (sym step.3) check_same
  begin_rest (reply.BeginRefused begin.Exhausted) new step = subst (CheckRest old) (sym step.4) check_same
  begin_rest (reply.BeginRefused begin.Fault) new step =
      subst (CheckRest old) (sym step.3) (check_touched new.disk old.check old.plan old.checkpoint old.written all_unprepared old.epoch old.version true (λ is. is))
  begin_rest (reply.BeginRefused begin.NoMemory) new step =
      subst (CheckRest old) (sym step.3) (check_touched new.disk old.check old.plan old.checkpoint old.written all_unprepared old.epoch old.version old.stopped (λ is. is))
  begin_rest (reply.BeginRefused begin.Damaged) new step =
      subst (CheckRest old) (sym step.4) (check_touched new.disk old.check old.plan old.checkpoint old.written all_unprepared old.epoch old.version true (λ is. is))
  begin_rest _ new step = absurd step

  pub prepare_rest : (reply : Reply) (new : StateView) → PrepareEvent reply old new → CheckRest old new
  prepare_rest (reply.Prepared prepared) new step =
      subst (CheckRest old) (sym step.3) (check_touched new.disk old.check old.plan old.checkpoint old.written new.unprepared old.epoch old.version old.stopped (λ is. is))
  prepare_rest (reply.BeginRefused e) new step = begin_rest (reply.BeginRefused e) new step
  prepare_rest _ new step = absurd step

  plan_untouched : (disk : Disk) (unprepared : ℕ) (stopped : Bool) → PlanStays old (record old { disk = disk; unprepared = unprepared; stopped = stopped })
  plan_untouched disk unprepared stopped = record { home = refl; check = refl; plan = refl; checkpoint = refl; written = refl }

  pub prepare_stays : (reply : Reply) (new : StateView) → PrepareEvent reply old new → PlanStays old new
  prepare_stays (reply.Prepared prepared) new step = subst (PlanStays old) (sym step.3) (plan_untouched new.disk new.unprepared old.stopped)
  prepare_stays (reply.BeginRefused begin.Stopped) new step = subst (PlanStays old) (sym step.1) (plan_untouched old.disk old.unprepared old.stopped)
  prepare_stays (reply.BeginRefused begin.InFlight) new step = subst (PlanStays old) (sym step.2) (plan_untouched old.disk old.unprepared old.stopped)
  prepare_stays (reply.BeginRefused begin.NotSealed) new step = subst (PlanStays old) (sym step.3) (plan_untouched old.disk old.unprepared old.stopped)
  prepare_stays (reply.BeginRefused begin.Exhausted) new step = subst (PlanStays old) (sym step.4) (plan_untouched old.disk old.unprepared old.stopped)
  prepare_stays (reply.BeginRefused begin.Fault) new step = subst (PlanStays old) (sym step.3) (plan_untouched new.disk all_unprepared true)
  prepare_stays (reply.BeginRefused begin.NoMemory) new step = subst (PlanStays old) (sym step.3) (plan_untouched new.disk all_unprepared old.stopped)
  prepare_stays (reply.BeginRefused begin.Damaged) new step = subst (PlanStays old) (sym step.4) (plan_untouched new.disk all_unprepared true)
  prepare_stays _ new step = absurd step

-- the values that a run holds, by what an event leaves
pub flush_holding : {tickets : List (Option Ticket)} {held after : HeldGroup} {planned : HeldPlan} {old new : StateView} → FlushRest old new → IsHolding old tickets held planned
    → HoldsGroup after new → IsHolding new tickets after planned
flush_holding {planned = planned} rest holding holds = record {
  tickets = tickets_stay rest.tickets holding.tickets;
  group = holds;
  plan = plan_stays rest.plan planned holding.plan;
  seal = rest.seal holding.seal;
}

pub check_holding : {tickets : List (Option Ticket)} {held : HeldGroup} {planned after : HeldPlan} {old new : StateView} → CheckRest old new → IsHolding old tickets held planned
    → HoldsPlan after new → IsHolding new tickets held after
check_holding {held = held} rest holding holds = record {
  tickets = tickets_stay rest.tickets holding.tickets;
  group = group_stays rest.group held holding.group;
  plan = holds;
  seal = rest.seal holding.seal;
}

pub prepare_holding : {tickets : List (Option Ticket)} {held : HeldGroup} {planned : HeldPlan} {old new : StateView} → (reply : Reply) → PrepareEvent reply old new → IsHolding old tickets held planned
    → IsHolding new tickets held planned
prepare_holding {planned = planned} {old = old} {new = new} reply step holding =
    check_holding (prepare_rest old reply new step) holding (plan_stays (prepare_stays old reply new step) planned holding.plan)
