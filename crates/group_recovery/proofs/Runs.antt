-- The effect of each event of a run on the committed and the pending commands, and runs with one
-- more event.
use Rattle.std.proofs.Common.{◌≡◌, ◌⊎◌, inl, inr, ℕ, zero, suc, ◌+◌, ◌≤◌, true, false, List, [], ◌∷◌, ◌++◌, length, take, drop, get_or, ◌<◌, Option, Result, Ok, Err, IsOk, is_ok, if◌then◌else◌, refl, sym, ◌∙◌, ap, subst, arith, append_assoc, length-drop}
use Rattle.std.proofs.lemmas.List.{append-nil, length-take-le, take_more}
use Rattle.path_db.specs.declared.command.Command.{Command}
use Rattle.path_db.specs.declared.outcome.Outcome.{Outcome}
use Rattle.group_phases.specs.declared.phases.Flush.TheVariants as flush
use Rattle.group_phases.specs.declared.phases.Check.TheVariants as check
use Rattle.group_recovery.specs.declared.events.Event.{Event}
use Rattle.group_recovery.specs.declared.events.Event.TheVariants as event
use Rattle.group_recovery.specs.declared.events.Reply.{Reply}
use Rattle.group_recovery.specs.declared.events.Reply.TheVariants as reply
use Rattle.group_recovery.specs.declared.events.PublishRefusal.TheVariants as publish
use Rattle.group_recovery.specs.declared.holding.HeldGroup.{HeldGroup}
use Rattle.group_recovery.specs.declared.holding.HeldPlan.{HeldPlan}
use Rattle.group_recovery.specs.declared.holding.HeldPlan.TheVariants as plan
use Rattle.group_core.specs.declared.ticket.Ticket.{Ticket}
use Rattle.group_core.specs.StateView.{StateView}
use Rattle.group_core.specs.Stops.{StepLeaves}
use Rattle.group_core.specs.Publishing.{group_committed, journal_sealed}
use Rattle.group_core.specs.Following.{with_follower_in_flight}
use Rattle.group_core.specs.Submitting.{next_place}
use Rattle.group_core.specs.Redeeming.{halted}
use Rattle.group_recovery.specs.SameDevice.{DeviceGoesOn}
use Rattle.group_recovery.specs.RunSteps.{RunView, PublishEvent, PublishFollowedEvent, SubmitEvent, RedeemEvent, IsRunStep, IsRun}
use Rattle.group_recovery.specs.Holding.{HoldsGroup, HoldsPlan, SealWaits, HoldsTickets, IsHolding}
use Rattle.group_recovery.specs.Winding.{ending_events, winding_events, HasWound}
use Rattle.group_recovery.specs.RunLeaves.{accepted_by, accepted_in, lock_order, RunLeaves}
use Rattle.group_recovery.proofs.Prefix.{Moves, leaves_at_first, leaves_then}
use Rattle.group_recovery.proofs.Held.{TicketsStay, GroupStays, PlanStays, moves_none, tickets_stay, group_stays, plan_stays, FlushRest, CheckRest, flush_rest, check_rest, chunk_rest, stage_rest, follow_rest, prepare_rest, begin_rest, halt_rest, lookup_rest, planned_busy, at_busy, flush_holding}

pub none_or_some : (n : ℕ) → (n ≡ 0) ⊎ (1 ≤ n)
none_or_some zero = inl refl
none_or_some (suc n) = inr (omega arith)

-- Publishing a group commits it; publishing a seal, and every refusal, change nothing.
publish_moves : (reply : Reply) (old new : StateView) → old.taken ≤ length old.pending → PublishEvent reply old new → Moves [] old new
publish_moves reply.Done old new inside step = by (none_or_some old.taken)
  where
    by : (old.taken ≡ 0) ⊎ (1 ≤ old.taken) → Moves [] old new
    by (inl none) = let is = step.1.seal none in moves_none (record { value = ap (λ (v : StateView). v.value) is; pending = ap (λ (v : StateView). v.pending) is; geometry = ap (λ (v : StateView). v.geometry) is })
    by (inr some) = let is = step.1.group some in record {
      shown = old.taken;
      inside = inside;
      value = ap (λ (v : StateView). v.value) is;
      pending = ap (λ (v : StateView). v.pending) is ∙ sym (append-nil (drop old.taken old.pending));
      geometry = ap (λ (v : StateView). v.geometry) is;
    }
publish_moves (reply.PublishRefused publish.NoMemory) old new inside step = moves_none (record { value = ap (λ (v : StateView). v.value) step.2; pending = ap (λ (v : StateView). v.pending) step.2; geometry = ap (λ (v : StateView). v.geometry) step.2 })
publish_moves reply.NoValue old new inside step = moves_none (record { value = ap (λ (v : StateView). v.value) step.1; pending = ap (λ (v : StateView). v.pending) step.1; geometry = ap (λ (v : StateView). v.geometry) step.1 })
publish_moves _ old new inside step = absurd step

still_so : {old new : StateView} → new ≡ old → Moves [] old new
still_so is = moves_none (record { value = ap (λ (v : StateView). v.value) is; pending = ap (λ (v : StateView). v.pending) is; geometry = ap (λ (v : StateView). v.geometry) is })

-- publishing a group that another follows commits it
publish_followed_moves : (reply : Reply) (old new : StateView) → old.taken ≤ length old.pending → PublishFollowedEvent reply old new → Moves [] old new
publish_followed_moves reply.Done old new inside step = record {
  shown = old.taken;
  inside = inside;
  value = ap (λ (v : StateView). v.value) step.2;
  pending = ap (λ (v : StateView). v.pending) step.2 ∙ sym (append-nil (drop old.taken old.pending));
  geometry = ap (λ (v : StateView). v.geometry) step.2;
}
publish_followed_moves (reply.PublishRefused publish.NoMemory) old new inside step = still_so step.2
publish_followed_moves reply.NoValue old new inside step = still_so step.1
publish_followed_moves _ old new inside step = absurd step

submit_moves : (command : Command) (reply : Reply) (old new : RunView) → SubmitEvent command reply old new → Moves (accepted_by (event.Submit command) reply) old.state new.state
submit_moves command (reply.Accepted place) old new step = record {
  shown = 0;
  inside = omega arith;
  value = ap (λ (v : StateView). v.value) step.3 ∙ (λ i. record { db = old.state.value.db; place = same i });
  pending = ap (λ (v : StateView). v.pending) step.3;
  geometry = ap (λ (v : StateView). v.geometry) step.3;
}
  where
    same : old.state.value.place ≡ old.state.value.place + 0
    same = omega arith
submit_moves command (reply.Refused e) old new step = still_so (ap (λ (r : RunView). r.state) step.1)
submit_moves command _ old new step = absurd step

redeem_moves : (k : ℕ) (reply : Reply) (old new : RunView) → RedeemEvent k reply old new → Moves [] old.state new.state
redeem_moves k (reply.Committed place outcome) old new step = moves_none (record { value = ap (λ (r : RunView). r.state.value) step.3; pending = ap (λ (r : RunView). r.state.pending) step.3; geometry = ap (λ (r : RunView). r.state.geometry) step.3 })
redeem_moves k (reply.Waiting place) old new step = still_so (ap (λ (r : RunView). r.state) step.3)
redeem_moves k (reply.Unknown place) old new step = moves_none (record { value = ap (λ (r : RunView). r.state.value) step.3; pending = ap (λ (r : RunView). r.state.pending) step.3; geometry = ap (λ (r : RunView). r.state.geometry) step.3 })
redeem_moves k reply.NoValue old new step = still_so (ap (λ (r : RunView). r.state) step.1)
redeem_moves k _ old new step = absurd step

-- the checkpointer's events, and the events that leave the checkpointer's phase unchanged
abbrev pub IsCheckers : Event → Type 0
IsCheckers event.Prepare = Unit {0}
IsCheckers event.Begin = Unit {0}
IsCheckers event.WriteChunk = Unit {0}
IsCheckers event.SyncChunks = Unit {0}
IsCheckers event.OpenHalf = Unit {0}
IsCheckers event.SyncHalf = Unit {0}
IsCheckers event.CloseHalf = Unit {0}
IsCheckers event.SyncClose = Unit {0}
IsCheckers _ = ⊥

abbrev pub IsFlushers : Event → Type 0
IsFlushers event.Stage = Unit {0}
IsFlushers event.WriteGroup = Unit {0}
IsFlushers event.SyncGroup = Unit {0}
IsFlushers event.OpenGate = Unit {0}
IsFlushers event.SyncGate = Unit {0}
IsFlushers event.Follow = Unit {0}
IsFlushers event.WriteFollowing = Unit {0}
IsFlushers event.SyncFollowed = Unit {0}
IsFlushers (event.Lookup query now) = Unit {0}
IsFlushers event.Halt = Unit {0}
IsFlushers _ = ⊥

pub check_leaves : (e : Event) (r : Reply) (old new : RunView) → IsRunStep e r old new → IsCheckers e → CheckRest old.state new.state
check_leaves event.Prepare r old new step is = prepare_rest old.state r new.state step.1
check_leaves event.Begin r old new step is = begin_rest old.state r new.state step.1
check_leaves event.WriteChunk r old new step is = chunk_rest old.state r new.state step.1
check_leaves event.SyncChunks r old new step is = check_rest old.state _ (planned_busy old.state true) check.Laid old.state.plan old.state.written old.state.epoch old.state.version check.Planned r new.state step.1
check_leaves event.OpenHalf r old new step is = check_rest old.state _ (at_busy old.state check.Laid (λ (same : check.Laid ≡ check.Ready). cc)) check.Switched old.state.plan old.state.written old.state.epoch old.state.version check.SwitchFailed r new.state step.1
check_leaves event.SyncHalf r old new step is = check_rest old.state _ (at_busy old.state check.Switched (λ (same : check.Switched ≡ check.Ready). cc)) check.Live old.state.plan old.state.written _ _ check.Switched r new.state step.1
check_leaves event.CloseHalf r old new step is = check_rest old.state _ (at_busy old.state check.Live (λ (same : check.Live ≡ check.Ready). cc)) check.Closing old.state.plan old.state.written old.state.epoch old.state.version check.CloseFailed r new.state step.1
check_leaves event.SyncClose r old new step is = check_rest old.state _ (at_busy old.state check.Closing (λ (same : check.Closing ≡ check.Ready). cc)) check.Ready _ old.state.written old.state.epoch old.state.version check.Closing r new.state step.1
check_leaves _ r old new step is = absurd is

pub flush_leaves : (e : Event) (r : Reply) (old new : RunView) → IsRunStep e r old new → IsFlushers e → FlushRest old.state new.state
flush_leaves event.Stage r old new step is = stage_rest old.state r new.state step.1
flush_leaves event.WriteGroup r old new step is = flush_rest old.state flush.Staged flush.Written flush.Staged r new.state step.1
flush_leaves event.SyncGroup r old new step is = flush_rest old.state flush.Written flush.Stable flush.Written r new.state step.1
flush_leaves event.OpenGate r old new step is = flush_rest old.state flush.Stable flush.Opened flush.Doubtful r new.state step.1
flush_leaves event.SyncGate r old new step is = flush_rest old.state flush.Opened flush.Durable flush.Opened r new.state step.1
flush_leaves event.Follow r old new step is = follow_rest old.state r new.state step.1
flush_leaves event.WriteFollowing r old new step is = flush_rest old.state flush.Following flush.Followed flush.Following r new.state step.1
flush_leaves event.SyncFollowed r old new step is = flush_rest old.state flush.Followed flush.DurableFollowed flush.Followed r new.state step.1
flush_leaves (event.Lookup query now) r old new step is = lookup_rest old.state query now r new.state step.1
flush_leaves event.Halt r old new step is = halt_rest old.state r new.state step.1
flush_leaves _ r old new step is = absurd is

flush_moves : (e : Event) (r : Reply) (old new : RunView) → IsRunStep e r old new → IsFlushers e → Moves [] old.state new.state
flush_moves e r old new step is = moves_none (flush_leaves e r old new step is).still

check_moves : (e : Event) (r : Reply) (old new : RunView) → IsRunStep e r old new → IsCheckers e → Moves [] old.state new.state
check_moves e r old new step is = moves_none (check_leaves e r old new step is).still

-- the effect of each event on the committed and the pending commands
pub step_moves : (e : Event) (r : Reply) (old new : RunView) → old.state.taken ≤ length old.state.pending → IsRunStep e r old new → Moves (accepted_by e r) old.state new.state
step_moves (event.Submit command) r old new inside step = submit_moves command r old new step
step_moves event.Stage r old new inside step = flush_moves event.Stage r old new step tt
step_moves event.WriteGroup r old new inside step = flush_moves event.WriteGroup r old new step tt
step_moves event.SyncGroup r old new inside step = flush_moves event.SyncGroup r old new step tt
step_moves event.OpenGate r old new inside step = flush_moves event.OpenGate r old new step tt
step_moves event.SyncGate r old new inside step = flush_moves event.SyncGate r old new step tt
step_moves event.Publish r old new inside step = publish_moves r old.state new.state inside step.1
step_moves event.Follow r old new inside step = flush_moves event.Follow r old new step tt
step_moves event.WriteFollowing r old new inside step = flush_moves event.WriteFollowing r old new step tt
step_moves event.SyncFollowed r old new inside step = flush_moves event.SyncFollowed r old new step tt
step_moves event.PublishFollowed r old new inside step = publish_followed_moves r old.state new.state inside step.1
step_moves (event.Redeem k) r old new inside step = redeem_moves k r old new step
step_moves event.Prepare r old new inside step = check_moves event.Prepare r old new step tt
step_moves event.Begin r old new inside step = check_moves event.Begin r old new step tt
step_moves event.WriteChunk r old new inside step = check_moves event.WriteChunk r old new step tt
step_moves event.SyncChunks r old new inside step = check_moves event.SyncChunks r old new step tt
step_moves event.OpenHalf r old new inside step = check_moves event.OpenHalf r old new step tt
step_moves event.SyncHalf r old new inside step = check_moves event.SyncHalf r old new step tt
step_moves event.CloseHalf r old new inside step = check_moves event.CloseHalf r old new step tt
step_moves event.SyncClose r old new inside step = check_moves event.SyncClose r old new step tt
step_moves (event.Lookup query now) r old new inside step = flush_moves (event.Lookup query now) r old new step tt
step_moves event.Halt r old new inside step = flush_moves event.Halt r old new step tt

-- what a run holds, after the events that touch more
-- after a seal the other half waits for its checkpoint
seal_plan : (old : StateView) (held : HeldPlan) → old.check ≡ check.Ready → HoldsPlan held old → HoldsPlan held (journal_sealed old)
seal_plan old plan.None ready plans = plans
seal_plan old (plan.Plan value) ready plans = absurd (let at = plans.1.at in cc)
seal_plan old (plan.Laid value) ready plans = absurd (let at = plans.1.at in cc)
seal_plan old (plan.Switched value) ready plans = absurd (let at = plans.1.at in cc)
seal_plan old (plan.Live value) ready plans = absurd (let at = plans.1.at in cc)
seal_plan old (plan.Closing value) ready plans = absurd (let at = plans.1.at in cc)

module _ {tickets : List (Option Ticket)} {after : HeldGroup} (planned : HeldPlan) (old new : StateView) (holds : HoldsGroup after new) where
  -- a group is committed
  group_holding : (is : new ≡ group_committed old) → old.taken ≤ length old.pending → HoldsTickets tickets old → HoldsPlan planned old → IsHolding new tickets after planned
  group_holding is inside kept plans = record {
    tickets = tickets_stay (subst (TicketsStay old) (sym is) (record { home = refl; next = next; kept = refl })) kept;
    group = holds;
    plan = plan_stays (subst (PlanStays old) (sym is) (record { home = refl; check = refl; plan = refl; checkpoint = refl; written = refl })) planned plans;
    seal = subst SealWaits (sym is) (λ (out : false ≡ true) none. cc);
  }
    where
      next : next_place (group_committed old) ≡ next_place old
      next = omega (arith, length-take-le old.taken old.pending inside, length-drop old.taken old.pending)

  -- and the following group is in flight
  follower_holding : (is : new ≡ with_follower_in_flight old) → old.taken ≤ length old.pending → 1 ≤ old.following → HoldsTickets tickets old → HoldsPlan planned old → IsHolding new tickets after planned
  follower_holding is inside some kept plans = record {
    tickets = tickets_stay (subst (TicketsStay old) (sym is) (record { home = refl; next = next; kept = refl })) kept;
    group = holds;
    plan = plan_stays (subst (PlanStays old) (sym is) (record { home = refl; check = refl; plan = refl; checkpoint = refl; written = refl })) planned plans;
    seal = subst SealWaits (sym is) (λ out (none : old.following ≡ 0). absurd (omega (arith, some, none)));
  }
    where
      next : next_place (with_follower_in_flight old) ≡ next_place old
      next = omega (arith, length-take-le old.taken old.pending inside, length-drop old.taken old.pending)

  seal_holding : (is : new ≡ journal_sealed old) → old.check ≡ check.Ready → HoldsTickets tickets old → HoldsPlan planned old → IsHolding new tickets after planned
  seal_holding is ready kept plans = record {
    tickets = tickets_stay (subst (TicketsStay old) (sym is) (record { home = refl; next = refl; kept = refl })) kept;
    group = holds;
    plan = subst (HoldsPlan planned) (sym is) (seal_plan old planned ready plans);
    seal = subst SealWaits (sym is) (λ (out : false ≡ true) none. cc);
  }

  same_holding : (is : new ≡ old) → HoldsTickets tickets old → HoldsPlan planned old → SealWaits old → IsHolding new tickets after planned
  same_holding is kept plans waits = record {
    tickets = subst (HoldsTickets tickets) (sym is) kept;
    group = holds;
    plan = subst (HoldsPlan planned) (sym is) plans;
    seal = subst SealWaits (sym is) waits;
  }

pub publish_holding : {tickets : List (Option Ticket)} {held after : HeldGroup} {planned : HeldPlan} (reply : Reply) (old new : StateView) → old.taken ≤ length old.pending → PublishEvent reply old new
    → IsHolding old tickets held planned → HoldsGroup after new → IsHolding new tickets after planned
publish_holding {tickets} {held} {after} {planned} reply.Done old new inside step holding holds = by (none_or_some old.taken)
  where
    by : (old.taken ≡ 0) ⊎ (1 ≤ old.taken) → IsHolding new tickets after planned
    by (inl none) = seal_holding planned old new holds (step.1.seal none) (holding.seal step.0.0 none) holding.tickets holding.plan
    by (inr some) = group_holding planned old new holds (step.1.group some) inside holding.tickets holding.plan
publish_holding {planned = planned} (reply.PublishRefused publish.NoMemory) old new inside step holding holds = same_holding planned old new holds step.2 holding.tickets holding.plan holding.seal
publish_holding {planned = planned} reply.NoValue old new inside step holding holds = same_holding planned old new holds step.1 holding.tickets holding.plan holding.seal
publish_holding _ old new inside step holding holds = absurd step

pub publish_followed_holding : {tickets : List (Option Ticket)} {held after : HeldGroup} {planned : HeldPlan} (reply : Reply) (old new : StateView) → old.taken ≤ length old.pending → PublishFollowedEvent reply old new
    → IsHolding old tickets held planned → HoldsGroup after new → IsHolding new tickets after planned
publish_followed_holding {planned = planned} reply.Done old new inside step holding holds = follower_holding planned old new holds step.2 inside step.1.some holding.tickets holding.plan
publish_followed_holding {planned = planned} (reply.PublishRefused publish.NoMemory) old new inside step holding holds = same_holding planned old new holds step.2 holding.tickets holding.plan holding.seal
publish_followed_holding {planned = planned} reply.NoValue old new inside step holding holds = same_holding planned old new holds step.1 holding.tickets holding.plan holding.seal
publish_followed_holding _ old new inside step holding holds = absurd step

-- a command or a ticket: the commit values stay
pub record OthersStay (old new : StateView) : Type 0 where
  pub group : GroupStays old new
  pub plan : PlanStays old new
  pub seal : SealWaits old → SealWaits new

others_same : (old new : StateView) → new ≡ old → OthersStay old new
others_same old new is = subst (OthersStay old) (sym is) (record {
  group = record { home = refl; flush = refl; group = refl };
  plan = record { home = refl; check = refl; plan = refl; checkpoint = refl; written = refl };
  seal = λ waits. waits;
})

others_kept : (old new : StateView) (pending : List Command) (kept : List (ℕ × Outcome)) → new ≡ record old { pending = pending; kept = kept } → OthersStay old new
others_kept old new pending kept is = subst (OthersStay old) (sym is) (record {
  group = record { home = refl; flush = refl; group = refl };
  plan = record { home = refl; check = refl; plan = refl; checkpoint = refl; written = refl };
  seal = λ waits. waits;
})

pub submit_others : (command : Command) (reply : Reply) (old new : RunView) → SubmitEvent command reply old new → OthersStay old.state new.state
submit_others command (reply.Accepted place) old new step = others_kept old.state new.state _ _ step.3
submit_others command (reply.Refused e) old new step = others_same old.state new.state (ap (λ (r : RunView). r.state) step.1)
submit_others command _ old new step = absurd step

pub redeem_others : (k : ℕ) (reply : Reply) (old new : RunView) → RedeemEvent k reply old new → OthersStay old.state new.state
redeem_others k (reply.Committed place outcome) old new step = others_kept old.state new.state old.state.pending _ (ap (λ (r : RunView). r.state) step.3)
redeem_others k (reply.Waiting place) old new step = others_same old.state new.state (ap (λ (r : RunView). r.state) step.3)
redeem_others k (reply.Unknown place) old new step = others_kept old.state new.state old.state.pending _ (ap (λ (r : RunView). r.state) step.3)
redeem_others k reply.NoValue old new step = others_same old.state new.state (ap (λ (r : RunView). r.state) step.1)
redeem_others k _ old new step = absurd step

pub others_holding : {tickets after : List (Option Ticket)} {held : HeldGroup} {planned : HeldPlan} {old new : StateView} → OthersStay old new → IsHolding old tickets held planned → HoldsTickets after new
    → IsHolding new after held planned
others_holding {held = held} {planned = planned} stay holding holds = record {
  tickets = holds;
  group = group_stays stay.group held holding.group;
  plan = plan_stays stay.plan planned holding.plan;
  seal = stay.seal holding.seal;
}

-- a call that satisfies `StepLeaves` was made on the same device
device_goes_on : {old new : StateView} → StepLeaves old new → DeviceGoesOn old.disk new.disk
device_goes_on leaves = record {
  keeps = leaves.moments.keeps;
  goes_on = λ honest. let its = leaves.moments.leaves honest in record { later = its.later; are = its.goes_on };
}

-- a run with one more event
pub run_then : (events : List Event) (replies : List Reply) (e : Event) (r : Reply) (old mid new : RunView) → IsRun events replies old mid → IsRunStep e r mid new
    → DeviceGoesOn mid.state.disk new.state.disk → IsRun (events ++ e ∷ []) (replies ++ r ∷ []) old new
run_then [] [] e r old mid new is step on = (new, subst (λ (o : RunView). IsRunStep e r o new) is step, subst (λ (o : RunView). DeviceGoesOn o.state.disk new.state.disk) is on, refl)
run_then [] (r' ∷ replies) e r old mid new is step on = absurd is
run_then (e' ∷ events) [] e r old mid new is step on = absurd is
run_then (e' ∷ events) (r' ∷ replies) e r old mid new is step on = (is.0, is.1, is.2, run_then events replies e r is.0 mid new is.3 step on)

accepted_then : (events : List Event) (replies : List Reply) (e : Event) (r : Reply) (old mid : RunView) → IsRun events replies old mid
    → accepted_in (events ++ e ∷ []) (replies ++ r ∷ []) ≡ accepted_in events replies ++ accepted_by e r
accepted_then [] [] e r old mid is = append-nil (accepted_by e r)
accepted_then [] (r' ∷ replies) e r old mid is = absurd is
accepted_then (e' ∷ events) [] e r old mid is = absurd is
accepted_then (e' ∷ events) (r' ∷ replies) e r old mid is =
    ap (λ (l : List Command). accepted_by e' r' ++ l) (accepted_then events replies e r is.0 mid is.3) ∙ sym (append_assoc (accepted_by e' r') (accepted_in events replies) (accepted_by e r))

-- a run until now, and what a stop leaves of it
pub record RunSoFar (events : List Event) (replies : List Reply) (start now : RunView) : Type 0 where
  pub runs : IsRun events replies start now
  pub leaves : RunLeaves start.state (lock_order start.state events replies) now.state

pub so_far_then : (events : List Event) (replies : List Reply) (e : Event) (r : Reply) (start mid new : RunView) → RunSoFar events replies start mid → mid.state.taken ≤ length mid.state.pending
    → IsRunStep e r mid new → StepLeaves mid.state new.state → RunSoFar (events ++ e ∷ []) (replies ++ r ∷ []) start new
so_far_then events replies e r start mid new so_far inside step leaves = record {
  runs = run_then events replies e r start mid new so_far.runs step (device_goes_on leaves);
  leaves = subst (λ (l : List Command). RunLeaves start.state l new.state) order
      (leaves_then start.state mid.state new.state (lock_order start.state events replies) (accepted_by e r) so_far.leaves (step_moves e r mid new inside step) leaves);
}
  where
    order : lock_order start.state events replies ++ accepted_by e r ≡ lock_order start.state (events ++ e ∷ []) (replies ++ r ∷ [])
    order =
        append_assoc start.state.pending (accepted_in events replies) (accepted_by e r)
        ∙ ap (λ (l : List Command). start.state.pending ++ l) (sym (accepted_then events replies e r start mid so_far.runs))

-- before the first event
pub so_far_first : (events : List Event) (replies : List Reply) (start : RunView) → events ≡ [] → replies ≡ [] → StepLeaves start.state start.state → RunSoFar events replies start start
so_far_first events replies start no_events no_replies stays =
    subst (λ (l : List Event). RunSoFar l replies start start) (sym no_events)
    (subst (λ (l : List Reply). RunSoFar [] l start start) (sym no_replies) (record { runs = refl; leaves = leaves_at_first start.state stays }))

-- when the state stops, what is held stays
pub halt_holding : {tickets : List (Option Ticket)} {held : HeldGroup} {planned : HeldPlan} {old new : StateView} → new ≡ halted old → IsHolding old tickets held planned → IsHolding new tickets held planned
halt_holding {held = held} {old = old} {new = new} is holding =
    flush_holding (halt_rest old reply.Done new is) holding (group_stays (subst (GroupStays old) (sym is) (record { home = refl; flush = refl; group = refl })) held holding.group)

-- a reply is put after the others where there is room
pub pushed_so : {T E : Type 0} (result : Result T E) (items pushed : List Reply) (r : Reply) → IsOk result → pushed ≡ (if is_ok result then items ++ r ∷ [] else items) → pushed ≡ items ++ r ∷ []
pushed_so (Ok done) items pushed r ok is = is
pushed_so (Err e) items pushed r ok is = absurd (cc)

-- one more event
pub so_far_more : (events : List Event) (i : ℕ) (e : Event) (replies pushed : List Reply) (r : Reply) (start mid new : RunView) → i < length events → e ≡ get_or events i e → pushed ≡ replies ++ r ∷ []
    → RunSoFar (take i events) replies start mid → mid.state.taken ≤ length mid.state.pending → IsRunStep e r mid new → StepLeaves mid.state new.state → RunSoFar (take (i + 1) events) pushed start new
so_far_more events i e replies pushed r start mid new inside is pushed_is so_far taken step leaves =
    subst (λ (l : List Event). RunSoFar l pushed start new) (sym (take_more events i e inside ∙ ap (λ (x : Event). take i events ++ x ∷ []) (sym is)))
    (subst (λ (l : List Reply). RunSoFar (take i events ++ e ∷ []) l start new) (sym pushed_is) (so_far_then (take i events) replies e r start mid new so_far taken step leaves))

-- a run by these events, with some replies
pub record GoneBy (events : List Event) (start now : RunView) : Type 0 where
  pub replies : List Reply
  pub so_far : RunSoFar events replies start now

pub gone_first : (start : RunView) → StepLeaves start.state start.state → GoneBy [] start start
gone_first start stays = record { replies = []; so_far = so_far_first [] [] start refl refl stays }

-- one more of these events, which is read from a list of them
pub gone_ending : (list : List Event) (i : ℕ) (item : Event) (r : Reply) (start mid new : RunView) → list ≡ ending_events → i < 15 → item ≡ get_or list i item → GoneBy (take i ending_events) start mid
    → mid.state.taken ≤ length mid.state.pending → IsRunStep (get_or list i item) r mid new → StepLeaves mid.state new.state → GoneBy (take (i + 1) ending_events) start new
gone_ending list i item r start mid new are inside is gone taken step leaves = record {
  replies = gone.replies ++ r ∷ [];
  so_far =
      so_far_more ending_events i item gone.replies (gone.replies ++ r ∷ []) r start mid new inside (is ∙ ap (λ (l : List Event). get_or l i item) are) refl gone.so_far taken
      (subst (λ (e : Event). IsRunStep e r mid new) (sym is) step) leaves;
}

-- all of these events
pub gone_to_the_end : (i : ℕ) (start now : RunView) → 15 ≤ i → i ≤ 15 → GoneBy (take i ending_events) start now → GoneBy (winding_events 0) start now
gone_to_the_end i start now least most gone = let all : i ≡ 15 = omega arith in subst (λ (n : ℕ). GoneBy (take n ending_events) start now) all gone

-- one more ticket
pub gone_redeeming : (k : ℕ) (r : Reply) (start mid new : RunView) → GoneBy (winding_events k) start mid → mid.state.taken ≤ length mid.state.pending → IsRunStep (event.Redeem k) r mid new
    → StepLeaves mid.state new.state → GoneBy (winding_events (k + 1)) start new
gone_redeeming k r start mid new gone taken step leaves =
    let next : suc k ≡ k + 1 = omega arith in
    subst (λ (n : ℕ). GoneBy (winding_events n) start new) next (record { replies = gone.replies ++ r ∷ []; so_far = so_far_then (winding_events k) gone.replies (event.Redeem k) r start mid new gone.so_far taken step leaves })

-- events that accept no command
abbrev IsWinding : Event → Type 0
IsWinding (event.Submit command) = ⊥
IsWinding _ = Unit {0}

abbrev AllWinding : List Event → Type 0
AllWinding [] = Unit {0}
AllWinding (e ∷ events) = IsWinding e × AllWinding events

winding_then : (events : List Event) (k : ℕ) → AllWinding events → AllWinding (events ++ event.Redeem k ∷ [])
winding_then [] k all = (tt, tt)
winding_then (e ∷ events) k all = (all.0, winding_then events k all.1)

all_winding : (n : ℕ) → AllWinding (winding_events n)
all_winding zero = (tt, (tt, (tt, (tt, (tt, (tt, (tt, (tt, (tt, (tt, (tt, (tt, (tt, (tt, (tt, tt)))))))))))))))
all_winding (suc n) = winding_then (winding_events n) n (all_winding n)

none_accepted : (e : Event) (r : Reply) → IsWinding e → accepted_by e r ≡ []
none_accepted (event.Submit command) r is = absurd is
none_accepted _ r is = refl

none_accepted_in : (events : List Event) → AllWinding events → (replies : List Reply) → accepted_in events replies ≡ []
none_accepted_in [] all replies = refl
none_accepted_in (e ∷ events) all [] = refl
none_accepted_in (e ∷ events) all (r ∷ replies) = λ i. none_accepted e r all.0 i ++ none_accepted_in events all.1 replies i

-- all tickets
pub wound_so : (k n : ℕ) (start now : RunView) → n ≤ k → k ≤ n → n ≡ length start.tickets → GoneBy (winding_events k) start now → HasWound start now
wound_so k n start now least most count gone =
    let all : k ≡ length start.tickets = omega (arith, count) in
    record {
      events = winding_events k;
      replies = gone.replies;
      are = ap winding_events all;
      runs = gone.so_far.runs;
      none = none_accepted_in (winding_events k) (all_winding k) gone.replies;
      leaves = gone.so_far.leaves;
    }
