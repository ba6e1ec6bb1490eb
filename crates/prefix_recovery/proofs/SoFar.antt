-- A run until now, and its trace.
use Rattle.std.proofs.Common.{◌≡◌, ℕ, ◌+◌, ◌-◌, ◌<◌, ◌≤◌, List, [], ◌∷◌, ◌++◌, length, take, drop, slice_range, refl, sym, ◌∙◌, ap, subst, arith, length-take, length-drop}
use Rattle.std.proofs.lemmas.List.{append-nil, length-take-le, take_all}
use Rattle.std.proofs.Math.Seq.{take-add}
use Rattle.path_db.specs.declared.command.Command.{Command}
use Rattle.group_recovery.specs.declared.events.Event.{Event}
use Rattle.group_recovery.specs.declared.events.Reply.{Reply}
use Rattle.group_recovery.specs.RunSteps.{RunView, IsRun}
use Rattle.group_recovery.specs.RunLeaves.{accepted_in, lock_order}
use Rattle.prefix_recovery.specs.Survival.{TraceView, last_run, end_of, IsAfterFront, AcknowledgedAreCommitted, IsTraceOf}
use Rattle.prefix_recovery.specs.Served.{LookupsAreServed}
use Rattle.prefix_recovery.specs.Steps.{LeadsThrough}
use Rattle.prefix_recovery.specs.TraceSteps.{trace_at, trace_after}
use Rattle.prefix_recovery.specs.Recoverable.{IsRecoverable}
use Rattle.prefix_recovery.proofs.Extended.{last_pushed}
use Rattle.prefix_recovery.proofs.Recovered.{committed_front_at}
use Rattle.prefix_recovery.proofs.TicketPlaces.{tickets_of_run}
use Rattle.prefix_recovery.proofs.Runs.{runs_joined, orders_joined, as_many_replies, acknowledged_then, served_then, leads_then}

pub record TracesSoFar (events : List Event) (replies : List Reply) (start now : RunView) (trace : TraceView) : Type 0 where
  pub runs : IsRun events replies start now
  pub starts : trace.start ≡ start
  pub ends : end_of trace ≡ now
  pub order : trace.order ≡ lock_order start.state events replies
  pub acknowledged : AcknowledgedAreCommitted replies trace.later
  pub served : LookupsAreServed events replies trace.later
  pub leads : LeadsThrough events replies start trace.later
  pub unopened : trace.attempts ≡ []

-- before the first event
pub so_far_at : (start now : RunView) (events : List Event) (replies : List Reply) (trace : TraceView) → events ≡ [] → replies ≡ [] → now ≡ start → trace ≡ trace_at start → TracesSoFar events replies start now trace
so_far_at start now events replies trace no_events no_replies same is =
    subst (λ (l : List Event). TracesSoFar l replies start now trace) (sym no_events)
    (subst (λ (l : List Reply). TracesSoFar [] l start now trace) (sym no_replies)
    (subst (λ (r : RunView). TracesSoFar [] [] start r trace) (sym same)
    (subst (λ (t : TraceView). TracesSoFar [] [] start start t) (sym is)
    (record { runs = refl; starts = refl; ends = refl; order = sym (append-nil start.state.pending); acknowledged = tt; served = tt; leads = tt; unopened = refl }))))

-- one more event
pub so_far_after : (events event : List Event) (replies : List Reply) (r : Reply) (start mid new : RunView) (trace : TraceView) → length event ≡ 1 → TracesSoFar events replies start mid trace
    → IsRun event (r ∷ []) mid new → TracesSoFar (events ++ event) (replies ++ r ∷ []) start new (trace_after trace event r new)
so_far_after events event replies r start mid new trace one so_far is = record {
  runs = runs_joined events event replies (r ∷ []) start mid new so_far.runs is;
  starts = so_far.starts;
  ends = last_pushed trace.start trace.later new;
  order = ap (λ (l : List Command). l ++ accepted_in event (r ∷ [])) so_far.order ∙ orders_joined start.state events event replies (r ∷ []) start mid so_far.runs;
  acknowledged = acknowledged_then event replies r trace.later mid new one so_far.acknowledged is;
  served = served_then events event replies r trace.later mid new one so_far.served is;
  leads =
      leads_then events event replies r start trace.later mid new one (ap (λ (run : RunView). last_run run trace.later) (sym so_far.starts) ∙ so_far.ends) so_far.leads is;
  unopened = so_far.unopened;
}

-- the whole run
pub trace_of_run : (events : List Event) (replies : List Reply) (start now : RunView) (trace : TraceView) → TracesSoFar events replies start now trace → IsRecoverable trace → IsTraceOf start events replies now trace
trace_of_run events replies start now trace so_far recoverable = record {
  starts = so_far.starts;
  ends = so_far.ends;
  order = so_far.order;
  fronts = λ run there.
      subst (λ (s : RunView). IsAfterFront s.state.value trace.order run.state.value) so_far.starts (committed_front_at trace recoverable run there);
  acknowledged = so_far.acknowledged;
  tickets = tickets_of_run start trace.order events replies now so_far.order so_far.runs;
  unopened = so_far.unopened;
}

-- no event was made, and there is no reply
pub so_far_nothing : (events : List Event) (replies : List Reply) (start now : RunView) (trace : TraceView) → replies ≡ [] → now ≡ start → trace ≡ trace_at start
    → TracesSoFar (take (length replies) events) replies start now trace
so_far_nothing events replies start now trace none same is =
    so_far_at start now (take (length replies) events) replies trace (ap (λ (l : List Reply). take (length l) events) none) none same is

-- one more event of the list
pub so_far_more : (events : List Event) (i : ℕ) (replies pushed : List Reply) (r : Reply) (start mid new : RunView) (trace longer : TraceView) → i < length events → pushed ≡ replies ++ r ∷ []
    → longer ≡ trace_after trace (slice_range events i (i + 1)) r new → TracesSoFar (take i events) replies start mid trace → IsRun (slice_range events i (i + 1)) (r ∷ []) mid new
    → TracesSoFar (take (i + 1) events) pushed start new longer
so_far_more events i replies pushed r start mid new trace longer inside pushed_is is so_far run =
    subst (λ (l : List Event). TracesSoFar l pushed start new longer) (sym cut)
    (subst (λ (l : List Reply). TracesSoFar (take i events ++ event) l start new longer) (sym pushed_is)
    (subst (λ (t : TraceView). TracesSoFar (take i events ++ event) (replies ++ r ∷ []) start new t) (sym is)
    (so_far_after (take i events) event replies r start mid new trace one so_far run)))
  where
    event : List Event
    event = slice_range events i (i + 1)

    one_on : i + 1 - i ≡ 1
    one_on = omega arith

    cut : take (i + 1) events ≡ take i events ++ slice_range events i (i + 1)
    cut = take-add i 1 events ∙ ap (λ (n : ℕ). take i events ++ take n (drop i events)) (sym one_on)

    one : length (slice_range events i (i + 1)) ≡ 1
    one = omega (arith, inside, one_on, length-take (i + 1 - i) (drop i events), length-drop i events)

-- as many events were made as there are replies
module _ (events : List Event) (i : ℕ) (replies : List Reply) (start mid : RunView) (trace : TraceView) (so_far : TracesSoFar (take i events) replies start mid trace) where
  pub replies_so_far : i ≤ length events → length replies ≡ i
  replies_so_far within = as_many_replies (take i events) replies start mid so_far.runs ∙ length-take-le i events within

  pub so_far_by_replies : (back : RunView) → i ≤ length events → back ≡ mid → TracesSoFar (take (length replies) events) replies start back trace
  so_far_by_replies back within same =
      subst (λ (n : ℕ). TracesSoFar (take n events) replies start back trace) (sym (replies_so_far within))
      (subst (λ (run : RunView). TracesSoFar (take i events) replies start run trace) (sym same) so_far)

  pub so_far_whole : length events ≤ i → TracesSoFar events replies start mid trace
  so_far_whole all = subst (λ (l : List Event). TracesSoFar l replies start mid trace) (take_all i events all) so_far
