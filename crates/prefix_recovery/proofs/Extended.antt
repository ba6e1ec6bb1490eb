-- Traces get longer: what holds of every trace is kept.
use Rattle.std.proofs.Common.{◌≡◌, List, [], ◌∷◌, ◌++◌, drop, refl, sym, ◌∙◌, ap, subst, arith, length-append}
use Rattle.std.proofs.lemmas.List.{take-append-le, drop-append-le}
use Rattle.std.proofs.lemmas.List.Elements.{All-nil, All-cons, All-append, All-weaker}
use Rattle.path_db.specs.declared.command.Command.{Command}
use Rattle.sector_dev.specs.Disk.{Disk}
use Rattle.sector_dev.specs.Image.{IsFromImage}
use Rattle.sector_dev.specs.Stretch.{Stretch}
use Rattle.store_layout.specs.StoreValues.{value_after}
use Rattle.store_open.specs.Open.{OpensAlike}
use Rattle.store_open.specs.PathStores.{store_format}
use Rattle.group_recovery.specs.declared.events.Event.{Event}
use Rattle.group_recovery.specs.declared.events.Reply.{Reply}
use Rattle.group_recovery.specs.RunSteps.{RunView}
use Rattle.group_recovery.specs.RunLeaves.{accepted_in, lock_order, IsFrontCommitted, RunLeaves}
use Rattle.prefix_recovery.specs.Survival.{TraceView, runs_of, last_run, end_of, trace_opened}
use Rattle.prefix_recovery.specs.TraceSteps.{trace_at, trace_after}
use Rattle.prefix_recovery.specs.Recoverable.{LeavesFront, OpensAsBefore, IsRecoverable}
use Rattle.prefix_recovery.proofs.Fronts.{none_after}
use Rattle.prefix_recovery.proofs.Joined.{committed_joined, leaves_joined, leaves_here}

pub last_pushed : (run : RunView) (later : List RunView) (new : RunView) → last_run run (later ++ new ∷ []) ≡ new
last_pushed run [] new = refl
last_pushed run (next ∷ later) new = last_pushed next later new

-- a run without events
pub recoverable_at : (run : RunView) → RunLeaves run.state run.state.pending run.state → IsRecoverable (trace_at run)
recoverable_at run leaves = record {
  runs =
      All-cons (LeavesFront (trace_at run)) run []
      (record { done = 0; inside = omega arith; value = none_after run.state.value; leaves = leaves })
      (All-nil (LeavesFront (trace_at run)));
  last = leaves.committed;
  attempts = All-nil OpensAsBefore;
}

-- one more event
module _ (trace : TraceView) (event : List Event) (r : Reply) (new : RunView) (so_far : IsRecoverable trace)
    (leaves : RunLeaves (end_of trace).state (lock_order (end_of trace).state event (r ∷ [])) new.state) where
  abbrev longer : TraceView
  longer = trace_after trace event r new

  abbrev more : List Command
  more = accepted_in event (r ∷ [])

  ends : end_of longer ≡ new
  ends = last_pushed trace.start trace.later new

  front_kept : (run : RunView) → LeavesFront trace run → LeavesFront longer run
  front_kept run front = record {
    done = front.done;
    inside = omega (arith, front.inside, length-append trace.order more);
    value = front.value ∙ ap (λ (l : List Command). value_after store_format trace.start.state.value l) (sym (take-append-le front.done trace.order more front.inside));
    leaves =
        subst (λ (e : RunView). RunLeaves run.state (drop front.done (trace.order ++ more)) e.state) (sym ends)
        (subst (λ (l : List Command). RunLeaves run.state l new.state) (sym (drop-append-le front.done trace.order more front.inside))
        (leaves_joined run.state (end_of trace).state new.state (drop front.done trace.order) more front.leaves leaves));
  }

  last_then : IsFrontCommitted trace.start.state (trace.order ++ more) new.state
  last_then = committed_joined trace.start.state (end_of trace).state trace.order more so_far.last new.state leaves.committed

  front_new : LeavesFront longer new
  front_new = record {
    done = last_then.done;
    inside = last_then.inside;
    value = last_then.value;
    leaves =
        subst (λ (e : RunView). RunLeaves new.state (drop last_then.done (trace.order ++ more)) e.state) (sym ends)
        (subst (λ (l : List Command). RunLeaves new.state l new.state) last_then.pending
        (leaves_here (end_of trace).state new.state (lock_order (end_of trace).state event (r ∷ [])) leaves));
  }

  pub recoverable_then : IsRecoverable longer
  recoverable_then = record {
    runs =
        All-append (LeavesFront longer) (runs_of trace) (new ∷ [])
        (All-weaker (LeavesFront trace) (LeavesFront longer) front_kept (runs_of trace) so_far.runs)
        (All-cons (LeavesFront longer) new [] front_new (All-nil (LeavesFront longer)));
    last = subst (λ (e : RunView). IsFrontCommitted trace.start.state (trace.order ++ more) e.state) (sym ends) last_then;
    attempts = so_far.attempts;
  }

-- one more opening
pub recoverable_opened : (trace : TraceView) (before after : Disk) → IsRecoverable trace → Stretch before after (IsFromImage before.history.now OpensAlike) → IsRecoverable (trace_opened trace before after)
recoverable_opened trace before after so_far stretch = record {
  runs = All-weaker (LeavesFront trace) (LeavesFront (trace_opened trace before after)) same (runs_of trace) so_far.runs;
  last = so_far.last;
  attempts = All-cons OpensAsBefore (record { before = before; after = after }) trace.attempts stretch so_far.attempts;
}
  where
    same : (run : RunView) → LeavesFront trace run → LeavesFront (trace_opened trace before after) run
    same run front = record { done = front.done; inside = front.inside; value = front.value; leaves = front.leaves }
