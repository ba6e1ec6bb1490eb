-- How traces are made.
use Rattle.std.specs.Prelude.{List, [], ◌∷◌, ◌++◌}
use Rattle.group_recovery.specs.declared.events.Event.{Event}
use Rattle.group_recovery.specs.declared.events.Reply.{Reply}
use Rattle.group_recovery.specs.RunSteps.{RunView}
use Rattle.group_recovery.specs.RunLeaves.{accepted_in}
use Rattle.prefix_recovery.specs.Survival.{TraceView}

-- The trace of a run without events.
abbrev pub trace_at : RunView → TraceView
trace_at run = record { start = run; order = run.state.pending; later = []; attempts = [] }

-- The trace after one more event, as a list of one, with its reply.
abbrev pub trace_after : TraceView → List Event → Reply → RunView → TraceView
trace_after trace event r run = record {
  start = trace.start;
  order = trace.order ++ accepted_in event (r ∷ []);
  later = trace.later ++ run ∷ [];
  attempts = trace.attempts;
}
