use Rattle.std.proofs.Common.{take}
use Rattle.group_recovery.specs.Winding.{ending_events, winding_events}
use Rattle.group_recovery.proofs.Runs.{GoneBy}
use Rattle.group_recovery.proofs.run_state.Run.wind_up.Given as goal

-- The run has done the events before this one.
abbrev pub invariant-loop-event : goal.invariant-loop-event
invariant-loop-event g l = record { gone : GoneBy (take l.event-index ending_events) l.fn.self l.run }

abbrev pub invariant-loop-k : goal.invariant-loop-k
invariant-loop-k g l = record { gone : GoneBy (winding_events l.k) l.fn.self l.run }
