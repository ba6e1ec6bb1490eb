use Rattle.std.proofs.Common.{◌+◌, ◌-◌, ◌≤◌, length, take, vec_len, vec_capacity}
use Rattle.prefix_recovery.proofs.SoFar.{TracesSoFar}
use Rattle.prefix_recovery.proofs.recovery.run_traced.Given as goal

-- The events before this one were made, and there is room for the replies to the others.
abbrev pub invariant-loop-i : goal.invariant-loop-i
invariant-loop-i g l = record {
  so_far : TracesSoFar (take l.i l.events) l.replies.items l.fn.run l.run l.trace;
  room : vec_len l.replies + (length l.events - l.i) ≤ vec_capacity l.replies;
}
