use Rattle.std.proofs.Common.{◌+◌, ◌-◌, ◌≤◌, length, take, vec_len, vec_capacity}
use Rattle.group_recovery.proofs.Runs.{RunSoFar}
use Rattle.group_recovery.proofs.running.run.Given as goal

-- The events before this one were done, and there is room for the replies to the others.
abbrev pub invariant-loop-event : goal.invariant-loop-event
invariant-loop-event g l = record {
  so_far : RunSoFar (take l.event-index l.events) l.replies.items l.fn.run l.run;
  room : vec_len l.replies + (length l.events - l.event-index) ≤ vec_capacity l.replies;
}
