use Rattle.std.proofs.Common.{◌≤◌, ◌-◌, length}
use Rattle.path_records.proofs.in_threads.rows_of_len.Given as goal

-- The length is at most that of the bytes.
abbrev pub invariant-loop-at : goal.invariant-loop-at
invariant-loop-at l = l.at ≤ length l.bytes

abbrev pub decreases-loop-at : goal.decreases-loop-at
decreases-loop-at l = length l.bytes - l.at
