use Rattle.std.specs.Prelude.{◌+◌, ◌≤◌}
use Rattle.std.specs.VecDeque.{deque_len, deque_capacity}
use Rattle.path_hub.proofs.hub.Hub.submit_all.Given as goal

-- there is room for the tickets of what is left of the batch
abbrev pub invariant-loop-handed : goal.invariant-loop-handed
invariant-loop-handed g l = deque_len l.locked.under_way + deque_len l.batch ≤ deque_capacity l.locked.under_way

abbrev pub decreases-loop-handed : goal.decreases-loop-handed
decreases-loop-handed g l = deque_len l.batch
