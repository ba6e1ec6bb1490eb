use Rattle.std.specs.Prelude.{◌≡◌}
use Rattle.std.specs.VecDeque.{deque_len}
use Rattle.path_hub.proofs.handing.give_up_all.Given as goal

-- the log is as it was
abbrev pub invariant-loop-first : goal.invariant-loop-first
invariant-loop-first g l = l.state.log ≡ l.fn.state.log

abbrev pub decreases-loop-first : goal.decreases-loop-first
decreases-loop-first g l = deque_len l.under_way
