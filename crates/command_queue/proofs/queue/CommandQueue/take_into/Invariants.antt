use Rattle.std.proofs.Common.{◌≡◌, ◌+◌, ◌++◌}
use Rattle.std.specs.VecDeque.{deque_len, deque_capacity}
use Rattle.command_queue.proofs.queue.CommandQueue.take_into.Given as goal

-- what was moved and what is left are all, in their order
abbrev pub invariant-loop : goal.invariant-loop
invariant-loop g l = record {
  order : l.batch.items ++ l.self.waiting.items ≡ l.fn.batch.items ++ l.fn.self.waiting.items;
  count : deque_len l.batch ≡ deque_len l.fn.batch + l.counter;
  capacity : deque_capacity l.batch ≡ deque_capacity l.fn.batch;
  next : l.self.numbers.next ≡ l.fn.self.numbers.next;
  door : l.self.is_closed ≡ l.fn.self.is_closed;
}
