use Rattle.std.proofs.Common.{◌≡◌, length}
use Rattle.hub_readers.proofs.opening.new_readers.Given as goal

-- As many readers are made as there were turns.
abbrev pub invariant-loop : goal.invariant-loop
invariant-loop g l = length l.readers.items ≡ l.counter
