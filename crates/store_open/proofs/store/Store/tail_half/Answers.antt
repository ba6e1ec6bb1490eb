-- One goal, which the search finds itself.
use Rattle.std.proofs.Common.{rules}
use Rattle.store_open.proofs.store.Store.tail_half.Goals as goal

pub returns-then-self : goal.returns-then-self
returns-then-self g c = search rules
