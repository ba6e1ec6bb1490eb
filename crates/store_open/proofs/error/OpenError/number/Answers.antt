-- One goal, which the search finds itself.
use Rattle.std.proofs.Common.{rules}
use Rattle.store_open.proofs.error.OpenError.number.Goals as goal

pub returns-in-Pair : goal.returns-in-Pair
returns-in-Pair c = search rules
