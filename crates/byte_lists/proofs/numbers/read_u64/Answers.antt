-- One goal, which the search finds itself.
use Rattle.std.proofs.Common.{rules}
use Rattle.byte_lists.proofs.numbers.read_u64.Goals as goal

pub returns : goal.returns
returns c = search rules
