-- One goal, which the search finds itself.
use Rattle.std.proofs.Common.{arith}
use Rattle.std.proofs.lemmas.Grind.{common_steps}
use Rattle.byte_lists.proofs.numbers.read_u32.Goals as goal

pub returns : goal.returns
returns c = grind (arith, common_steps)
