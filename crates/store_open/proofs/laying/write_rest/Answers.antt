-- One goal, which the search finds itself.
use Rattle.std.proofs.Common.{arith}
use Rattle.std.proofs.lemmas.Grind.{common_steps}
use Rattle.store_open.proofs.laying.write_rest.Goals as goal

pub returns : goal.returns
returns g c = grind (arith, common_steps)
