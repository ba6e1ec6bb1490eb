-- One goal, which the search finds itself.
use Rattle.std.proofs.Common.{rules}
use Rattle.ckpt_pair.proofs.choice.choose.Goals as goal

pub returns-in-None-None : goal.returns-in-None-None
returns-in-None-None c = search rules
