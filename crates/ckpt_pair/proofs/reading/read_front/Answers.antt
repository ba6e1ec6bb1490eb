-- One goal, which the search finds itself.
use Rattle.std.proofs.Common.{rules}
use Rattle.ckpt_pair.proofs.reading.read_front.Goals as goal

pub returns : goal.returns
returns c = search rules
