-- One goal, which the search finds itself.
use Rattle.std.proofs.Common.{rules}
use Rattle.ckpt_pair.proofs.encoding.encode_checkpoint.Goals as goal

pub returns-clause-spelled : goal.returns-clause-spelled
returns-clause-spelled c = search rules
