-- One goal, which the search finds itself.
use Rattle.std.proofs.Common.{rules}
use Rattle.ckpt_pair.proofs.error.PairError.number.Goals as goal

pub returns-in-NewerFormat : goal.returns-in-NewerFormat
returns-in-NewerFormat c = search rules
