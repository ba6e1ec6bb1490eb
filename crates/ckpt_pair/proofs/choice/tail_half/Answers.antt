-- Goals that the search finds itself.
use Rattle.std.proofs.Common.{rules}
use Rattle.ckpt_pair.proofs.choice.tail_half.Goals as goal

pub returns : goal.returns
returns c = search rules

pub returns-then-is_some : goal.returns-then-is_some
returns-then-is_some c = search rules
