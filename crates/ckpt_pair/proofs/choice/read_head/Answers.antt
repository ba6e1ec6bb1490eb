-- Goals that the search finds itself.
use Rattle.std.proofs.Common.{rules}
use Rattle.ckpt_pair.proofs.choice.read_head.Goals as goal

pub returns-in_err-open_head : goal.returns-in_err-open_head
returns-in_err-open_head c = search rules

pub returns : goal.returns
returns c = search rules
