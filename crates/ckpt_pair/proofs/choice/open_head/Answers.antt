-- Goals that the search finds itself.
use Rattle.std.proofs.Common.{rules}
use Rattle.ckpt_pair.proofs.choice.open_head.Goals as goal

pub returns-then-version-gt-LATEST : goal.returns-then-version-gt-LATEST
returns-then-version-gt-LATEST c = search rules

pub returns : goal.returns
returns c = search rules
