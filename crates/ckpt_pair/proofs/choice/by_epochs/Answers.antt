-- Goals that the search finds itself.
use Rattle.std.proofs.Common.{rules}
use Rattle.ckpt_pair.proofs.choice.by_epochs.Goals as goal

pub returns-then-first-second-2 : goal.returns-then-first-second-2
returns-then-first-second-2 c = search rules

pub returns-else-first-second-2 : goal.returns-else-first-second-2
returns-else-first-second-2 c = search rules

pub returns-then-first-second : goal.returns-then-first-second
returns-then-first-second c = search rules
