-- One goal, which the search finds itself.
use Rattle.std.proofs.Common.{rules}
use Rattle.store_open.proofs.folded.Folded.is_within.Goals as goal

pub returns-then-self-journal : goal.returns-then-self-journal
returns-then-self-journal c = search rules
