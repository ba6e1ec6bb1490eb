-- One goal, which the search finds itself.
use Rattle.std.proofs.Common.{rules}
use Rattle.session_core.proofs.serving.end.Goals as goal

pub returns-else-is_done-clause-whole : goal.returns-else-is_done-clause-whole
returns-else-is_done-clause-whole g c = search rules
