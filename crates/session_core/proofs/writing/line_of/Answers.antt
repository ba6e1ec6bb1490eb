-- One goal, which the search finds itself.
use Rattle.std.proofs.Common.{rules}
use Rattle.session_core.proofs.writing.line_of.Goals as goal

pub returns : goal.returns
returns g c = search rules
