-- One goal, which the search finds itself.
use Rattle.std.proofs.Common.{rules}
use Rattle.session_core.proofs.service.RefMutService.purge.Goals as goal

pub returns : goal.returns
returns g c = search rules
