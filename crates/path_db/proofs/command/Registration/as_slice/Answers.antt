-- One goal, which the search finds itself.
use Rattle.std.proofs.Common.{rules}
use Rattle.path_db.proofs.command.Registration.as_slice.Goals as goal

pub returns : goal.returns
returns c = search rules
