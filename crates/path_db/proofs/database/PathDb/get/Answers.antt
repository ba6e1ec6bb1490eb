-- One goal, which the search finds itself.
use Rattle.std.proofs.Common.{rules}
use Rattle.path_db.proofs.database.PathDb.get.Goals as goal

pub returns-in-Some-clause-same : goal.returns-in-Some-clause-same
returns-in-Some-clause-same c = search rules
