-- One goal, which the search finds itself.
use Rattle.std.proofs.Common.{rules}
use Rattle.path_db.proofs.outcome.Outcome.count.Goals as goal

pub returns-in-Inserted : goal.returns-in-Inserted
returns-in-Inserted c = search rules
