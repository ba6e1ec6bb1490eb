use Rattle.path_db.proofs.Counts.{rows_are_counted}
use Rattle.path_db.proofs.laws.outcome.rows_are_counted.Goals as goal

pub returns : goal.returns
returns c = rows_are_counted
