use Rattle.path_db.proofs.Counts.{each_put_is_counted}
use Rattle.path_db.proofs.laws.outcome.each_put_is_counted.Goals as goal

pub returns : goal.returns
returns c = each_put_is_counted
