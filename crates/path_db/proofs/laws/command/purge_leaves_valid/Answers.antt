use Rattle.path_db.proofs.Kept.{purge_leaves_valid}
use Rattle.path_db.proofs.laws.command.purge_leaves_valid.Goals as goal

pub returns : goal.returns
returns c = purge_leaves_valid
