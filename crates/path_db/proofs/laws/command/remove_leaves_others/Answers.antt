use Rattle.path_db.proofs.Kept.{remove_leaves_others}
use Rattle.path_db.proofs.laws.command.remove_leaves_others.Goals as goal

pub returns : goal.returns
returns c = remove_leaves_others
