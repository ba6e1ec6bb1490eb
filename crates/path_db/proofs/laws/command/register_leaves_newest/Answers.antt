use Rattle.path_db.proofs.Newest.{register_leaves_newest}
use Rattle.path_db.proofs.laws.command.register_leaves_newest.Goals as goal

pub returns : goal.returns
returns c = register_leaves_newest
