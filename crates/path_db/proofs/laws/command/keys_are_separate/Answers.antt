use Rattle.path_db.proofs.Commands.{keys_are_separate}
use Rattle.path_db.proofs.laws.command.keys_are_separate.Goals as goal

pub returns : goal.returns
returns c = keys_are_separate
