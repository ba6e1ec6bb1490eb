use Rattle.path_db.proofs.Commands.{commands_append}
use Rattle.path_db.proofs.laws.command.commands_append.Goals as goal

pub returns : goal.returns
returns c = commands_append
