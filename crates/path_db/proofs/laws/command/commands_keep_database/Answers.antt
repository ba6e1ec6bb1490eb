use Rattle.path_db.proofs.Commands.{commands_keep_database}
use Rattle.path_db.proofs.laws.command.commands_keep_database.Goals as goal

pub returns-clause-empty : goal.returns-clause-empty
returns-clause-empty c = record { rising = tt; whole = tt }

pub returns-clause-kept : goal.returns-clause-kept
returns-clause-kept c = commands_keep_database
