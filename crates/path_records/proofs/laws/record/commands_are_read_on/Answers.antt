use Rattle.path_records.proofs.Spelled.{command_read_on}
use Rattle.path_records.proofs.laws.record.commands_are_read_on.Goals as goal

pub returns : goal.returns
returns c = command_read_on
