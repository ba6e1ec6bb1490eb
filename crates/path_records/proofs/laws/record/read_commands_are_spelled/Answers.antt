use Rattle.path_records.proofs.Spelled.{command_spelled}
use Rattle.path_records.proofs.laws.record.read_commands_are_spelled.Goals as goal

pub returns : goal.returns
returns c = command_spelled
