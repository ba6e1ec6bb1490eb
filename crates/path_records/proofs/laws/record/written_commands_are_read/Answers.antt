use Rattle.path_records.proofs.ReadBack.{command_read_back}
use Rattle.path_records.proofs.laws.record.written_commands_are_read.Goals as goal

pub returns : goal.returns
returns c = command_read_back
