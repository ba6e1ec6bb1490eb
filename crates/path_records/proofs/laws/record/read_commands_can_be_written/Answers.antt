use Rattle.path_records.proofs.Writable.{command_can}
use Rattle.path_records.proofs.laws.record.read_commands_can_be_written.Goals as goal

pub returns : goal.returns
returns c = command_can
