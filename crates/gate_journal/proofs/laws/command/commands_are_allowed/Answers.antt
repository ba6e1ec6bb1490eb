use Rattle.std.proofs.Common.{ap}
use Rattle.std.specs.Result.{result_ok}
use Rattle.path_records.proofs.Exports.{command_read_back}
use Rattle.gate_journal.proofs.laws.command.commands_are_allowed.Goals as goal

pub returns : goal.returns
returns c = λ limits command within whole widths allowed. ap result_ok (command_read_back limits.removals command within whole widths allowed)
