-- One goal, which the search finds itself.
use Rattle.std.proofs.Common.{rules}
use Rattle.path_records.proofs.command_records.write_command.Goals as goal

pub returns-then-is_err-clause-err : goal.returns-then-is_err-clause-err
returns-then-is_err-clause-err c = search rules
