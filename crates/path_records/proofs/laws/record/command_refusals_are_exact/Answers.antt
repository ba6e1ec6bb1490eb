use Rattle.path_records.proofs.RefusedCommands.{command_exact, one_refusal}
use Rattle.path_records.proofs.laws.record.command_refusals_are_exact.Goals as goal

pub returns-clause-exact : goal.returns-clause-exact
returns-clause-exact c = command_exact

pub returns-clause-only : goal.returns-clause-only
returns-clause-only c = one_refusal
