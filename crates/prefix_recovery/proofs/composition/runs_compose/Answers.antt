use Rattle.prefix_recovery.proofs.Runs.{runs_joined, leaves_of_both}
use Rattle.prefix_recovery.proofs.composition.runs_compose.Goals as goal

pub returns-clause-steps : goal.returns-clause-steps
returns-clause-steps c = runs_joined

pub returns-clause-leaves : goal.returns-clause-leaves
returns-clause-leaves c = leaves_of_both
