use Rattle.group_phases.proofs.CheckpointerSteps.{publishes_seal, begins_plan}
use Rattle.group_phases.proofs.laws.checkpointer.seals_are_published.Goals as goal

pub returns-clause-seal : goal.returns-clause-seal
returns-clause-seal g c = publishes_seal _ _

pub returns-clause-plan : goal.returns-clause-plan
returns-clause-plan g c = begins_plan _ _
