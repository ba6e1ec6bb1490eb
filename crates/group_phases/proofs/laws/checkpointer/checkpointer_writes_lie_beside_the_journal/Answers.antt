use Rattle.group_phases.proofs.CheckpointerSteps.{writes_beside_journal}
use Rattle.group_phases.proofs.laws.checkpointer.checkpointer_writes_lie_beside_the_journal.Goals as goal

pub returns : goal.returns
returns g c = writes_beside_journal _ _
