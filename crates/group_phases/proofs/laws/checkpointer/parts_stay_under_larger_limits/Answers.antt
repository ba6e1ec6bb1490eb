use Rattle.group_phases.proofs.CheckpointerSteps.{stays_under_larger_limits, takes_the_new_version}
use Rattle.group_phases.proofs.laws.checkpointer.parts_stay_under_larger_limits.Goals as goal

pub returns-clause-flusher : goal.returns-clause-flusher
returns-clause-flusher g c = stays_under_larger_limits _

pub returns-clause-base : goal.returns-clause-base
returns-clause-base g c = takes_the_new_version _ _
