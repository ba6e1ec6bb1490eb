use Rattle.group_phases.proofs.CheckpointerSteps.{opens_half, syncs_half, closes_half, syncs_close}
use Rattle.group_phases.proofs.laws.checkpointer.halves_are_switched.Goals as goal

pub returns-clause-open : goal.returns-clause-open
returns-clause-open g c = opens_half _ _ _ _

pub returns-clause-open_sync : goal.returns-clause-open_sync
returns-clause-open_sync g c = syncs_half _ _ _ _

pub returns-clause-close : goal.returns-clause-close
returns-clause-close g c = closes_half _ _ _ _

pub returns-clause-close_sync : goal.returns-clause-close_sync
returns-clause-close_sync g c = syncs_close _ _ _ _
