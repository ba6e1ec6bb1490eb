use Rattle.group_phases.proofs.Calls.{syncs_leave_all, syncs_settle}
use Rattle.group_phases.proofs.laws.range.syncs_settle.Goals as goal

pub returns-clause-left : goal.returns-clause-left
returns-clause-left g c = syncs_leave_all _ _

pub returns-clause-settled : goal.returns-clause-settled
returns-clause-settled g c = syncs_settle _ _
