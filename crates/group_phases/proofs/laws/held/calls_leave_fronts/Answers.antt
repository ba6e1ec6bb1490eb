use Rattle.group_phases.proofs.HeldSteps.{writes_leave_fronts, syncs_leave_fronts}
use Rattle.group_phases.proofs.laws.held.calls_leave_fronts.Goals as goal

pub returns-clause-write : goal.returns-clause-write
returns-clause-write g c = writes_leave_fronts _ _ _ _

pub returns-clause-sync : goal.returns-clause-sync
returns-clause-sync g c = syncs_leave_fronts _ _ _ _
