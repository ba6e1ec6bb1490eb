use Rattle.group_phases.proofs.Exports.{writes_are_one_moment, syncs_are_no_moment}
use Rattle.group_phases.proofs.laws.range.calls_leave_what_is_around_them.Goals as goal

pub returns-clause-write : goal.returns-clause-write
returns-clause-write g c = writes_are_one_moment _ _

pub returns-clause-sync : goal.returns-clause-sync
returns-clause-sync g c = syncs_are_no_moment _ _
