use Rattle.group_phases.proofs.Kept.{tail_writes_leave_base, base_writes_leave_tail, syncs_leave_both}
use Rattle.group_phases.proofs.laws.kept.calls_leave_the_other_part.Goals as goal

pub returns-clause-tail : goal.returns-clause-tail
returns-clause-tail g c = tail_writes_leave_base _ _

pub returns-clause-base : goal.returns-clause-base
returns-clause-base g c = base_writes_leave_tail _ _

pub returns-clause-sync : goal.returns-clause-sync
returns-clause-sync g c = syncs_leave_both _ _
