use Rattle.group_phases.proofs.Calls.{writes_leave_what_is_beside, writes_are_read}
use Rattle.group_phases.proofs.laws.range.writes_leave_what_is_beside.Goals as goal

pub returns-clause-beside : goal.returns-clause-beside
returns-clause-beside g c = writes_leave_what_is_beside _ _

pub returns-clause-read : goal.returns-clause-read
returns-clause-read g c = writes_are_read _ _
