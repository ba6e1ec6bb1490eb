use Rattle.store_layout.proofs.Writes.{writes_leave_apart, writes_leave_others, writes_change_their_region}
use Rattle.store_layout.proofs.regions.writes_leave_other_regions.Goals as goal

pub returns-clause-beside : goal.returns-clause-beside
returns-clause-beside c = writes_leave_apart

pub returns-clause-others : goal.returns-clause-others
returns-clause-others c = writes_leave_others

pub returns-clause-within : goal.returns-clause-within
returns-clause-within c = writes_change_their_region
