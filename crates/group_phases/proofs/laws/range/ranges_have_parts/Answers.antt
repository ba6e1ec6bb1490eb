use Rattle.group_phases.proofs.Ranges.{has_settled_parts, joins_neighbours}
use Rattle.group_phases.proofs.laws.range.ranges_have_parts.Goals as goal

pub returns-clause-part : goal.returns-clause-part
returns-clause-part c = has_settled_parts

pub returns-clause-joined : goal.returns-clause-joined
returns-clause-joined c = joins_neighbours
