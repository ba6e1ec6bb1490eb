use Rattle.group_phases.proofs.Ranges.{is_in_every_image}
use Rattle.group_phases.proofs.laws.range.settled_ranges_are_in_every_image.Goals as goal

pub returns : goal.returns
returns c = is_in_every_image
