use Rattle.store_layout.proofs.Writes.{regions_apart, regions_inside}
use Rattle.store_layout.proofs.regions.regions_are_apart.Goals as goal

pub returns-clause-apart : goal.returns-clause-apart
returns-clause-apart c = regions_apart

pub returns-clause-inside : goal.returns-clause-inside
returns-clause-inside c = regions_inside
