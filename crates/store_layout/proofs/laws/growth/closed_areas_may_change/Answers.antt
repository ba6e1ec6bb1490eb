use Rattle.store_layout.proofs.ByRegions.{closed_area_may_change}
use Rattle.store_layout.proofs.laws.growth.closed_areas_may_change.Goals as goal

pub returns : goal.returns
returns g c = closed_area_may_change _ _
