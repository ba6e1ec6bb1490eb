use Rattle.store_layout.proofs.Switch.{older_half_may_change}
use Rattle.store_layout.proofs.laws.growth.older_halves_may_change.Goals as goal

pub returns : goal.returns
returns g c = older_half_may_change _ _
