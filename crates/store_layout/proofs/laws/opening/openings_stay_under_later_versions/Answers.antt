use Rattle.store_layout.proofs.Opened.{opens_under_later_versions}
use Rattle.store_layout.proofs.laws.opening.openings_stay_under_later_versions.Goals as goal

pub returns : goal.returns
returns g c = opens_under_later_versions _ _
