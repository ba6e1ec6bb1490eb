use Rattle.store_layout.proofs.Bounds.{stays_within_bounds}
use Rattle.store_layout.proofs.laws.journal.journals_stay_within_bounds.Goals as goal

pub returns : goal.returns
returns g c = stays_within_bounds _
