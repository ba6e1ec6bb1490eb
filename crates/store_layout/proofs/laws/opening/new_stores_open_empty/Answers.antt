use Rattle.store_layout.proofs.TakeOver.{opens_empty}
use Rattle.store_layout.proofs.laws.opening.new_stores_open_empty.Goals as goal

pub returns : goal.returns
returns g c = opens_empty _ _
