use Rattle.store_layout.proofs.StoreGrowth.{store_is_made_ready, store_grows_by_its_gate}
use Rattle.store_layout.proofs.laws.growth.stores_grow_by_their_gate.Goals as goal

pub returns-clause-ready : goal.returns-clause-ready
returns-clause-ready g c = store_is_made_ready _ _

pub returns-clause-grown : goal.returns-clause-grown
returns-clause-grown g c = store_grows_by_its_gate _ _
