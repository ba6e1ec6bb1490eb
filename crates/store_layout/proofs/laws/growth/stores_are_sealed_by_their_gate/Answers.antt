use Rattle.store_layout.proofs.Seals.{store_is_made_ready_for_seal, store_is_sealed_by_its_gate}
use Rattle.store_layout.proofs.laws.growth.stores_are_sealed_by_their_gate.Goals as goal

pub returns-clause-ready : goal.returns-clause-ready
returns-clause-ready g c = store_is_made_ready_for_seal _ _

pub returns-clause-sealed : goal.returns-clause-sealed
returns-clause-sealed g c = store_is_sealed_by_its_gate _ _
