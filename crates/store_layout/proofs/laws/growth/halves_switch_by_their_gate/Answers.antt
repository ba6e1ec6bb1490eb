use Rattle.store_layout.proofs.Switch.{switches_by_the_gate, switches_by_the_gate_at_rest}
use Rattle.store_layout.proofs.laws.growth.halves_switch_by_their_gate.Goals as goal

pub returns-clause-sealed : goal.returns-clause-sealed
returns-clause-sealed g c = switches_by_the_gate _ _

pub returns-clause-rest : goal.returns-clause-rest
returns-clause-rest g c = switches_by_the_gate_at_rest _ _
