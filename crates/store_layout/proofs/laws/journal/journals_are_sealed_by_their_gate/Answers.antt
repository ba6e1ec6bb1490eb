use Rattle.store_layout.proofs.Growth.{sealed_by_its_gate}
use Rattle.store_layout.proofs.laws.journal.journals_are_sealed_by_their_gate.Goals as goal

pub returns : goal.returns
returns g c = sealed_by_its_gate _
