use Rattle.store_layout.proofs.Growth.{grows_by_its_gate}
use Rattle.store_layout.proofs.laws.journal.journals_grow_by_their_gate.Goals as goal

pub returns : goal.returns
returns g c = grows_by_its_gate _
