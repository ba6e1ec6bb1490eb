use Rattle.store_layout.proofs.Growth.{goes_by_its_front}
use Rattle.store_layout.proofs.laws.journal.journals_go_by_their_front.Goals as goal

pub returns : goal.returns
returns g c = goes_by_its_front _
