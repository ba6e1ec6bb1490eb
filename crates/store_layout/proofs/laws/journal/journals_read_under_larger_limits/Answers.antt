use Rattle.store_layout.proofs.Growth.{read_under_larger_limits}
use Rattle.store_layout.proofs.laws.journal.journals_read_under_larger_limits.Goals as goal

pub returns : goal.returns
returns g c = read_under_larger_limits _
