use Rattle.store_layout.proofs.Staged.{later_allow_more}
use Rattle.store_layout.proofs.laws.journal.later_versions_allow_more.Goals as goal

pub returns : goal.returns
returns c = later_allow_more
