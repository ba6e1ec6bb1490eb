use Rattle.store_layout.proofs.StoreGrowth.{folds_in_parts, store_goes_by_its_last_journal}
use Rattle.store_layout.proofs.laws.growth.stores_go_by_their_last_journal.Goals as goal

pub returns-clause-last : goal.returns-clause-last
returns-clause-last g c = store_goes_by_its_last_journal _ _

pub returns-clause-parts : goal.returns-clause-parts
returns-clause-parts g c = folds_in_parts _ _
