use Rattle.store_layout.proofs.Staged.{kept_by_writes_behind, made_ready, made_ready_for_seal}
use Rattle.store_layout.proofs.laws.journal.journals_are_made_ready.Goals as goal

pub returns-clause-group : goal.returns-clause-group
returns-clause-group g c = made_ready _

pub returns-clause-seal : goal.returns-clause-seal
returns-clause-seal g c = made_ready_for_seal _

pub returns-clause-kept : goal.returns-clause-kept
returns-clause-kept g c = kept_by_writes_behind _
