use Rattle.std.proofs.Common.{refl}
use Rattle.store_layout.proofs.Staged.{length-group_encoding}
use Rattle.store_layout.proofs.laws.journal.payloads_fill_sectors.Goals as goal

pub returns-clause-group : goal.returns-clause-group
returns-clause-group g c = length-group_encoding _

pub returns-clause-seal : goal.returns-clause-seal
returns-clause-seal g c = λ place. refl
