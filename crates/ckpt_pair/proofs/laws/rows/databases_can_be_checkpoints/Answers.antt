use Rattle.ckpt_pair.proofs.Stored.{storable, can_be}
use Rattle.ckpt_pair.proofs.laws.rows.databases_can_be_checkpoints.Goals as goal

pub returns-clause-storable : goal.returns-clause-storable
returns-clause-storable c = storable

pub returns-clause-can : goal.returns-clause-can
returns-clause-can c = can_be
