use Rattle.ckpt_pair.proofs.Stored.{read_database}
use Rattle.ckpt_pair.proofs.laws.rows.read_checkpoints_are_databases.Goals as goal

pub returns : goal.returns
returns c = read_database
