use Rattle.ckpt_pair.proofs.Fronts.{by_fronts}
use Rattle.ckpt_pair.proofs.laws.rows.checkpoints_are_read_by_their_fronts.Goals as goal

pub returns : goal.returns
returns c = by_fronts
