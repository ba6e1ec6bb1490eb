use Rattle.store_layout.proofs.Checkpoints.{first_can_be}
use Rattle.store_layout.proofs.laws.checkpoint.first_checkpoints_can_be.Goals as goal

pub returns : goal.returns
returns g c = first_can_be _ _
