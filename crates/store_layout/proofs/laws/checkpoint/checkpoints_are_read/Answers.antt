use Rattle.store_layout.proofs.Checkpoints.{is_checkpoint_read_so, begins_with_its_head}
use Rattle.store_layout.proofs.laws.checkpoint.checkpoints_are_read.Goals as goal

pub returns-clause-read : goal.returns-clause-read
returns-clause-read g c = is_checkpoint_read_so _

pub returns-clause-head : goal.returns-clause-head
returns-clause-head g c = begins_with_its_head
