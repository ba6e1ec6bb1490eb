use Rattle.store_layout.proofs.Checkpoints.{written_there, pieces_written, whole_there}
use Rattle.store_layout.proofs.laws.checkpoint.checkpoints_are_written.Goals as goal

pub returns-clause-there : goal.returns-clause-there
returns-clause-there g c = written_there

pub returns-clause-pieces : goal.returns-clause-pieces
returns-clause-pieces g c = pieces_written

pub returns-clause-whole : goal.returns-clause-whole
returns-clause-whole g c = whole_there _
