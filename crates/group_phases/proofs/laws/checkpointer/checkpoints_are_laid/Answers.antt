use Rattle.group_phases.proofs.CheckpointerSteps.{writes_chunk, syncs_chunks}
use Rattle.group_phases.proofs.laws.checkpointer.checkpoints_are_laid.Goals as goal

pub returns-clause-write : goal.returns-clause-write
returns-clause-write g c = writes_chunk _ _ _ _

pub returns-clause-sync : goal.returns-clause-sync
returns-clause-sync g c = syncs_chunks _ _ _ _
