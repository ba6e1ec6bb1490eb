use Rattle.group_phases.proofs.HeldChecks.{held_while_chunk_is_written, held_while_chunks_are_synced, held_while_half_is_opened, held_while_half_is_synced, held_while_half_is_closed, held_while_close_is_synced}
use Rattle.group_phases.proofs.laws.held.checkpointer_calls_are_held.Goals as goal

pub returns-clause-chunk : goal.returns-clause-chunk
returns-clause-chunk g c = held_while_chunk_is_written _ _ _ _

pub returns-clause-chunks_sync : goal.returns-clause-chunks_sync
returns-clause-chunks_sync g c = held_while_chunks_are_synced _ _ _ _

pub returns-clause-open : goal.returns-clause-open
returns-clause-open g c = held_while_half_is_opened _ _ _ _

pub returns-clause-open_sync : goal.returns-clause-open_sync
returns-clause-open_sync g c = held_while_half_is_synced _ _ _ _

pub returns-clause-close : goal.returns-clause-close
returns-clause-close g c = held_while_half_is_closed _ _ _ _

pub returns-clause-close_sync : goal.returns-clause-close_sync
returns-clause-close_sync g c = held_while_close_is_synced _ _ _ _
