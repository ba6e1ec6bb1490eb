use Rattle.group_phases.proofs.HeldSteps.{held_while_load_is_written, held_while_load_is_synced, held_while_gate_is_opened, held_while_gate_is_synced}
use Rattle.group_phases.proofs.laws.held.flusher_calls_are_held.Goals as goal

pub returns-clause-write : goal.returns-clause-write
returns-clause-write g c = held_while_load_is_written _ _ _ _

pub returns-clause-sync : goal.returns-clause-sync
returns-clause-sync g c = held_while_load_is_synced _ _ _ _

pub returns-clause-gate : goal.returns-clause-gate
returns-clause-gate g c = held_while_gate_is_opened _ _ _ _

pub returns-clause-gate_sync : goal.returns-clause-gate_sync
returns-clause-gate_sync g c = held_while_gate_is_synced _ _ _ _
