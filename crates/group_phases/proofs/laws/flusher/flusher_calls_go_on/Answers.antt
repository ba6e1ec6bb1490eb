use Rattle.group_phases.proofs.FlusherSteps.{writes_load, syncs_load, opens_tail_gate, syncs_tail_gate}
use Rattle.group_phases.proofs.laws.flusher.flusher_calls_go_on.Goals as goal

pub returns-clause-write : goal.returns-clause-write
returns-clause-write g c = writes_load _ _ _

pub returns-clause-sync : goal.returns-clause-sync
returns-clause-sync g c = syncs_load _ _ _

pub returns-clause-gate : goal.returns-clause-gate
returns-clause-gate g c = opens_tail_gate _ _ _

pub returns-clause-gate_sync : goal.returns-clause-gate_sync
returns-clause-gate_sync g c = syncs_tail_gate _ _ _
