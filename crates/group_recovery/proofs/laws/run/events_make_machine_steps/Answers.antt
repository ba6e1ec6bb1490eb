use Rattle.group_recovery.proofs.MachineSteps.{machine_steps}
use Rattle.group_recovery.proofs.laws.run.events_make_machine_steps.Goals as goal

pub returns : goal.returns
returns c = machine_steps
