use Rattle.group_phases.proofs.HeldCommands.{held_when_accepted, held_when_group_is_staged, held_when_seal_is_staged}
use Rattle.group_phases.proofs.laws.held.commands_are_held.Goals as goal

pub returns-clause-accepted : goal.returns-clause-accepted
returns-clause-accepted g c = held_when_accepted _ _

pub returns-clause-group : goal.returns-clause-group
returns-clause-group g c = held_when_group_is_staged _ _

pub returns-clause-seal : goal.returns-clause-seal
returns-clause-seal g c = held_when_seal_is_staged _ _
