use Rattle.group_phases.proofs.HeldTurns.{held_when_group_is_published, held_when_seal_is_published, held_when_plan_begins, held_under_the_new_version}
use Rattle.group_phases.proofs.laws.held.turns_are_held.Goals as goal

pub returns-clause-group : goal.returns-clause-group
returns-clause-group g c = held_when_group_is_published _ _

pub returns-clause-seal : goal.returns-clause-seal
returns-clause-seal g c = held_when_seal_is_published _ _

pub returns-clause-plan : goal.returns-clause-plan
returns-clause-plan g c = held_when_plan_begins _ _

pub returns-clause-version : goal.returns-clause-version
returns-clause-version g c = held_under_the_new_version _ _
