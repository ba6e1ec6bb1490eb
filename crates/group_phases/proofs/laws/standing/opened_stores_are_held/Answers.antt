use Rattle.group_phases.proofs.HeldOpened.{held_at_rest, held_behind_seal}
use Rattle.group_phases.proofs.laws.standing.opened_stores_are_held.Goals as goal

pub returns-clause-rest : goal.returns-clause-rest
returns-clause-rest g c = held_at_rest _ _

pub returns-clause-sealed : goal.returns-clause-sealed
returns-clause-sealed g c = held_behind_seal _ _
