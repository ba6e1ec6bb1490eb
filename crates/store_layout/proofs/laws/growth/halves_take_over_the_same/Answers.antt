use Rattle.store_layout.proofs.TakeOver.{takes_over_the_same, takes_over_the_same_at_rest}
use Rattle.store_layout.proofs.laws.growth.halves_take_over_the_same.Goals as goal

pub returns-clause-sealed : goal.returns-clause-sealed
returns-clause-sealed g c = takes_over_the_same _ _

pub returns-clause-rest : goal.returns-clause-rest
returns-clause-rest g c = takes_over_the_same_at_rest _ _
