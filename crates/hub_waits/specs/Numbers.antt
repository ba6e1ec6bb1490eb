-- The numbers that a hub returns.
use Rattle.std.specs.Prelude.{◌≡◌}
use Rattle.group_core.specs.declared.numbers.Numbers.{Numbers}
use Rattle.group_core.specs.Numbers.{numbers_of}
use Rattle.group_core.specs.StateView.{StateView}

-- All of the numbers are of one state.
pub record AreNumbers (numbers : Numbers) : Type 0 where
  pub state : StateView
  pub are : numbers ≡ numbers_of state
