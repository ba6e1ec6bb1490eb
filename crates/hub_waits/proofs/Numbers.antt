-- The numbers of a state that was looked at.
use Rattle.std.proofs.Common.{◌≡◌}
use Rattle.group_core.specs.declared.numbers.Numbers.{Numbers}
use Rattle.group_core.specs.Numbers.{numbers_of}
use Rattle.group_core.specs.StateView.{StateView}
use Rattle.hub_waits.specs.Numbers.{AreNumbers}

pub are_of_a_state : (numbers : Numbers) (state : StateView) → numbers ≡ numbers_of state → ∥ AreNumbers numbers ∥₁
are_of_a_state numbers state are = ∣ record { state = state; are = are } ∣₁
