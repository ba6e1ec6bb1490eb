-- What is known of every state when a command is judged by a state's numbers.
use Rattle.std.specs.Prelude.{◌≤◌, length}
use Rattle.store_layout.specs.Group.{last_place}
use Rattle.group_core.specs.StateView.{StateView}
use Rattle.group_core.specs.Submitting.{next_place}

-- The bounds of every state: its pending commands have places, and are at most 256.
pub record IsBounded (state : StateView) : Type 0 where
  pub place : next_place state ≤ last_place
  pub pending : length state.pending ≤ 256
