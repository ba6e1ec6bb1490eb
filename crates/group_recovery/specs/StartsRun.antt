-- The result of making a run of a state.
use Rattle.std.specs.Prelude.{◌≡◌, [], Result, Ok, Err}
use Rattle.group_core.specs.StateView.{StateView}
use Rattle.group_core.specs.Reading.{IsFree}
use Rattle.group_recovery.specs.RunSteps.{RunView}

-- The run is returned, which has no ticket yet, or the state is returned, where a commit value is
-- out.
abbrev pub StartsRun : Result RunView StateView → StateView → Type 0
StartsRun (Ok run) state = IsFree state × (run ≡ record { state = state; tickets = [] })
StartsRun (Err back) state = (¬ IsFree state) × (back ≡ state)
