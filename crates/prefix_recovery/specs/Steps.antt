-- The states of a run are those that its events lead through.
use Rattle.std.specs.Prelude.{List, [], ◌∷◌}
use Rattle.group_recovery.specs.declared.events.Event.{Event}
use Rattle.group_recovery.specs.declared.events.Reply.{Reply}
use Rattle.group_recovery.specs.RunSteps.{RunView, IsRunStep}
use Rattle.group_recovery.specs.SameDevice.{DeviceGoesOn}

-- From this run each event, with its reply, leads to the next of these runs, on one device.
abbrev pub LeadsThrough : List Event → List Reply → RunView → List RunView → Type 0
LeadsThrough [] [] run [] = Unit {0}
LeadsThrough (e ∷ events) (r ∷ replies) run (next ∷ later) =
    IsRunStep e r run next × DeviceGoesOn run.state.disk next.state.disk × LeadsThrough events replies next later
LeadsThrough _ _ run _ = ⊥
