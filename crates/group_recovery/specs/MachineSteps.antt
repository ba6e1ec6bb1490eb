-- The effect of each event of a run on the machine, by the event's reply.
use Rattle.std.specs.Prelude.{◌≡◌, ℕ}
use Rattle.group_recovery.specs.declared.events.Event.{Event}
use Rattle.group_recovery.specs.declared.events.Event.TheVariants as event
use Rattle.group_recovery.specs.declared.events.Reply.{Reply}
use Rattle.group_recovery.specs.declared.events.Reply.TheVariants as reply
use Rattle.group_recovery.specs.Machine.{Machine, machine_of, machine_with_command, committed_front}
use Rattle.group_recovery.specs.RunSteps.{RunView, IsRunStep}

-- The machine after an event. A command that is accepted is pending. The group in flight is
-- committed when it is published, whether or not a group follows it. No other event changes the
-- machine.
abbrev pub machine_after : Event → Reply → ℕ → Machine → Machine
machine_after (event.Submit command) (reply.Accepted place) taken machine = machine_with_command machine command
machine_after event.Publish reply.Done taken machine = committed_front machine taken
machine_after event.PublishFollowed reply.Done taken machine = committed_front machine taken
machine_after _ _ taken machine = machine

-- Each step of a run makes the step of the machine that `machine_after` says.
abbrev pub EventsMakeMachineSteps : Type 0
EventsMakeMachineSteps =
    (e : Event) (r : Reply) (old new : RunView) → IsRunStep e r old new
    → machine_of new.state ≡ machine_after e r old.state.taken (machine_of old.state)
