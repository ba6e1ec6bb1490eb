-- Each event of a run makes the machine's step.
use Rattle.std.proofs.Common.{◌≡◌, ◌⊎◌, inl, inr, ℕ, ◌+◌, ◌≤◌, sym, ◌∙◌, ap, arith}
use Rattle.path_db.specs.declared.command.Command.{Command}
use Rattle.group_recovery.specs.declared.events.Event.{Event}
use Rattle.group_recovery.specs.declared.events.Event.TheVariants as event
use Rattle.group_recovery.specs.declared.events.Reply.{Reply}
use Rattle.group_recovery.specs.declared.events.Reply.TheVariants as reply
use Rattle.group_recovery.specs.declared.events.PublishRefusal.TheVariants as publish
use Rattle.group_core.specs.StateView.{StateView}
use Rattle.group_recovery.specs.Machine.{Machine, machine_of, committed_front}
use Rattle.group_recovery.specs.MachineSteps.{machine_after, EventsMakeMachineSteps}
use Rattle.group_recovery.specs.RunSteps.{RunView, PublishEvent, PublishFollowedEvent, SubmitEvent, RedeemEvent, IsRunStep}
use Rattle.group_recovery.proofs.Held.{Still}
use Rattle.group_recovery.proofs.Runs.{none_or_some, IsFlushers, IsCheckers, flush_leaves, check_leaves}

stays_still : {old new : StateView} → Still old new → machine_of new ≡ machine_of old
stays_still still = λ i. record { committed = (still.value i).db; pending = still.pending i; place = (still.value i).place }

flushed : (e : Event) (r : Reply) (old new : RunView) → IsRunStep e r old new → IsFlushers e → machine_of new.state ≡ machine_of old.state
flushed e r old new step is = stays_still (flush_leaves e r old new step is).still

checked : (e : Event) (r : Reply) (old new : RunView) → IsRunStep e r old new → IsCheckers e → machine_of new.state ≡ machine_of old.state
checked e r old new step is = stays_still (check_leaves e r old new step is).still

-- a seal commits no command
none_committed : (machine : Machine) (taken : ℕ) → taken ≡ 0 → machine ≡ committed_front machine taken
none_committed machine taken none =
    let same : machine.place ≡ machine.place + 0 = omega arith in
    (λ i. record machine { place = same i }) ∙ ap (committed_front machine) (sym none)

published : (r : Reply) (old new : StateView) → PublishEvent r old new → machine_of new ≡ machine_after event.Publish r old.taken (machine_of old)
published reply.Done old new step = by (none_or_some old.taken)
  where
    by : (old.taken ≡ 0) ⊎ (1 ≤ old.taken) → machine_of new ≡ committed_front (machine_of old) old.taken
    by (inl none) = ap machine_of (step.1.seal none) ∙ none_committed (machine_of old) old.taken none
    by (inr some) = ap machine_of (step.1.group some)
published (reply.PublishRefused publish.NoMemory) old new step = ap machine_of step.2
published reply.NoValue old new step = ap machine_of step.1
published _ old new step = absurd step

published_followed : (r : Reply) (old new : StateView) → PublishFollowedEvent r old new → machine_of new ≡ machine_after event.PublishFollowed r old.taken (machine_of old)
published_followed reply.Done old new step = ap machine_of step.2
published_followed (reply.PublishRefused publish.NoMemory) old new step = ap machine_of step.2
published_followed reply.NoValue old new step = ap machine_of step.1
published_followed _ old new step = absurd step

submitted : (command : Command) (r : Reply) (old new : RunView) → SubmitEvent command r old new → machine_of new.state ≡ machine_after (event.Submit command) r old.state.taken (machine_of old.state)
submitted command (reply.Accepted place) old new step = ap machine_of step.3
submitted command (reply.Refused e) old new step = ap (λ (run : RunView). machine_of run.state) step.1
submitted command _ old new step = absurd step

redeemed : (k : ℕ) (r : Reply) (old new : RunView) → RedeemEvent k r old new → machine_of new.state ≡ machine_of old.state
redeemed k (reply.Committed place outcome) old new step = ap (λ (run : RunView). machine_of run.state) step.3
redeemed k (reply.Waiting place) old new step = ap (λ (run : RunView). machine_of run.state) step.3
redeemed k (reply.Unknown place) old new step = ap (λ (run : RunView). machine_of run.state) step.3
redeemed k reply.NoValue old new step = ap (λ (run : RunView). machine_of run.state) step.1
redeemed k _ old new step = absurd step

pub machine_steps : EventsMakeMachineSteps
machine_steps (event.Submit command) r old new step = submitted command r old new step
machine_steps event.Stage r old new step = flushed event.Stage r old new step tt
machine_steps event.WriteGroup r old new step = flushed event.WriteGroup r old new step tt
machine_steps event.SyncGroup r old new step = flushed event.SyncGroup r old new step tt
machine_steps event.OpenGate r old new step = flushed event.OpenGate r old new step tt
machine_steps event.SyncGate r old new step = flushed event.SyncGate r old new step tt
machine_steps event.Publish r old new step = published r old.state new.state step.1
machine_steps event.Follow r old new step = flushed event.Follow r old new step tt
machine_steps event.WriteFollowing r old new step = flushed event.WriteFollowing r old new step tt
machine_steps event.SyncFollowed r old new step = flushed event.SyncFollowed r old new step tt
machine_steps event.PublishFollowed r old new step = published_followed r old.state new.state step.1
machine_steps (event.Redeem k) r old new step = redeemed k r old new step
machine_steps event.Prepare r old new step = checked event.Prepare r old new step tt
machine_steps event.Begin r old new step = checked event.Begin r old new step tt
machine_steps event.WriteChunk r old new step = checked event.WriteChunk r old new step tt
machine_steps event.SyncChunks r old new step = checked event.SyncChunks r old new step tt
machine_steps event.OpenHalf r old new step = checked event.OpenHalf r old new step tt
machine_steps event.SyncHalf r old new step = checked event.SyncHalf r old new step tt
machine_steps event.CloseHalf r old new step = checked event.CloseHalf r old new step tt
machine_steps event.SyncClose r old new step = checked event.SyncClose r old new step tt
machine_steps (event.Lookup query now) r old new step = flushed (event.Lookup query now) r old new step tt
machine_steps event.Halt r old new step = flushed event.Halt r old new step tt
