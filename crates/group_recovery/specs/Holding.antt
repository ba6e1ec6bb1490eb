-- What a run holds, and how that relates to its state: each commit value that is out, and no other.
use Rattle.std.specs.Prelude.{◌≡◌, ℕ, ◌<◌, true, false, List, map, Option, Some, None, IsSome, slice_index_or}
use Rattle.group_phases.specs.declared.phases.Flush.TheVariants as flush
use Rattle.group_phases.specs.declared.phases.Check.TheVariants as check
use Rattle.group_recovery.specs.declared.holding.HeldGroup.{HeldGroup}
use Rattle.group_recovery.specs.declared.holding.HeldGroup.TheVariants as group
use Rattle.group_recovery.specs.declared.holding.HeldPlan.{HeldPlan}
use Rattle.group_recovery.specs.declared.holding.HeldPlan.TheVariants as plan
use Rattle.group_core.specs.declared.error.StepError.{StepError}
use Rattle.group_core.specs.declared.error.StepError.TheVariants as step
use Rattle.group_recovery.specs.declared.events.Reply.{Reply}
use Rattle.group_recovery.specs.declared.events.Reply.TheVariants as reply
use Rattle.group_recovery.specs.declared.events.StepRefusal.TheVariants as why
use Rattle.group_core.specs.declared.ticket.Ticket.{Ticket}
use Rattle.group_core.specs.StateView.{StateView}
use Rattle.group_core.specs.Steps.{IsFlushTurn, IsCheckTurn, IsPlanTurn}
use Rattle.group_core.specs.Redeeming.{outcome_at}
use Rattle.group_core.specs.Submitting.{next_place}
use Rattle.group_recovery.specs.RunSteps.{RunView}

-- The reply to a step that was refused.
abbrev pub step_reply : {P : Type 0} → StepError P → Reply
step_reply step.Fault = reply.StepRefused why.Fault
step_reply step.Stopped = reply.StepRefused why.Stopped
step_reply (step.Stranger value) = reply.StepRefused why.Stranger
step_reply (step.NoMemory value) = reply.StepRefused why.NoMemory
step_reply step.Damaged = reply.StepRefused why.Damaged

-- The error spends the value. A run's own value is refused by no other error.
abbrev pub SpendsValue : {P : Type 0} → StepError P → Type 0
SpendsValue step.Fault = Unit {0}
SpendsValue step.Stopped = Unit {0}
SpendsValue step.Damaged = Unit {0}
SpendsValue _ = ⊥

-- The flusher's value is held exactly where it is out, and its phase is the state's.
abbrev pub HoldsGroup : HeldGroup → StateView → Type 0
HoldsGroup group.None view = view.group.out ≡ false
HoldsGroup (group.Staged value) view = (view.group.out ≡ true) × IsFlushTurn flush.Staged value view
HoldsGroup (group.Written value) view = (view.group.out ≡ true) × IsFlushTurn flush.Written value view
HoldsGroup (group.Stable value) view = (view.group.out ≡ true) × IsFlushTurn flush.Stable value view
HoldsGroup (group.Opened value) view = (view.group.out ≡ true) × IsFlushTurn flush.Opened value view
HoldsGroup (group.Durable value) view = (view.group.out ≡ true) × IsFlushTurn flush.Durable value view
HoldsGroup (group.Following value) view = (view.group.out ≡ true) × IsFlushTurn flush.Following value view
HoldsGroup (group.Followed value) view = (view.group.out ≡ true) × IsFlushTurn flush.Followed value view
HoldsGroup (group.DurableFollowed value) view = (view.group.out ≡ true) × IsFlushTurn flush.DurableFollowed value view

-- The checkpointer's value is held exactly where it is out, and its phase is the state's.
abbrev pub HoldsPlan : HeldPlan → StateView → Type 0
HoldsPlan plan.None view = view.plan.out ≡ false
HoldsPlan (plan.Plan value) view = (view.plan.out ≡ true) × IsPlanTurn value view
HoldsPlan (plan.Laid value) view = (view.plan.out ≡ true) × IsCheckTurn check.Laid value view
HoldsPlan (plan.Switched value) view = (view.plan.out ≡ true) × IsCheckTurn check.Switched value view
HoldsPlan (plan.Live value) view = (view.plan.out ≡ true) × IsCheckTurn check.Live value view
HoldsPlan (plan.Closing value) view = (view.plan.out ≡ true) × IsCheckTurn check.Closing value view

-- A seal in flight waits for a half that is ready.
abbrev pub SealWaits : StateView → Type 0
SealWaits view = view.group.out ≡ true → view.taken ≡ 0 → view.check ≡ check.Ready

-- The ticket is of this state, and an outcome is kept for its place.
pub record IsOwnTicket (view : StateView) (ticket : Ticket) : Type 0 where
  pub home : ticket.home ≡ view.home
  pub before : ticket.place < next_place view
  pub kept : IsSome (outcome_at ticket.place view.kept)

-- The `k`-th ticket.
abbrev pub held_at : ℕ → List (Option Ticket) → Option Ticket
held_at k tickets = slice_index_or tickets k None

-- Each ticket is of this state, and no two have the same place.
pub record HoldsTickets (tickets : List (Option Ticket)) (view : StateView) : Type 0 where
  pub each : (k : ℕ) (ticket : Ticket) → held_at k tickets ≡ Some ticket → IsOwnTicket view ticket
  pub apart : (i k : ℕ) (ticket other : Ticket) → held_at i tickets ≡ Some ticket → held_at k tickets ≡ Some other → ticket.place ≡ other.place → i ≡ k

-- The place of a ticket.
abbrev pub ticket_place : Option Ticket → Option ℕ
ticket_place None = None
ticket_place (Some ticket) = Some ticket.place

-- No ticket is left.
abbrev pub AllRedeemed : List (Option Ticket) → Type 0
AllRedeemed tickets = (k : ℕ) → held_at k tickets ≡ None

-- A run as contracts see it.
abbrev pub run_view : StateView → List (Option Ticket) → RunView
run_view state tickets = record { state = state; tickets = map ticket_place tickets }

-- The invariant of a run between its events: the values and tickets that it holds are of its state,
-- and it holds each value that is out.
pub record IsHolding (view : StateView) (held : List (Option Ticket)) (held_group : HeldGroup) (held_plan : HeldPlan) : Type 0 where
  -- The run's tickets are of the state.
  pub tickets : HoldsTickets held view
  -- The flusher's value is held exactly where it is out.
  pub group : HoldsGroup held_group view
  -- The checkpointer's value is held exactly where it is out.
  pub plan : HoldsPlan held_plan view
  -- A seal in flight waits for a half that is ready.
  pub seal : SealWaits view
