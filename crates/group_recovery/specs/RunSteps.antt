-- The effect of an event of a run, by its reply: the call of the state that the event names, with a
-- value that the run holds.
use Rattle.std.specs.Prelude.{◌≡◌, ℕ, ◌<◌, ◌≤◌, Bool, true, false, List, [], ◌∷◌, ◌++◌, length, Option, Some, None, Ok, Err, slice_index_or, slice_set}
use Rattle.path_db.specs.declared.command.Command.{Command}
use Rattle.path_db.specs.Answer.{segments_of}
use Rattle.sector_dev.specs.Disk.{IsHonest}
use Rattle.sector_dev.specs.Calls.{one_more}
use Rattle.seg_lookup.specs.declared.query.Query.{Query}
use Rattle.seg_lookup.specs.Query.{query_view}
use Rattle.group_phases.specs.declared.phases.Flush.{Flush}
use Rattle.group_phases.specs.declared.phases.Flush.TheVariants as flush
use Rattle.group_phases.specs.declared.phases.Check.{Check}
use Rattle.group_phases.specs.declared.phases.Check.TheVariants as check
use Rattle.group_recovery.specs.declared.events.Event.{Event}
use Rattle.group_recovery.specs.declared.events.Event.TheVariants as event
use Rattle.group_recovery.specs.declared.events.Reply.{Reply}
use Rattle.group_recovery.specs.declared.events.Reply.TheVariants as reply
use Rattle.group_recovery.specs.declared.events.StepRefusal.TheVariants as why
use Rattle.group_recovery.specs.declared.events.PublishRefusal.TheVariants as publish
use Rattle.group_core.specs.declared.phases.AtOpened.{AtOpened}
use Rattle.group_core.specs.declared.phases.AtPlan.{AtPlan}
use Rattle.group_core.specs.declared.phases.AtStaged.{AtStaged}
use Rattle.group_core.specs.declared.values.Commit.{Commit}
use Rattle.group_core.specs.StateView.{StateView}
use Rattle.group_recovery.specs.Machine.{machine_of, served}
use Rattle.group_core.specs.Steps.{IsFlushTurn, spent, is_whole, chunk_written, at_phase, half_counts, half_ready}
use Rattle.group_core.specs.Staging.{Stages}
use Rattle.group_core.specs.Publishing.{IsPublished}
use Rattle.group_core.specs.Following.{TakesFollower, followed_by, IsFollowRefused, HasFollower, with_follower_in_flight}
use Rattle.group_core.specs.Beginning.{BeginsCheckpoint, PreparesCheckpoint}
use Rattle.group_core.specs.Redeeming.{outcome_at, kept_without, halted}
use Rattle.group_core.specs.Submitting.{MayBeSubmitted, CheckpointHasRoom, IsSubmitRefused, next_place, with_pending_command}
use Rattle.group_recovery.specs.SameDevice.{DeviceGoesOn}

-- A run as contracts see it.
pub record RunView : Type 0 where
  -- The state.
  pub state : StateView
  -- The places of the commands that the run accepted, in their order. A place is `None` once its
  -- ticket is redeemed.
  pub tickets : List (Option ℕ)

-- The place of the `k`-th ticket.
abbrev pub ticket_at : ℕ → RunView → Option ℕ
ticket_at k run = slice_index_or run.tickets k None

-- The flusher's value is out, at this phase.
abbrev pub IsGroupOut : Flush → StateView → Type 0
IsGroupOut phase view = (view.group.out ≡ true) × (view.flush ≡ phase)

-- The checkpointer's value is out, at this phase.
abbrev pub IsPlanOutAt : Check → StateView → Type 0
IsPlanOutAt phase view = (view.plan.out ≡ true) × (view.check ≡ phase)

-- The checkpointer's plan is out, and its `done` is this.
abbrev pub IsPlanOut : Bool → StateView → Type 0
IsPlanOut whole view = (view.plan.out ≡ true) × (view.check ≡ check.Planned) × (is_whole view ≡ whole)

-- A step of the flusher, from one phase to the next, or to another one where the device fails. A
-- state that had stopped, and a device that fails, spend the value.
abbrev pub FlushEvent : Flush → Flush → Flush → Reply → StateView → StateView → Type 0
FlushEvent from to failed reply.Done old new =
    IsGroupOut from old × (old.stopped ≡ false) × (new.disk.faults ≡ old.disk.faults)
    × (new ≡ record old { disk = new.disk; flush = to })
FlushEvent from to failed (reply.StepRefused why.Stopped) old new =
    IsGroupOut from old × (old.stopped ≡ true) × (new ≡ record old { group = spent old.group })
FlushEvent from to failed (reply.StepRefused why.Fault) old new =
    IsGroupOut from old × (old.stopped ≡ false) × (new.disk.faults ≡ one_more old.disk.faults)
    × (new ≡ record old { disk = new.disk; flush = failed; group = spent old.group; stopped = true })
FlushEvent from to failed reply.NoValue old new = (¬ IsGroupOut from old) × (new ≡ old)
FlushEvent from to failed _ old new = ⊥

-- A step of the checkpointer, where its value is out as `has` states: the state after it except for
-- the device, and the phase where the device fails.
abbrev pub CheckEvent : Type 0 → StateView → Check → Reply → StateView → StateView → Type 0
CheckEvent has after failed reply.Done old new =
    has × (old.stopped ≡ false) × (new.disk.faults ≡ old.disk.faults) × (new ≡ record after { disk = new.disk })
CheckEvent has after failed (reply.StepRefused why.Stopped) old new =
    has × (old.stopped ≡ true) × (new ≡ record old { plan = spent old.plan })
CheckEvent has after failed (reply.StepRefused why.Fault) old new =
    has × (old.stopped ≡ false) × (new.disk.faults ≡ one_more old.disk.faults)
    × (new ≡ record old { disk = new.disk; check = failed; plan = spent old.plan; stopped = true })
CheckEvent has after failed reply.NoValue old new = (¬ has) × (new ≡ old)
CheckEvent has after failed _ old new = ⊥

-- The write of the next sectors of the new checkpoint. A sector of the old area that has another
-- sum than before, which is never so over an honest device, spends the value and stops the state.
abbrev pub ChunkEvent : Reply → StateView → StateView → Type 0
ChunkEvent (reply.StepRefused why.Damaged) old new =
    IsPlanOut false old × (old.stopped ≡ false) × (¬ IsHonest old.disk) × (new.disk.faults ≡ old.disk.faults)
    × (new ≡ record old { disk = new.disk; plan = spent old.plan; stopped = true })
ChunkEvent reply old new = CheckEvent (IsPlanOut false old) (chunk_written old) check.Planned reply old new

-- Staging, which takes no value.
abbrev pub StageEvent : Reply → StateView → StateView → Type 0
StageEvent reply.Done old new = (value : Commit AtStaged) × Stages (Ok value) old new
StageEvent (reply.StageRefused e) old new = Stages (Err e) old new
StageEvent _ old new = ⊥

-- Preparing a checkpoint, which takes no value.
abbrev pub PrepareEvent : Reply → StateView → StateView → Type 0
PrepareEvent (reply.Prepared prepared) old new = PreparesCheckpoint (Ok prepared) old new
PrepareEvent (reply.BeginRefused e) old new = PreparesCheckpoint (Err e) old new
PrepareEvent _ old new = ⊥

-- Beginning a checkpoint, which takes no value.
abbrev pub BeginEvent : Reply → StateView → StateView → Type 0
BeginEvent reply.Done old new = (plan : Commit AtPlan) × BeginsCheckpoint (Ok plan) old new
BeginEvent (reply.BeginRefused e) old new = BeginsCheckpoint (Err e) old new
BeginEvent _ old new = ⊥

-- Publishing, which spends the flusher's value.
abbrev pub PublishEvent : Reply → StateView → StateView → Type 0
PublishEvent reply.Done old new = IsGroupOut flush.Durable old × IsPublished old new
PublishEvent (reply.PublishRefused publish.NoMemory) old new = IsGroupOut flush.Durable old × (1 ≤ old.taken) × (new ≡ old)
PublishEvent reply.NoValue old new = (¬ IsGroupOut flush.Durable old) × (new ≡ old)
PublishEvent _ old new = ⊥

-- Staging a group that follows the group in flight, which takes the flusher's value. A run's own
-- value is no stranger.
abbrev pub FollowEvent : Reply → StateView → StateView → Type 0
FollowEvent reply.Done old new =
    IsGroupOut flush.Opened old × (old.stopped ≡ false) × TakesFollower old new.following × (new ≡ followed_by old new.following)
FollowEvent (reply.FollowRefused e) old new =
    IsGroupOut flush.Opened old × ((value : Commit AtOpened) × (IsFlushTurn flush.Opened value old × IsFollowRefused e value old)) × (new ≡ old)
FollowEvent reply.NoValue old new = (¬ IsGroupOut flush.Opened old) × (new ≡ old)
FollowEvent _ old new = ⊥

-- Publishing a group that another follows. The flusher's value is then that of the following group.
abbrev pub PublishFollowedEvent : Reply → StateView → StateView → Type 0
PublishFollowedEvent reply.Done old new =
    IsGroupOut flush.DurableFollowed old × HasFollower old × (new ≡ with_follower_in_flight old)
PublishFollowedEvent (reply.PublishRefused publish.NoMemory) old new =
    IsGroupOut flush.DurableFollowed old × HasFollower old × (new ≡ old)
PublishFollowedEvent reply.NoValue old new = (¬ IsGroupOut flush.DurableFollowed old) × (new ≡ old)
PublishFollowedEvent _ old new = ⊥

-- Stopping the state.
abbrev pub HaltEvent : Reply → StateView → StateView → Type 0
HaltEvent reply.Done old new = new ≡ halted old
HaltEvent _ old new = ⊥

-- The answer of a lookup is from the committed rows. Memory is refused only where there are
-- segments to show.
abbrev pub LookupEvent : Query → ℕ → Reply → StateView → StateView → Type 0
LookupEvent query now (reply.Answer found) old new = (found.items ≡ segments_of (served (machine_of old) (query_view query) now)) × (new ≡ old)
LookupEvent query now reply.AnswerRefused old new = (1 ≤ length (served (machine_of old) (query_view query) now)) × (new ≡ old)
LookupEvent query now _ old new = ⊥

-- A command is accepted at the next place, and the run has its ticket, or it is refused, and
-- nothing changes.
abbrev pub SubmitEvent : Command → Reply → RunView → RunView → Type 0
SubmitEvent command (reply.Accepted place) old new =
    MayBeSubmitted command old.state × CheckpointHasRoom command old.state × (place ≡ next_place old.state)
    × (new.state ≡ with_pending_command command old.state) × (new.tickets ≡ old.tickets ++ Some place ∷ [])
SubmitEvent command (reply.Refused e) old new = IsSubmitRefused e command old.state × (new ≡ old)
SubmitEvent command _ old new = ⊥

-- The run after the `k`-th ticket is redeemed: the outcome of its place is no longer kept.
abbrev pub redeemed_at : ℕ → ℕ → RunView → RunView
redeemed_at k place old = record {
  state = record old.state { kept = kept_without place old.state.kept };
  tickets = slice_set old.tickets k None;
}

-- A ticket is redeemed for the outcome that is kept for its place, where the command is committed.
-- Before that the ticket stays, unless the state has stopped.
abbrev pub RedeemEvent : ℕ → Reply → RunView → RunView → Type 0
RedeemEvent k (reply.Committed place outcome) old new =
    (ticket_at k old ≡ Some place) × (place < old.state.value.place) × (outcome_at place old.state.kept ≡ Some outcome)
    × (new ≡ redeemed_at k place old)
RedeemEvent k (reply.Waiting place) old new =
    (ticket_at k old ≡ Some place) × (old.state.value.place ≤ place) × (old.state.stopped ≡ false) × (new ≡ old)
RedeemEvent k (reply.Unknown place) old new =
    (ticket_at k old ≡ Some place) × (old.state.value.place ≤ place) × (old.state.stopped ≡ true) × (new ≡ redeemed_at k place old)
RedeemEvent k reply.NoValue old new = (ticket_at k old ≡ None) × (new ≡ old)
RedeemEvent k _ old new = ⊥

-- The event leaves the tickets unchanged.
abbrev pub OnState : (StateView → StateView → Type 0) → RunView → RunView → Type 0
OnState step old new = (new.tickets ≡ old.tickets) × step old.state new.state

-- The step of each event, by its reply.
abbrev pub IsRunStep : Event → Reply → RunView → RunView → Type 0
IsRunStep (event.Submit command) reply old new = SubmitEvent command reply old new
IsRunStep event.Stage reply old new = OnState (StageEvent reply) old new
IsRunStep event.WriteGroup reply old new = OnState (FlushEvent flush.Staged flush.Written flush.Staged reply) old new
IsRunStep event.SyncGroup reply old new = OnState (FlushEvent flush.Written flush.Stable flush.Written reply) old new
IsRunStep event.OpenGate reply old new = OnState (FlushEvent flush.Stable flush.Opened flush.Doubtful reply) old new
IsRunStep event.SyncGate reply old new = OnState (FlushEvent flush.Opened flush.Durable flush.Opened reply) old new
IsRunStep event.Publish reply old new = OnState (PublishEvent reply) old new
IsRunStep event.Follow reply old new = OnState (FollowEvent reply) old new
IsRunStep event.WriteFollowing reply old new = OnState (FlushEvent flush.Following flush.Followed flush.Following reply) old new
IsRunStep event.SyncFollowed reply old new = OnState (FlushEvent flush.Followed flush.DurableFollowed flush.Followed reply) old new
IsRunStep event.PublishFollowed reply old new = OnState (PublishFollowedEvent reply) old new
IsRunStep (event.Redeem k) reply old new = RedeemEvent k reply old new
IsRunStep event.Prepare reply old new = OnState (PrepareEvent reply) old new
IsRunStep event.Begin reply old new = OnState (BeginEvent reply) old new
IsRunStep event.WriteChunk reply old new = OnState (ChunkEvent reply) old new
IsRunStep event.SyncChunks reply old new =
    OnState (CheckEvent (IsPlanOut true old.state) (at_phase check.Laid old.state) check.Planned reply) old new
IsRunStep event.OpenHalf reply old new =
    OnState (CheckEvent (IsPlanOutAt check.Laid old.state) (at_phase check.Switched old.state) check.SwitchFailed reply) old new
IsRunStep event.SyncHalf reply old new =
    OnState (CheckEvent (IsPlanOutAt check.Switched old.state) (half_counts old.state) check.Switched reply) old new
IsRunStep event.CloseHalf reply old new =
    OnState (CheckEvent (IsPlanOutAt check.Live old.state) (at_phase check.Closing old.state) check.CloseFailed reply) old new
IsRunStep event.SyncClose reply old new =
    OnState (CheckEvent (IsPlanOutAt check.Closing old.state) (half_ready old.state) check.Closing reply) old new
IsRunStep (event.Lookup query now) reply old new = OnState (LookupEvent query now reply) old new
IsRunStep event.Halt reply old new = OnState (HaltEvent reply) old new

-- The events make these steps one after the other, with these replies, and all on one device.
abbrev pub IsRun : List Event → List Reply → RunView → RunView → Type 0
IsRun [] [] old new = new ≡ old
IsRun [] (r ∷ replies) old new = ⊥
IsRun (e ∷ events) [] old new = ⊥
IsRun (e ∷ events) (r ∷ replies) old new =
    (mid : RunView) × IsRunStep e r old mid × DeviceGoesOn old.state.disk mid.state.disk × IsRun events replies mid new
