-- The end of a run.
use Rattle.std.specs.Prelude.{◌≡◌, ℕ, zero, suc, List, [], ◌∷◌, ◌++◌, length, Result, Ok, Err}
use Rattle.sector_dev.specs.Disk.{Disk, IsHonest}
use Rattle.group_recovery.specs.declared.events.Event.{Event}
use Rattle.group_recovery.specs.declared.events.Event.TheVariants as event
use Rattle.group_recovery.specs.declared.events.Reply.{Reply}
use Rattle.group_core.specs.Ending.{HasNothingOut, HoldsStoreOf}
use Rattle.group_core.specs.StateView.{StateView}
use Rattle.group_recovery.specs.RunSteps.{RunView, IsRun}
use Rattle.group_recovery.specs.RunLeaves.{accepted_in, lock_order, RunLeaves}

-- The events that end a run's values. The state is stopped, and then each step that a value may be
-- at is tried, which spends the value. The flusher's steps with a following group come first, since
-- publishing a followed group leaves the following group's value at `OpenGate`. The flusher's other
-- steps and the checkpointer's come after that.
abbrev pub ending_events : List Event
ending_events =
    event.Halt ∷ event.WriteFollowing ∷ event.SyncFollowed ∷ event.PublishFollowed ∷ event.WriteGroup ∷ event.SyncGroup ∷ event.OpenGate ∷ event.SyncGate ∷ event.Publish
    ∷ event.WriteChunk ∷ event.SyncChunks ∷ event.OpenHalf ∷ event.SyncHalf ∷ event.CloseHalf ∷ event.SyncClose ∷ []

-- The events that redeem the first tickets, each once.
abbrev pub redeeming_events : ℕ → List Event
redeeming_events zero = []
redeeming_events (suc n) = redeeming_events n ++ event.Redeem n ∷ []

-- The events that wind up a run with this number of tickets.
abbrev pub winding_events : ℕ → List Event
winding_events tickets = ending_events ++ redeeming_events tickets

-- The run has done these events, which accept no command.
pub record HasWound (old new : RunView) : Type 0 where
  -- The events that were done.
  pub events : List Event
  -- The replies to them.
  pub replies : List Reply
  -- The events are those that wind up a run with this number of tickets.
  pub are : events ≡ winding_events (length old.tickets)
  -- The run did these events, with these replies.
  pub runs : IsRun events replies old new
  -- No command was accepted.
  pub none : accepted_in events replies ≡ []
  -- What a stop within these events leaves.
  pub leaves : RunLeaves old.state (lock_order old.state events replies) new.state

-- A device opens to the rows that a state shows, at their place, where nothing is pending.
abbrev pub OpensAtRest : StateView → Disk → Type 0
OpensAtRest view disk = IsHonest disk → view.pending ≡ [] → HoldsStoreOf view.value disk

-- The device is returned of a state in which no outcome is kept and no value is out. Otherwise the
-- run is returned.
abbrev pub HandsOutDevice : {D : Type 0} → (D → Disk) → Result D RunView → RunView → Type 0
HandsOutDevice disk_of (Ok device) run =
    HasNothingOut run.state × (disk_of device ≡ run.state.disk) × OpensAtRest run.state (disk_of device)
HandsOutDevice disk_of (Err back) run = (¬ HasNothingOut run.state) × (back ≡ run)

-- A run is wound up: its last events are done, and then its device or the run is returned.
pub record WindsUp {D : Type 0} (disk_of : D → Disk) (result : Result D RunView) (old : RunView) : Type 0 where
  pub new : RunView
  pub wound : HasWound old new
  pub hands : HandsOutDevice disk_of result new
