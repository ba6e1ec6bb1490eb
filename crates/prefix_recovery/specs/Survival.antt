-- What survives a stop of a run: the definitions of the recovery theorem, to be read from top to
-- bottom. A run is a list of events, and a trace of the run has what a stop depends on.
use Rattle.std.specs.Prelude.{◌≡◌, ℕ, ◌+◌, ◌-◌, ◌<◌, ◌≤◌, ◌⊎◌, List, [], ◌∷◌, length, take, drop, Contains, Some, slice_get}
use Rattle.row_map.specs.Database.{RowView}
use Rattle.path_db.specs.declared.command.Command.{Command}
use Rattle.path_db.specs.Command.{database_after_all}
use Rattle.sector_dev.specs.Disk.{Moment, Disk, IsHonest, moments}
use Rattle.sector_dev.specs.Image.{IsImage, EveryImage}
use Rattle.store_layout.specs.Opening.{StoreValue}
use Rattle.store_open.specs.Store.{StoreView}
use Rattle.group_core.specs.Starting.{value_of_store}
use Rattle.group_recovery.specs.declared.events.Event.{Event}
use Rattle.group_recovery.specs.declared.events.Event.TheVariants as event
use Rattle.group_recovery.specs.declared.events.Reply.{Reply}
use Rattle.group_recovery.specs.declared.events.Reply.TheVariants as reply
use Rattle.group_recovery.specs.RunSteps.{RunView}
use Rattle.group_recovery.specs.RunLeaves.{accepted_in, lock_order}

-- ---- the trace of a run

-- An opening of the device after a stop.
pub record Attempt : Type 0 where
  -- The device before the opening.
  pub before : Disk
  -- The device after the opening, whether it succeeded or not.
  pub after : Disk

-- The trace of a run as contracts see it.
pub record TraceView : Type 0 where
  -- The run before its first event.
  pub start : RunView
  -- The commands in the order of the lock: those that are pending at the start, and then those that
  -- are accepted.
  pub order : List Command
  -- The run after each of its events.
  pub later : List RunView
  -- The openings of the device after the run was stopped, the last one first.
  pub attempts : List Attempt

-- The run before its first event, and after each event.
abbrev pub runs_of : TraceView → List RunView
runs_of trace = trace.start ∷ trace.later

-- The last of a list of runs, or this one where the list is empty.
abbrev pub last_run : RunView → List RunView → RunView
last_run run [] = run
last_run run (next ∷ later) = last_run next later

-- The run after its last event.
abbrev pub end_of : TraceView → RunView
end_of trace = last_run trace.start trace.later

-- The trace after one more opening of the device.
abbrev pub trace_opened : TraceView → Disk → Disk → TraceView
trace_opened trace before after = record trace { attempts = record { before = before; after = after } ∷ trace.attempts }

-- The value is that of the start after a front of the order.
pub record IsAfterFront (start : StoreValue (List RowView)) (order : List Command) (value : StoreValue (List RowView)) : Type 0 where
  -- The length of the front.
  pub kept : ℕ
  pub inside : kept ≤ length order
  pub rows : value.db ≡ database_after_all start.db (take kept order)
  pub place : value.place ≡ start.place + kept

-- A command that is acknowledged has a place below the number of commands that are committed.
abbrev pub IsCommittedIn : Reply → RunView → Type 0
IsCommittedIn (reply.Committed place outcome) run = place < run.state.value.place
IsCommittedIn _ run = Unit {0}

-- Each reply, and the run after it.
abbrev pub AcknowledgedAreCommitted : List Reply → List RunView → Type 0
AcknowledgedAreCommitted [] [] = Unit {0}
AcknowledgedAreCommitted (r ∷ replies) (run ∷ later) = IsCommittedIn r run × AcknowledgedAreCommitted replies later
AcknowledgedAreCommitted _ _ = ⊥

-- The order has at this place the command that was accepted for the k-th ticket of the run. The
-- tickets that the run began with come before those of the commands that it accepts.
pub record HasTicketsCommand (start : RunView) (order all : List Command) (k place : ℕ) : Type 0 where
  pub from : start.state.value.place ≤ place
  pub command : Command
  pub accepted : slice_get all (k - length start.tickets) ≡ Some command
  pub there : slice_get order (place - start.state.value.place) ≡ Some command

-- A ticket that the run gave is acknowledged with the place of its own command.
abbrev pub IsOfItsTicket : RunView → List Command → List Command → Event → Reply → Type 0
IsOfItsTicket start order all (event.Redeem k) (reply.Committed place outcome) = length start.tickets ≤ k → HasTicketsCommand start order all k place
IsOfItsTicket start order all _ _ = Unit {0}

-- Each event, and its reply.
abbrev pub AreOfTheirTickets : RunView → List Command → List Command → List Event → List Reply → Type 0
AreOfTheirTickets start order all [] [] = Unit {0}
AreOfTheirTickets start order all (e ∷ events) (r ∷ replies) = IsOfItsTicket start order all e r × AreOfTheirTickets start order all events replies
AreOfTheirTickets start order all _ _ = ⊥

-- The trace is that of a run from a start to an end, by these events with these replies.
pub record IsTraceOf (start : RunView) (events : List Event) (replies : List Reply) (end : RunView) (trace : TraceView) : Type 0 where
  pub starts : trace.start ≡ start
  pub ends : end_of trace ≡ end
  pub order : trace.order ≡ lock_order start.state events replies
  -- In each state of the run, what is committed is a front of the order.
  pub fronts : (run : RunView) → Contains (runs_of trace) run → IsAfterFront start.state.value trace.order run.state.value
  pub acknowledged : AcknowledgedAreCommitted replies trace.later
  pub tickets : AreOfTheirTickets start trace.order (accepted_in events replies) events replies
  -- The device was not opened again yet.
  pub unopened : trace.attempts ≡ []

-- ---- what a stop leaves

-- A stop of an honest device leaves this image, at a moment from the earlier state of the device
-- on.
pub record IsStopSince (earlier latest : Disk) (image : List ℕ) : Type 0 where
  pub honest : IsHonest earlier
  pub moment : Moment
  pub since : Contains (drop (length earlier.history.past) (moments latest.history)) moment
  pub left : IsImage moment image

-- What may be left of a device: by a stop of the run, or by a stop of one of the openings after it,
-- where all that the device had then was left so by the run or by the openings before that one.
abbrev pub MayBeLeft : Disk → Disk → List Attempt → List ℕ → Type 0
MayBeLeft earlier latest [] image = IsStopSince earlier latest image
MayBeLeft earlier latest (attempt ∷ others) image =
    MayBeLeft earlier latest others image
    ⊎ (EveryImage attempt.before.history.now (MayBeLeft earlier latest others) × IsStopSince attempt.before attempt.after image)

-- A device has what may be left of a run since one of its states.
abbrev pub IsLeftSince : RunView → TraceView → Disk → Type 0
IsLeftSince run trace disk =
    EveryImage disk.history.now (MayBeLeft run.state.disk (end_of trace).state.disk trace.attempts)

-- ---- what survives

-- The store has the start's rows after a front of the order, and all commands that were committed
-- in this state of the run.
pub record Survives (run : RunView) (trace : TraceView) (store : StoreView) : Type 0 where
  pub front : IsAfterFront trace.start.state.value trace.order (value_of_store store)
  pub committed : run.state.value.place ≤ store.place

-- For each state of the run: where a device has what may be left since that state, the store that
-- is opened has what was committed in it.
abbrev pub Recovers : TraceView → Disk → StoreView → Type 0
Recovers trace disk store =
    (run : RunView) → Contains (runs_of trace) run → IsLeftSince run trace disk → Survives run trace store
