-- What a state keeps beside its machine, and the effect of each event of a run on it, by the
-- event's reply.
use Rattle.std.specs.Prelude.{◌≡◌, ℕ, ◌+◌, ◌<◌, ◌≤◌, ◌⊎◌, Bool, true, List, length, drop, Some}
use Rattle.std.specs.Ordering.{nat_cmp}
use Rattle.std.specs.BTreeMap.{insert_entry}
use Rattle.row_map.specs.Database.{RowView}
use Rattle.path_db.specs.Command.{outcome_of}
use Rattle.path_db.specs.declared.outcome.Outcome.{Outcome}
use Rattle.store_layout.specs.Limits.{limits_of, latest}
use Rattle.store_layout.specs.StoreFormat.{db_after}
use Rattle.store_open.specs.PathStores.{store_format}
use Rattle.group_core.specs.declared.beginning.BeginError.TheVariants as begin
use Rattle.group_core.specs.StateView.{StateView}
use Rattle.group_core.specs.Staging.{IsLongestFront}
use Rattle.group_core.specs.Redeeming.{outcome_at, kept_without}
use Rattle.group_recovery.specs.declared.events.Event.{Event}
use Rattle.group_recovery.specs.declared.events.Event.TheVariants as event
use Rattle.group_recovery.specs.declared.events.Reply.{Reply}
use Rattle.group_recovery.specs.declared.events.Reply.TheVariants as reply
use Rattle.group_recovery.specs.declared.events.StepRefusal.TheVariants as why
use Rattle.group_recovery.specs.Machine.{Machine, machine_of}
use Rattle.group_recovery.specs.RunSteps.{RunView, IsRunStep}

-- The fields of a state beside its machine that the events of a run change.
pub record Bookkeeping : Type 0 where
  -- The outcomes of the commands that are not redeemed, by the commands' places, which rise.
  pub outcomes : List (ℕ × Outcome)
  -- The number of pending commands that are in flight.
  pub taken : ℕ
  -- The number of the pending commands after those in flight that follow them.
  pub following : ℕ
  -- Whether the state has stopped.
  pub stopped : Bool
  -- The format version of the half that counts.
  pub version : ℕ

-- The bookkeeping of a state.
abbrev pub bookkeeping_of : StateView → Bookkeeping
bookkeeping_of view = record { outcomes = view.kept; taken = view.taken; following = view.following; stopped = view.stopped; version = view.version }

-- The place of the next command that is accepted.
abbrev pub next_in : Machine → ℕ
next_in machine = machine.place + length machine.pending

-- The rows on which the outcome of the next command is judged: those after all commands before it.
abbrev pub rows_before_next : Machine → List RowView
rows_before_next machine = db_after store_format machine.committed machine.pending

-- The bookkeeping with the outcome of one more place.
abbrev pub with_outcome : ℕ → Outcome → Bookkeeping → Bookkeeping
with_outcome place outcome books = record books { outcomes = insert_entry nat_cmp books.outcomes place outcome }

-- The bookkeeping without the outcome of a place.
abbrev pub without_outcome : ℕ → Bookkeeping → Bookkeeping
without_outcome place books = record books { outcomes = kept_without place books.outcomes }

-- The number of commands in flight is that of the longest front of the pending commands that fits a
-- group of this version, or 0 for a seal.
abbrev pub IsInFlight : ℕ → Machine → ℕ → Type 0
IsInFlight version machine taken = IsLongestFront (limits_of version) machine.pending taken ⊎ (taken ≡ 0)

-- The bookkeeping after a reply that is an error. A device that fails stops the state, and so does
-- a half that is not as the state left it. Any other reply changes nothing.
abbrev pub stopped_by : Reply → Bookkeeping → Bookkeeping
stopped_by (reply.StepRefused why.Fault) books = record books { stopped = true }
stopped_by (reply.StepRefused why.Damaged) books = record books { stopped = true }
stopped_by (reply.BeginRefused begin.Fault) books = record books { stopped = true }
stopped_by (reply.BeginRefused begin.Damaged) books = record books { stopped = true }
stopped_by _ books = books

-- The effect of an event on the bookkeeping, for this machine before the event. A command is
-- accepted at the next place, and its outcome is kept until its ticket is redeemed. A group or a
-- seal is staged, and published. A group follows: the longest front of the commands after those in
-- flight that fits a group. The following group is in flight after the group before it is
-- published. A new half counts, in the version that is written.
abbrev pub KeepsBooks : Event → Reply → Machine → Bookkeeping → Bookkeeping → Type 0
KeepsBooks (event.Submit command) (reply.Accepted place) machine old new =
    (place ≡ next_in machine) × (new ≡ with_outcome place (outcome_of (rows_before_next machine) command) old)
KeepsBooks event.Stage reply.Done machine old new =
    IsInFlight old.version machine new.taken × (new ≡ record old { taken = new.taken })
KeepsBooks event.Publish reply.Done machine old new = new ≡ record old { taken = 0 }
KeepsBooks event.Follow reply.Done machine old new =
    IsLongestFront (limits_of old.version) (drop old.taken machine.pending) new.following × (new ≡ record old { following = new.following })
KeepsBooks event.PublishFollowed reply.Done machine old new = new ≡ record old { taken = old.following; following = 0 }
KeepsBooks (event.Redeem k) (reply.Committed place outcome) machine old new =
    (place < machine.place) × (outcome_at place old.outcomes ≡ Some outcome) × (new ≡ without_outcome place old)
KeepsBooks (event.Redeem k) (reply.Unknown place) machine old new =
    (machine.place ≤ place) × (old.stopped ≡ true) × (new ≡ without_outcome place old)
KeepsBooks event.SyncHalf reply.Done machine old new = new ≡ record old { version = latest }
KeepsBooks event.Halt reply.Done machine old new = new ≡ record old { stopped = true }
KeepsBooks _ reply machine old new = new ≡ stopped_by reply old

-- Each step of a run keeps the bookkeeping as `KeepsBooks` says.
abbrev pub EventsKeepTheBooks : Type 0
EventsKeepTheBooks =
    (e : Event) (r : Reply) (old new : RunView) → IsRunStep e r old new
    → KeepsBooks e r (machine_of old.state) (bookkeeping_of old.state) (bookkeeping_of new.state)

-- A state that has stopped stays stopped.
abbrev pub StopsAreForGood : Type 0
StopsAreForGood =
    (e : Event) (r : Reply) (old new : RunView) → IsRunStep e r old new → old.state.stopped ≡ true → new.state.stopped ≡ true
