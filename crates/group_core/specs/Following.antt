-- What a group that follows the group in flight does to a state.
use Rattle.std.specs.Prelude.{◌≡◌, ℕ, ◌+◌, ◌≤◌, false, true, List, [], ◌++◌, length, take, drop, Result, Ok, Err}
use Rattle.store_layout.specs.Limits.{limits_of}
use Rattle.store_layout.specs.Group.{group_sectors, JournalHasRoom}
use Rattle.store_layout.specs.Journal.{gate_behind}
use Rattle.store_layout.specs.StoreValues.{value_after}
use Rattle.gate_journal.specs.Commands.{command_format}
use Rattle.store_open.specs.PathStores.{store_format}
use Rattle.path_db.specs.declared.command.Command.{Command}
use Rattle.group_phases.specs.declared.phases.Flush.TheVariants.{Stable, Opened, Following, DurableFollowed}
use Rattle.group_core.specs.declared.phases.AtOpened.{AtOpened}
use Rattle.group_core.specs.declared.phases.AtFollowing.{AtFollowing}
use Rattle.group_core.specs.declared.phases.AtStable.{AtStable}
use Rattle.group_core.specs.declared.phases.AtDurableFollowed.{AtDurableFollowed}
use Rattle.group_core.specs.declared.following.FollowError.{FollowError}
use Rattle.group_core.specs.declared.following.FollowError.TheVariants.{Stranger, Stopped, Seal, Empty, NoRoom, NoMemory}
use Rattle.group_core.specs.declared.error.PublishError.{PublishError}
use Rattle.group_core.specs.declared.error.PublishError.TheVariants as publish
use Rattle.group_core.specs.declared.values.Commit.{Commit}
use Rattle.group_core.specs.Values.{IsSame}
use Rattle.group_core.specs.Steps.{IsFlushTurn}
use Rattle.group_core.specs.Staging.{IsLongestFront}
use Rattle.group_core.specs.StateView.{StateView}

-- The pending commands after those in flight.
abbrev pub later_commands : StateView → List Command
later_commands view = drop view.taken view.pending

-- The gate that ends the group in flight, in sectors from the start of the journal.
abbrev pub next_gate : StateView → ℕ
next_gate view = gate_behind command_format view.gate (take view.taken view.pending)

-- The state after the group in flight is committed, with the following group in flight, written and
-- synced.
abbrev pub with_follower_in_flight : StateView → StateView
with_follower_in_flight old = record old {
  value = value_after store_format old.value (take old.taken old.pending);
  shown = old.shown ++ take old.taken old.pending;
  pending = later_commands old;
  taken = old.following;
  following = 0;
  flush = Stable;
  gate = next_gate old;
}

-- It is the turn of this value, and the state goes on.
pub record MayFollow (value : Commit AtOpened) (view : StateView) : Type 0 where
  pub turn : IsFlushTurn Opened value view
  pub going : view.stopped ≡ false

-- A group is in flight, and commands are pending after it.
pub record HasLaterCommands (view : StateView) : Type 0 where
  pub group : 1 ≤ view.taken
  pub some : 1 ≤ length (later_commands view)

-- The journal has room for a group of the first `n` later commands, after the gate that ends the
-- group in flight.
abbrev pub JournalHasRoomForFollower : StateView → ℕ → Type 0
JournalHasRoomForFollower view n = JournalHasRoom (next_gate view) (group_sectors command_format (take n (later_commands view))) view.geometry.journal

-- The longest front of the later commands follows, where it has room.
pub record TakesFollower (view : StateView) (following : ℕ) : Type 0 where
  -- Commands are pending after a group in flight.
  pub has : HasLaterCommands view
  -- At least one command follows.
  pub some : 1 ≤ following
  -- The following commands are the longest front of the later commands that fits one group.
  pub front : IsLongestFront (limits_of view.version) (later_commands view) following
  -- The journal has room for them.
  pub room : JournalHasRoomForFollower view following

-- The longest front of the later commands has no room.
pub record FollowerHasNoRoom (view : StateView) : Type 0 where
  -- Commands are pending after a group in flight.
  pub has : HasLaterCommands view
  -- The length of the longest front that fits one group.
  pub longest : ℕ
  -- The front of that length is the longest such front.
  pub front : IsLongestFront (limits_of view.version) (later_commands view) longest
  -- The journal has no room for it.
  pub room : ¬ JournalHasRoomForFollower view longest

-- The state after `following` later commands are staged to follow.
abbrev pub followed_by : StateView → ℕ → StateView
followed_by old following = record old { following = following; flush = Following }

-- Why no group follows. The refusals are judged in this order. Memory can be refused only where a
-- group would follow.
abbrev pub IsFollowRefused : FollowError → Commit AtOpened → StateView → Type 0
IsFollowRefused Stranger value view = ¬ IsFlushTurn Opened value view
IsFollowRefused Stopped value view = IsFlushTurn Opened value view × (view.stopped ≡ true)
IsFollowRefused Seal value view = MayFollow value view × (view.taken ≡ 0)
IsFollowRefused Empty value view = MayFollow value view × (1 ≤ view.taken) × (later_commands view ≡ [])
IsFollowRefused NoRoom value view = MayFollow value view × FollowerHasNoRoom view
IsFollowRefused NoMemory value view = MayFollow value view × ((following : ℕ) × TakesFollower view following)

-- What `follow` returns. The longest front of the later commands follows the group in flight. A
-- refusal changes nothing, and returns the value.
abbrev pub Follows : Commit AtOpened → Result (Commit AtFollowing) (Commit AtOpened × FollowError) → StateView → StateView → Type 0
Follows value (Ok next) old new =
    MayFollow value old × TakesFollower old new.following × IsSame value next × (new ≡ followed_by old new.following)
Follows value (Err (back, e)) old new = IsFollowRefused e value old × (back ≡ value) × (new ≡ old)

-- A group of pending commands is in flight, and a group of those after them follows it.
pub record HasFollower (view : StateView) : Type 0 where
  pub group : 1 ≤ view.taken
  pub some : 1 ≤ view.following
  pub inside : view.taken + view.following ≤ length view.pending

-- What publishing a followed group returns. The group in flight is committed, and the following
-- group is then in flight. The call is refused where it is not the turn of this value, and where
-- memory is refused. A refusal changes nothing.
abbrev pub PublishFollowedStep : Commit AtDurableFollowed → Result (Commit AtStable) (PublishError AtDurableFollowed) → StateView → StateView → Type 0
PublishFollowedStep value (Ok next) old new =
    IsFlushTurn DurableFollowed value old × HasFollower old × IsSame value next × (new ≡ with_follower_in_flight old)
PublishFollowedStep value (Err (publish.Stranger back)) old new = (¬ IsFlushTurn DurableFollowed value old) × (back ≡ value) × (new ≡ old)
PublishFollowedStep value (Err (publish.NoMemory back)) old new =
    IsFlushTurn DurableFollowed value old × HasFollower old × (back ≡ value) × (new ≡ old)
