-- What the flusher relies on for a group that follows the group in flight, phase by phase. The
-- following group is written after the gate that ends the group in flight, and that gate stays
-- closed until the group in flight is published.
use Rattle.std.specs.Prelude.{ℕ, ◌+◌, ◌≤◌, List, length, take, drop}
use Rattle.sector_dev.specs.Disk.{Moment}
use Rattle.store_layout.specs.Limits.{Limits}
use Rattle.store_layout.specs.CommandFormat.{CommandFormat}
use Rattle.store_layout.specs.Layout.{Geometry}
use Rattle.group_phases.specs.declared.phases.Flush.{Flush}
use Rattle.group_phases.specs.declared.phases.Flush.TheVariants.{Following, Followed, DurableFollowed}
use Rattle.group_phases.specs.Tail.{GroupOrSeal, Commands, Tail, CanBeLoad, tail_after}
use Rattle.group_phases.specs.FlusherPart.{HasLoad, IsLoadClean}

-- The facts of each phase, for the following group `load` after the tail that the group in flight
-- leaves.
abbrev pub FollowFacts : {C : Type 0} → Flush → CommandFormat C → Geometry → Tail C → GroupOrSeal C → Moment → Type 0
FollowFacts Followed format geometry tail load moment = HasLoad format geometry tail load moment
FollowFacts DurableFollowed format geometry tail load moment = HasLoad format geometry tail load moment × IsLoadClean format geometry tail load moment
FollowFacts _ format geometry tail load moment = Unit {0}

-- What the flusher relies on where the commands `next` follow the commands in flight.
pub record FollowerPart {C : Type 0} (phase : Flush) (format : CommandFormat C) (limits : Limits) (geometry : Geometry) (tail : Tail C) (commands next : List C)
    (moment : Moment) : Type 0 where
  -- The following group may be after the group in flight.
  pub can : CanBeLoad format limits geometry (tail_after format tail commands) (Commands next)
  -- The facts of the phase hold.
  pub facts : FollowFacts phase format geometry (tail_after format tail commands) (Commands next) moment

-- The first `taken` pending commands are in flight, and the `following` commands after them follow.
pub record Follower {C : Type 0} (phase : Flush) (format : CommandFormat C) (limits : Limits) (geometry : Geometry) (tail : Tail C) (pending : List C)
    (taken following : ℕ) (moment : Moment) : Type 0 where
  -- A group is in flight, and not a seal.
  pub some : 1 ≤ taken
  -- No more commands are in flight and follow than are pending.
  pub inside : taken + following ≤ length pending
  -- The part of the following group holds.
  pub part : FollowerPart phase format limits geometry tail (take taken pending) (take following (drop taken pending)) moment

-- What holds of a following group in each phase. Only a group whose gate was written is followed.
abbrev pub IsFollowed : {C : Type 0} → Flush → CommandFormat C → Limits → Geometry → Tail C → List C → ℕ → ℕ → Moment → Type 0
IsFollowed Following format limits geometry tail pending taken following moment =
    Follower Following format limits geometry tail pending taken following moment
IsFollowed Followed format limits geometry tail pending taken following moment =
    Follower Followed format limits geometry tail pending taken following moment
IsFollowed DurableFollowed format limits geometry tail pending taken following moment =
    Follower DurableFollowed format limits geometry tail pending taken following moment
IsFollowed _ format limits geometry tail pending taken following moment = Unit {0}
