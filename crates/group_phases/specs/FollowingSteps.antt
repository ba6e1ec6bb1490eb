-- What the flusher's calls do to its part where a group follows the group in flight. Each statement
-- is the contract of a function.
use Rattle.std.specs.Prelude.{List, Result}
use Rattle.sector_dev.specs.Disk.{Moment, Disk, IsHonest}
use Rattle.sector_dev.specs.Calls.{WriteCall, SyncCall}
use Rattle.store_layout.specs.Limits.{Limits}
use Rattle.store_layout.specs.CommandFormat.{CommandFormat}
use Rattle.store_layout.specs.Layout.{Geometry}
use Rattle.group_phases.specs.declared.phases.Flush.{Flush}
use Rattle.group_phases.specs.declared.phases.Flush.TheVariants.{Stable, Opened, Durable, Following, Followed, DurableFollowed}
use Rattle.group_phases.specs.StoreConfig.{HasTitle}
use Rattle.group_phases.specs.Tail.{Commands, load_bytes, Tail, tail_place, tail_after}
use Rattle.group_phases.specs.FlusherPart.{FlusherPart}
use Rattle.group_phases.specs.FollowerPart.{FollowerPart}
use Rattle.group_phases.specs.FlusherSteps.{by_result, load_at}
use Rattle.group_phases.specs.Kept.{IsTailUntouched}

-- The following group is written after the gate that ends the group in flight, whose own gate is
-- open. Whatever the write returns, the part of the group in flight stays.
abbrev pub WritesFollower : Type 0 → Type 0 → Type 0 → Type 0
WritesFollower T E C =
    (format : CommandFormat C) (limits : Limits) (geometry : Geometry) (tail : Tail C) (commands next : List C) (result : Result T E) (old new : Disk)
    → WriteCall (load_at geometry (tail_after format tail commands)) (load_bytes format (tail_place (tail_after format tail commands)) (Commands next)) result old new
    → IsHonest old → HasTitle geometry old.history.now
    → FlusherPart Opened format limits geometry tail (Commands commands) old.history.now
    → FollowerPart Following format limits geometry tail commands next old.history.now
    → FlusherPart Opened format limits geometry tail (Commands commands) new.history.now
    × FollowerPart (by_result Followed Following result) format limits geometry tail commands next new.history.now

-- One sync makes the gate durable and the following group stable. Where it fails, both parts stay.
abbrev pub SyncsFollower : Type 0 → Type 0 → Type 0 → Type 0
SyncsFollower T E C =
    (format : CommandFormat C) (limits : Limits) (geometry : Geometry) (tail : Tail C) (commands next : List C) (result : Result T E) (old new : Disk)
    → SyncCall result old new → IsHonest old → HasTitle geometry old.history.now
    → FlusherPart Opened format limits geometry tail (Commands commands) old.history.now
    → FollowerPart Followed format limits geometry tail commands next old.history.now
    → FlusherPart (by_result Durable Opened result) format limits geometry tail (Commands commands) new.history.now
    × FollowerPart (by_result DurableFollowed Followed result) format limits geometry tail commands next new.history.now

-- The group in flight becomes one of the tail's groups, and the following group is in flight, at
-- the phase `Stable`.
abbrev pub PublishesFollower : Type 0 → Type 0
PublishesFollower C =
    (format : CommandFormat C) (limits : Limits) (geometry : Geometry) (tail : Tail C) (commands next : List C) (moment : Moment)
    → HasTitle geometry moment → FlusherPart Durable format limits geometry tail (Commands commands) moment
    → FollowerPart DurableFollowed format limits geometry tail commands next moment
    → FlusherPart Stable format limits geometry (tail_after format tail commands) (Commands next) moment

-- The following group's part stays where the title and the tail's journal are untouched, in each
-- phase.
abbrev pub KeepsFollower : Type 0 → Type 0
KeepsFollower C =
    (phase : Flush) (format : CommandFormat C) (limits : Limits) (geometry : Geometry) (tail : Tail C) (commands next : List C) (old new : Moment)
    → HasTitle geometry old → IsTailUntouched geometry tail.half old new
    → FollowerPart phase format limits geometry tail commands next old → FollowerPart phase format limits geometry tail commands next new
