-- Laws of a device that holds what a state represents. Each statement is the contract of a
-- function.
use Rattle.sector_dev.specs.Disk.{Moment}
use Rattle.sector_dev.specs.Image.{EveryImage}
use Rattle.store_layout.specs.Limits.{Limits}
use Rattle.store_layout.specs.CommandFormat.{CommandFormat}
use Rattle.store_layout.specs.Layout.{Geometry}
use Rattle.group_phases.specs.declared.phases.Flush.{Flush}
use Rattle.group_phases.specs.StoreConfig.{StoreConfig, HasTitle}
use Rattle.group_phases.specs.Tail.{GroupOrSeal, Tail}
use Rattle.group_phases.specs.FlusherPart.{FlusherPart, MayRead}
use Rattle.group_phases.specs.CommitState.{CommitState, IsHeld, OpensToFront}

-- The tail's journal of each image reads as the flusher's part allows.
abbrev pub ReadsByItsPart : Type 0 → Type 0
ReadsByItsPart C =
    (phase : Flush) (format : CommandFormat C) (limits : Limits) (geometry : Geometry) (tail : Tail C) (load : GroupOrSeal C) (moment : Moment)
    → HasTitle geometry moment → FlusherPart phase format limits geometry tail load moment
    → EveryImage moment (MayRead phase format limits geometry tail load)

-- Each image of a device that holds a state opens as both parts allow.
abbrev pub OpensByBothParts : Type 0 → Type 0 → Type 0
OpensByBothParts Db C =
    (config : StoreConfig Db C) (state : CommitState Db C) (moment : Moment) → IsHeld config state moment
    → EveryImage moment (OpensToFront config state)
