-- What the flusher's calls do to its part. Each statement is the contract of a function.
use Rattle.std.specs.Prelude.{ℕ, ◌+◌, List, length, Result, Ok, Err}
use Rattle.sector_dev.specs.Disk.{Moment, Disk, IsHonest}
use Rattle.sector_dev.specs.Calls.{WriteCall, SyncCall}
use Rattle.store_layout.specs.Limits.{Limits}
use Rattle.store_layout.specs.CommandFormat.{CommandFormat}
use Rattle.store_layout.specs.Layout.{Geometry, journal_at}
use Rattle.group_phases.specs.declared.phases.Flush.{Flush}
use Rattle.group_phases.specs.declared.phases.Flush.TheVariants.{Resting, Staged, Written, Stable, Opened, Doubtful, Durable}
use Rattle.group_phases.specs.StoreConfig.{HasTitle}
use Rattle.byte_lists.specs.Sectors.{open_gate}
use Rattle.group_phases.specs.Tail.{GroupOrSeal, Commands, Seal, load_bytes, Tail, tail_place, CanBeLoad, tail_after}
use Rattle.group_phases.specs.FlusherPart.{HasGroups, FlusherPart}
use Rattle.group_phases.specs.Kept.{IsInJournal}

-- The phase that a call leaves: one where it succeeds, another where it fails.
abbrev pub by_result : {X T E : Type 0} → X → X → Result T E → X
by_result done failed (Ok value) = done
by_result done failed (Err error) = failed

-- The sector at which the flusher writes what is in flight: the one after the tail's gate.
abbrev pub load_at : {C : Type 0} → Geometry → Tail C → ℕ
load_at geometry tail = journal_at geometry tail.half + (tail.gate + 1)

-- The sector of the tail's gate.
abbrev pub tail_gate_at : {C : Type 0} → Geometry → Tail C → ℕ
tail_gate_at geometry tail = journal_at geometry tail.half + tail.gate

-- What the flusher writes lies in the tail's journal.
abbrev pub WritesInJournal : Type 0 → Type 0
WritesInJournal C =
    (format : CommandFormat C) (limits : Limits) (geometry : Geometry) (tail : Tail C) (load : GroupOrSeal C) (moment : Moment)
    → HasGroups format limits geometry tail moment → CanBeLoad format limits geometry tail load
    → IsInJournal geometry tail.half (load_at geometry tail) (length (load_bytes format (tail_place tail) load))
    × IsInJournal geometry tail.half (tail_gate_at geometry tail) (length open_gate)

-- What is in flight is written after the tail's gate.
abbrev pub WritesLoad : Type 0 → Type 0 → Type 0 → Type 0
WritesLoad T E C =
    (format : CommandFormat C) (limits : Limits) (geometry : Geometry) (tail : Tail C) (load : GroupOrSeal C) (result : Result T E) (old new : Disk)
    → WriteCall (load_at geometry tail) (load_bytes format (tail_place tail) load) result old new → IsHonest old
    → HasTitle geometry old.history.now → FlusherPart Staged format limits geometry tail load old.history.now
    → FlusherPart (by_result Written Staged result) format limits geometry tail load new.history.now

-- The tail's gate is written open.
abbrev pub OpensTailGate : Type 0 → Type 0 → Type 0 → Type 0
OpensTailGate T E C =
    (format : CommandFormat C) (limits : Limits) (geometry : Geometry) (tail : Tail C) (load : GroupOrSeal C) (result : Result T E) (old new : Disk)
    → WriteCall (tail_gate_at geometry tail) open_gate result old new → IsHonest old
    → HasTitle geometry old.history.now → FlusherPart Stable format limits geometry tail load old.history.now
    → FlusherPart (by_result Opened Doubtful result) format limits geometry tail load new.history.now

-- A sync leads from one phase to the next. Where the sync fails, the phase stays.
abbrev pub IsFlusherSync : Type 0 → Type 0 → Type 0 → Flush → Flush → Type 0
IsFlusherSync T E C from done =
    (format : CommandFormat C) (limits : Limits) (geometry : Geometry) (tail : Tail C) (load : GroupOrSeal C) (result : Result T E) (old new : Disk)
    → SyncCall result old new → IsHonest old
    → HasTitle geometry old.history.now → FlusherPart from format limits geometry tail load old.history.now
    → FlusherPart (by_result done from result) format limits geometry tail load new.history.now

-- What is in flight is synced.
abbrev pub SyncsLoad : Type 0 → Type 0 → Type 0 → Type 0
SyncsLoad T E C = IsFlusherSync T E C Written Stable

-- The open gate of the tail is synced.
abbrev pub SyncsTailGate : Type 0 → Type 0 → Type 0 → Type 0
SyncsTailGate T E C = IsFlusherSync T E C Opened Durable

-- A durable group becomes one of the tail's groups.
abbrev pub PublishesGroup : Type 0 → Type 0
PublishesGroup C =
    (format : CommandFormat C) (limits : Limits) (geometry : Geometry) (tail : Tail C) (commands : List C) (moment : Moment)
    → HasTitle geometry moment → FlusherPart Durable format limits geometry tail (Commands commands) moment
    → FlusherPart Resting format limits geometry (tail_after format tail commands) Seal moment
