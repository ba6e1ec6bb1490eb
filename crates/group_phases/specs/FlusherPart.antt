-- What the flusher relies on, phase by phase: facts of the tail's journal alone. A fact states what
-- reads give, or what is clean.
use Rattle.std.specs.Prelude.{◌≡◌, ◌⊎◌, ℕ, ◌+◌, ◌*◌, ◌≤◌, List}
use Rattle.byte_lists.specs.Content.{part}
use Rattle.byte_lists.specs.Sectors.{sector_at, IsOpenGate}
use Rattle.byte_lists.specs.declared.format.TheConstants.{SECTOR}
use Rattle.sector_dev.specs.Disk.{Moment}
use Rattle.store_layout.specs.Limits.{Limits}
use Rattle.store_layout.specs.CommandFormat.{CommandFormat}
use Rattle.store_layout.specs.Journal.{gate_behind, IsGroupChain, Reading, IsJournal}
use Rattle.store_layout.specs.Layout.{Geometry, journal_of}
use Rattle.group_phases.specs.declared.phases.Flush.{Flush}
use Rattle.group_phases.specs.declared.phases.Flush.TheVariants.{Resting, Staged, Written, Stable, Opened, Doubtful, Durable, Following, Followed, DurableFollowed}
use Rattle.group_phases.specs.StoreConfig.{AreCleanSectors}
use Rattle.group_phases.specs.Tail.{GroupOrSeal, Commands, Seal, payload_of, load_sectors, written_sectors, Tail, tail_place, CanBeLoad, without_load, with_load}

-- The bytes of the tail's journal.
abbrev pub tail_bytes : {C : Type 0} → Geometry → Tail C → Moment → List ℕ
tail_bytes geometry tail moment = journal_of geometry tail.half moment.reads

-- The groups that are committed are in the tail's journal and clean, and there is room after them
-- for a gate and a seal.
pub record HasGroups {C : Type 0} (format : CommandFormat C) (limits : Limits) (geometry : Geometry) (tail : Tail C) (moment : Moment) : Type 0 where
  pub chain : IsGroupChain format limits (tail_bytes geometry tail moment) 0 tail.start tail.groups tail.gate
  pub clean : AreCleanSectors geometry tail.half 0 tail.gate moment
  pub room : tail.gate + 2 ≤ geometry.journal

-- The tail's gate is closed and clean.
pub record HasClosedGate {C : Type 0} (geometry : Geometry) (tail : Tail C) (moment : Moment) : Type 0 where
  pub closed : ¬ IsOpenGate (sector_at tail.gate (tail_bytes geometry tail moment))
  pub clean : AreCleanSectors geometry tail.half tail.gate 1 moment

-- The tail's gate is open.
abbrev pub HasOpenGate : {C : Type 0} → Geometry → Tail C → Moment → Type 0
HasOpenGate geometry tail moment = IsOpenGate (sector_at tail.gate (tail_bytes geometry tail moment))

-- The gate after a group is closed. After a seal there is none.
abbrev pub NextIsClosed : {C : Type 0} → CommandFormat C → GroupOrSeal C → List ℕ → ℕ → Type 0
NextIsClosed format (Commands commands) bytes gate = ¬ IsOpenGate (sector_at (gate_behind format gate commands) bytes)
NextIsClosed format Seal bytes gate = Unit {0}

-- What is in flight is written after the tail's gate.
pub record HasLoad {C : Type 0} (format : CommandFormat C) (geometry : Geometry) (tail : Tail C) (load : GroupOrSeal C) (moment : Moment) : Type 0 where
  pub spelled : part (SECTOR * (tail.gate + 1)) (SECTOR * load_sectors format load) (tail_bytes geometry tail moment) ≡ payload_of format (tail_place tail) load
  pub next : NextIsClosed format load (tail_bytes geometry tail moment) tail.gate

-- What is in flight is clean, with the gate that is written after a group.
abbrev pub IsLoadClean : {C : Type 0} → CommandFormat C → Geometry → Tail C → GroupOrSeal C → Moment → Type 0
IsLoadClean format geometry tail load moment = AreCleanSectors geometry tail.half (tail.gate + 1) (written_sectors format load) moment

-- What is in flight is there and clean, and the tail's gate is open.
abbrev pub IsLoadOpened : {C : Type 0} → CommandFormat C → Geometry → Tail C → GroupOrSeal C → Moment → Type 0
IsLoadOpened format geometry tail load moment =
    HasLoad format geometry tail load moment × IsLoadClean format geometry tail load moment × HasOpenGate geometry tail moment

-- What is in flight is there and clean, and the tail's gate is open and clean.
abbrev pub IsLoadDurable : {C : Type 0} → CommandFormat C → Geometry → Tail C → GroupOrSeal C → Moment → Type 0
IsLoadDurable format geometry tail load moment =
    HasLoad format geometry tail load moment × IsLoadClean format geometry tail load moment × HasOpenGate geometry tail moment
    × AreCleanSectors geometry tail.half tail.gate 1 moment

-- The facts of each phase, beside the groups.
abbrev pub AtPhase : {C : Type 0} → Flush → CommandFormat C → Geometry → Tail C → GroupOrSeal C → Moment → Type 0
AtPhase Resting format geometry tail load moment = HasClosedGate geometry tail moment
AtPhase Staged format geometry tail load moment = HasClosedGate geometry tail moment
AtPhase Written format geometry tail load moment = HasClosedGate geometry tail moment × HasLoad format geometry tail load moment
AtPhase Stable format geometry tail load moment =
    HasClosedGate geometry tail moment × HasLoad format geometry tail load moment × IsLoadClean format geometry tail load moment
AtPhase Opened format geometry tail load moment = IsLoadOpened format geometry tail load moment
AtPhase Doubtful format geometry tail load moment = HasLoad format geometry tail load moment × IsLoadClean format geometry tail load moment
AtPhase Durable format geometry tail load moment = IsLoadDurable format geometry tail load moment
AtPhase Following format geometry tail load moment = IsLoadOpened format geometry tail load moment
AtPhase Followed format geometry tail load moment = IsLoadOpened format geometry tail load moment
AtPhase DurableFollowed format geometry tail load moment = IsLoadDurable format geometry tail load moment

-- What the flusher relies on in each phase.
pub record FlusherPart {C : Type 0} (phase : Flush) (format : CommandFormat C) (limits : Limits) (geometry : Geometry) (tail : Tail C) (load : GroupOrSeal C)
    (moment : Moment) : Type 0 where
  -- The tail's groups are in its journal.
  pub groups : HasGroups format limits geometry tail moment
  -- What is in flight may be after the tail.
  pub can : CanBeLoad format limits geometry tail load
  -- The facts of the phase hold.
  pub facts : AtPhase phase format geometry tail load moment

-- The journal of an image, in the half that has the tail, has this reading.
abbrev pub JournalReadsAs : {C : Type 0} → CommandFormat C → Limits → Geometry → Tail C → List ℕ → Reading C → Type 0
JournalReadsAs format limits geometry tail image reading = IsJournal format limits (journal_of geometry tail.half image) tail.start reading

-- What the tail's journal in an image may read as: what is committed, or that with what is in
-- flight.
abbrev pub MayRead : {C : Type 0} → Flush → CommandFormat C → Limits → Geometry → Tail C → GroupOrSeal C → List ℕ → Type 0
MayRead Resting format limits geometry tail load image = JournalReadsAs format limits geometry tail image (without_load tail)
MayRead Staged format limits geometry tail load image = JournalReadsAs format limits geometry tail image (without_load tail)
MayRead Written format limits geometry tail load image = JournalReadsAs format limits geometry tail image (without_load tail)
MayRead Stable format limits geometry tail load image = JournalReadsAs format limits geometry tail image (without_load tail)
MayRead Opened format limits geometry tail load image =
    JournalReadsAs format limits geometry tail image (without_load tail) ⊎ JournalReadsAs format limits geometry tail image (with_load format tail load)
MayRead Doubtful format limits geometry tail load image =
    JournalReadsAs format limits geometry tail image (without_load tail) ⊎ JournalReadsAs format limits geometry tail image (with_load format tail load)
MayRead Durable format limits geometry tail load image = JournalReadsAs format limits geometry tail image (with_load format tail load)
MayRead Following format limits geometry tail load image =
    JournalReadsAs format limits geometry tail image (without_load tail) ⊎ JournalReadsAs format limits geometry tail image (with_load format tail load)
MayRead Followed format limits geometry tail load image =
    JournalReadsAs format limits geometry tail image (without_load tail) ⊎ JournalReadsAs format limits geometry tail image (with_load format tail load)
MayRead DurableFollowed format limits geometry tail load image = JournalReadsAs format limits geometry tail image (with_load format tail load)
