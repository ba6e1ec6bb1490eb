-- A journal: gates, and after each open gate a group or a seal. Gates count sectors from the
-- journal's start.
use Rattle.std.specs.Prelude.{◌≡◌, ℕ, ◌+◌, ◌*◌, ◌≤◌, Bool, true, false, List, [], ◌∷◌, ◌++◌, length}
use Rattle.byte_lists.specs.Content.{part}
use Rattle.byte_lists.specs.Sectors.{whole_sectors, sector_at, IsOpenGate}
use Rattle.byte_lists.specs.declared.format.TheConstants.{SECTOR}
use Rattle.store_layout.specs.Limits.{Limits}
use Rattle.store_layout.specs.CommandFormat.{CommandFormat}
use Rattle.store_layout.specs.Group.{group_sectors, JournalHasRoom, IsGroup, IsSeal}

-- The commands of groups, one group after the other.
abbrev pub all_of : {C : Type 0} → List (List C) → List C
all_of [] = []
all_of (commands ∷ more) = commands ++ all_of more

-- After a gate there is a group of these commands, and the journal has room for it.
pub record HasGroupAfterGate {C : Type 0} (format : CommandFormat C) (limits : Limits) (bytes : List ℕ) (gate place : ℕ) (commands : List C) : Type 0 where
  pub group : IsGroup format limits place commands (part (SECTOR * (gate + 1)) (SECTOR * group_sectors format commands) bytes)
  pub room : JournalHasRoom gate (group_sectors format commands) (whole_sectors bytes)

-- After a gate there is a seal.
pub record HasSeal (bytes : List ℕ) (gate place : ℕ) : Type 0 where
  pub seal : IsSeal place (sector_at (gate + 1) bytes)
  pub room : gate + 2 ≤ whole_sectors bytes

-- The gate after the group at a gate.
abbrev pub gate_behind : {C : Type 0} → CommandFormat C → ℕ → List C → ℕ
gate_behind format gate commands = gate + 1 + group_sectors format commands

-- From a gate to a later one all gates are open, and each is followed by its group at the place
-- reached.
abbrev pub IsGroupChain : {C : Type 0} → CommandFormat C → Limits → List ℕ → ℕ → ℕ → List (List C) → ℕ → Type 0
IsGroupChain format limits bytes gate place [] tail = gate ≡ tail
IsGroupChain format limits bytes gate place (commands ∷ more) tail =
    IsOpenGate (sector_at gate bytes)
    × HasGroupAfterGate format limits bytes gate place commands
    × IsGroupChain format limits bytes (gate_behind format gate commands) (place + length commands) more tail

-- A journal ends at a closed gate, or at an open one with a seal.
abbrev pub JournalEndsAs : Bool → List ℕ → ℕ → ℕ → Type 0
JournalEndsAs false bytes gate place = ¬ IsOpenGate (sector_at gate bytes)
JournalEndsAs true bytes gate place = IsOpenGate (sector_at gate bytes) × HasSeal bytes gate place

-- The reading of a journal.
pub record Reading (C : Type 0) : Type 0 where
  -- The commands of its groups.
  pub commands : List C
  -- The gate at which it ends.
  pub tail : ℕ
  -- Whether it is sealed.
  pub sealed : Bool
  -- The place reached.
  pub place : ℕ

-- The bytes are a journal from this place on, with this reading.
pub record IsJournal {C : Type 0} (format : CommandFormat C) (limits : Limits) (bytes : List ℕ) (start : ℕ) (reading : Reading C) : Type 0 where
  -- The groups of the journal.
  pub groups : List (List C)
  -- They follow each other from the first gate to the reading's last one.
  pub chain : IsGroupChain format limits bytes 0 start groups reading.tail
  -- The reading has their commands.
  pub commands : reading.commands ≡ all_of groups
  -- The place reached counts these commands.
  pub place : reading.place ≡ start + length reading.commands
  -- The journal ends as the reading says.
  pub ends : JournalEndsAs reading.sealed bytes reading.tail reading.place

-- The number of sectors that count for a reading: those up to its last gate, and after a seal those
-- of the seal.
abbrev pub sectors_to : Bool → ℕ → ℕ
sectors_to false tail = tail + 1
sectors_to true tail = tail + 2

-- The number of sectors that count for this reading.
abbrev pub sectors_read : {C : Type 0} → Reading C → ℕ
sectors_read reading = sectors_to reading.sealed reading.tail

-- A reading with one more group.
abbrev pub reading_with_group : {C : Type 0} → CommandFormat C → Reading C → List C → Reading C
reading_with_group format reading commands = record {
  commands = reading.commands ++ commands;
  tail = gate_behind format reading.tail commands;
  sealed = false;
  place = reading.place + length commands;
}

-- A reading that a seal ends.
abbrev pub reading_with_seal : {C : Type 0} → Reading C → Reading C
reading_with_seal reading = record reading { sealed = true }
