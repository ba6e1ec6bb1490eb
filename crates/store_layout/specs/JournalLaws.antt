-- Laws of journals in any format of commands. Each statement is the contract of a function.
use Rattle.std.specs.Prelude.{◌≡◌, ◌↔◌, ℕ, ◌+◌, ◌*◌, ◌<◌, ◌≤◌, false, List, ◌++◌, length, take, Ok, Err}
use Rattle.std.specs.List.{AllByRecursion}
use Rattle.byte_lists.specs.Content.{AreBytes, overwrite}
use Rattle.byte_lists.specs.Sectors.{whole_sectors, sector_at, IsOpenGate}
use Rattle.byte_lists.specs.declared.format.TheConstants.{SECTOR}
use Rattle.store_layout.specs.Limits.{Limits, AreAsLarge}
use Rattle.store_layout.specs.CommandFormat.{CommandFormat, IsAllowed}
use Rattle.store_layout.specs.Group.{last_place, group_encoding, seal_encoding, group_sectors, JournalHasRoom, CanBeGroup}
use Rattle.store_layout.specs.Journal.{HasGroupAfterGate, HasSeal, Reading, IsJournal, sectors_read, gate_behind, reading_with_group, reading_with_seal}
use Rattle.store_layout.specs.GroupReading.{JournalRefusal}
use Rattle.store_layout.specs.JournalReading.{journal_scan}
use Rattle.store_layout.specs.JournalRefusals.{IsJournalRefused}

-- Bytes are read as a journal exactly where they are one.
abbrev pub IsReadSo : Type 0 → Type 0
IsReadSo C =
    (format : CommandFormat C) (limits : Limits) (bytes : List ℕ) (start : ℕ) (reading : Reading C)
    → AreBytes bytes → 1 ≤ whole_sectors bytes
    → (journal_scan format limits bytes start ≡ Ok reading) ↔ IsJournal format limits bytes start reading

-- Bytes are refused exactly where the definition of the refusal holds.
abbrev pub IsRefusedSo : Type 0 → Type 0
IsRefusedSo C =
    (format : CommandFormat C) (limits : Limits) (bytes : List ℕ) (start : ℕ) (refusal : JournalRefusal)
    → AreBytes bytes → 1 ≤ whole_sectors bytes
    → (journal_scan format limits bytes start ≡ Err refusal) ↔ IsJournalRefused format limits bytes start refusal

-- A journal has at most one reading.
abbrev pub HasOneReading : Type 0 → Type 0
HasOneReading C =
    (format : CommandFormat C) (limits : Limits) (bytes : List ℕ) (start : ℕ) (one other : Reading C) → 1 ≤ whole_sectors bytes
    → IsJournal format limits bytes start one → IsJournal format limits bytes start other → one ≡ other

-- A reading depends on the sectors that count for it, whatever bytes are after them.
abbrev pub GoesByItsFront : Type 0 → Type 0
GoesByItsFront C =
    (format : CommandFormat C) (limits : Limits) (xs ys : List ℕ) (start : ℕ) (reading : Reading C) → length xs ≡ length ys
    → take (SECTOR * sectors_read reading) xs ≡ take (SECTOR * sectors_read reading) ys
    → IsJournal format limits xs start reading → IsJournal format limits ys start reading

-- A write after the sectors that count leaves the journal unchanged.
abbrev pub IsKeptByWritesBehind : Type 0 → Type 0
IsKeptByWritesBehind C =
    (format : CommandFormat C) (limits : Limits) (bytes : List ℕ) (start : ℕ) (reading : Reading C) (at : ℕ) (behind : List ℕ)
    → IsJournal format limits bytes start reading → SECTOR * sectors_read reading ≤ at → at + length behind ≤ length bytes
    → IsJournal format limits (overwrite at behind bytes) start reading

-- The bounds of a reading.
pub record IsWithinBounds {C : Type 0} (format : CommandFormat C) (limits : Limits) (bytes : List ℕ) (start : ℕ) (reading : Reading C) : Type 0 where
  -- The last gate is one of the journal's sectors.
  pub tail : reading.tail < whole_sectors bytes
  -- The journal has room for a seal after it, where it has two sectors at all.
  pub seal : 2 ≤ whole_sectors bytes → reading.tail + 2 ≤ whole_sectors bytes
  -- The place is at most the last place, where the first one was.
  pub place : start ≤ last_place → reading.place ≤ last_place
  -- All commands are allowed.
  pub allowed : AllByRecursion (IsAllowed format limits) reading.commands

-- A journal's reading is within its bounds.
abbrev pub StaysWithinBounds : Type 0 → Type 0
StaysWithinBounds C =
    (format : CommandFormat C) (limits : Limits) (bytes : List ℕ) (start : ℕ) (reading : Reading C) → 1 ≤ whole_sectors bytes
    → IsJournal format limits bytes start reading → IsWithinBounds format limits bytes start reading

-- The payloads of groups and of seals are whole sectors.
abbrev pub FillsSectors : Type 0 → Type 0
FillsSectors C =
    (format : CommandFormat C) (place : ℕ) (commands : List C)
    → length (group_encoding format place commands) ≡ SECTOR * group_sectors format commands

-- A journal without a seal, in which a group and then a closed gate are written after the tail's
-- gate.
pub record IsReadyFor {C : Type 0} (format : CommandFormat C) (limits : Limits) (bytes : List ℕ) (reading : Reading C) (group : List C) : Type 0 where
  pub unsealed : reading.sealed ≡ false
  pub has : HasGroupAfterGate format limits bytes reading.tail reading.place group
  pub closed : ¬ IsOpenGate (sector_at (gate_behind format reading.tail group) bytes)

-- Once a group and a gate that is not open are written after the tail's gate, the journal is
-- unchanged, and ready for the group.
abbrev pub IsMadeReady : Type 0 → Type 0
IsMadeReady C =
    (format : CommandFormat C) (limits : Limits) (bytes : List ℕ) (start : ℕ) (reading : Reading C) (group : List C) (gate : List ℕ)
    → IsJournal format limits bytes start reading → reading.sealed ≡ false
    → CanBeGroup format limits reading.place group → JournalHasRoom reading.tail (group_sectors format group) (whole_sectors bytes)
    → length gate ≡ SECTOR → ¬ IsOpenGate gate
    → let written = overwrite (SECTOR * (reading.tail + 1)) (group_encoding format reading.place group ++ gate) bytes in
    IsJournal format limits written start reading × IsReadyFor format limits written reading group

-- Once a seal is written after the tail's gate, the journal is unchanged, and ready for the seal.
abbrev pub IsMadeReadyForSeal : Type 0 → Type 0
IsMadeReadyForSeal C =
    (format : CommandFormat C) (limits : Limits) (bytes : List ℕ) (start : ℕ) (reading : Reading C)
    → IsJournal format limits bytes start reading → reading.sealed ≡ false
    → reading.place ≤ last_place → reading.tail + 2 ≤ whole_sectors bytes
    → let written = overwrite (SECTOR * (reading.tail + 1)) (seal_encoding reading.place) bytes in
    IsJournal format limits written start reading × HasSeal written reading.tail reading.place

-- The tail's gate is written with any bytes. Where these open it, the journal has exactly one more
-- group. Otherwise the journal is unchanged.
abbrev pub GrowsByItsGate : Type 0 → Type 0
GrowsByItsGate C =
    (format : CommandFormat C) (limits : Limits) (bytes : List ℕ) (start : ℕ) (reading : Reading C) (group : List C) (gate : List ℕ)
    → IsJournal format limits bytes start reading → IsReadyFor format limits bytes reading group → length gate ≡ SECTOR
    → let written = overwrite (SECTOR * reading.tail) gate bytes in
    (IsOpenGate gate → IsJournal format limits written start (reading_with_group format reading group))
    × (¬ IsOpenGate gate → IsJournal format limits written start reading)

-- The tail's gate is written with any bytes, where a seal is after it. Where these bytes open it,
-- the journal is sealed. Otherwise the journal is unchanged.
abbrev pub IsSealedByItsGate : Type 0 → Type 0
IsSealedByItsGate C =
    (format : CommandFormat C) (limits : Limits) (bytes : List ℕ) (start : ℕ) (reading : Reading C) (gate : List ℕ)
    → IsJournal format limits bytes start reading → reading.sealed ≡ false → HasSeal bytes reading.tail reading.place → length gate ≡ SECTOR
    → let written = overwrite (SECTOR * reading.tail) gate bytes in
    (IsOpenGate gate → IsJournal format limits written start (reading_with_seal reading))
    × (¬ IsOpenGate gate → IsJournal format limits written start reading)

-- Commands that smaller limits allow are allowed by larger limits.
abbrev pub IsReadUnderLargerLimits : Type 0 → Type 0
IsReadUnderLargerLimits C =
    (format : CommandFormat C) (small large : Limits) (bytes : List ℕ) (start : ℕ) (reading : Reading C) → AreAsLarge small large
    → IsJournal format small bytes start reading → IsJournal format large bytes start reading
