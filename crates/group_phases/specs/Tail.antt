-- Where the flusher is in the journal that has the tail, and what it has in flight.
use Rattle.std.specs.Prelude.{ℕ, ◌+◌, ◌≤◌, false, List, [], ◌∷◌, ◌++◌, length}
use Rattle.byte_lists.specs.Sectors.{closed_gate}
use Rattle.store_layout.specs.declared.half.Half.{Half}
use Rattle.store_layout.specs.Limits.{Limits}
use Rattle.store_layout.specs.CommandFormat.{CommandFormat}
use Rattle.store_layout.specs.Group.{last_place, group_encoding, seal_encoding, group_sectors, JournalHasRoom, CanBeGroup}
use Rattle.store_layout.specs.Journal.{all_of, Reading, gate_behind, reading_with_group, reading_with_seal}
use Rattle.store_layout.specs.Layout.{Geometry}

-- What is in flight: a group of commands, or a seal.
pub data GroupOrSeal (C : Type 0) : Type 0 where
  Commands : (commands : List C) → GroupOrSeal C
  Seal : GroupOrSeal C

-- The commands in flight: none where a seal is.
abbrev pub group_commands : {C : Type 0} → GroupOrSeal C → List C
group_commands (Commands commands) = commands
group_commands Seal = []

-- The payload of what is in flight, at a place.
abbrev pub payload_of : {C : Type 0} → CommandFormat C → ℕ → GroupOrSeal C → List ℕ
payload_of format place (Commands commands) = group_encoding format place commands
payload_of format place Seal = seal_encoding place

-- The number of sectors of that payload.
abbrev pub load_sectors : {C : Type 0} → CommandFormat C → GroupOrSeal C → ℕ
load_sectors format (Commands commands) = group_sectors format commands
load_sectors format Seal = 1

-- The bytes of one write after the tail's gate: the payload, and after a group the closed gate that
-- follows it.
abbrev pub load_bytes : {C : Type 0} → CommandFormat C → ℕ → GroupOrSeal C → List ℕ
load_bytes format place (Commands commands) = group_encoding format place commands ++ closed_gate
load_bytes format place Seal = seal_encoding place

-- The number of sectors of that write.
abbrev pub written_sectors : {C : Type 0} → CommandFormat C → GroupOrSeal C → ℕ
written_sectors format (Commands commands) = group_sectors format commands + 1
written_sectors format Seal = 1

-- Where the tail is.
pub record Tail (C : Type 0) : Type 0 where
  -- The half that has the tail.
  pub half : Half
  -- The place of the first command of its journal.
  pub start : ℕ
  -- The groups of the journal.
  pub groups : List (List C)
  -- The gate after them, in sectors from the journal's start.
  pub gate : ℕ

-- The place that the tail reaches.
abbrev pub tail_place : {C : Type 0} → Tail C → ℕ
tail_place tail = tail.start + length (all_of tail.groups)

-- What may be in flight after the tail: a group that may be at that place and has room, or a seal,
-- which always has room.
abbrev pub CanBeLoad : {C : Type 0} → CommandFormat C → Limits → Geometry → Tail C → GroupOrSeal C → Type 0
CanBeLoad format limits geometry tail (Commands commands) =
    CanBeGroup format limits (tail_place tail) commands × JournalHasRoom tail.gate (group_sectors format commands) geometry.journal
CanBeLoad format limits geometry tail Seal = tail_place tail ≤ last_place

-- The reading of the tail's journal without what is in flight.
abbrev pub without_load : {C : Type 0} → Tail C → Reading C
without_load tail = record { commands = all_of tail.groups; tail = tail.gate; sealed = false; place = tail_place tail }

-- The reading of the tail's journal with what is in flight.
abbrev pub with_load : {C : Type 0} → CommandFormat C → Tail C → GroupOrSeal C → Reading C
with_load format tail (Commands commands) = reading_with_group format (without_load tail) commands
with_load format tail Seal = reading_with_seal (without_load tail)

-- The tail with one group more.
abbrev pub tail_after : {C : Type 0} → CommandFormat C → Tail C → List C → Tail C
tail_after format tail commands = record tail { groups = tail.groups ++ commands ∷ []; gate = gate_behind format tail.gate commands }
