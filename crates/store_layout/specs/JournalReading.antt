-- The reading of a journal, as a function: the reading, or the first refusal.
use Rattle.std.specs.Prelude.{ℕ, zero, suc, ◌+◌, Bool, true, false, List, [], ◌++◌, length, Result, Ok, Err}
use Rattle.byte_lists.specs.Sectors.{whole_sectors, sector_at, is_open_gate}
use Rattle.store_layout.specs.Limits.{Limits}
use Rattle.store_layout.specs.CommandFormat.{CommandFormat}
use Rattle.store_layout.specs.Group.{payload_sectors}
use Rattle.store_layout.specs.GroupReading.{JournalRefusal, PastEnd, Payload, Group, Seal, payload_at}
use Rattle.store_layout.specs.Journal.{Reading}

-- A reading with these commands before its own.
abbrev pub with_front : {C : Type 0} → List C → Result (Reading C) JournalRefusal → Result (Reading C) JournalRefusal
with_front commands (Ok reading) = Ok (record reading { commands = commands ++ reading.commands })
with_front commands (Err refusal) = Err refusal

-- The reading of a journal that ends at this gate.
abbrev pub ends : {C : Type 0} → ℕ → ℕ → Bool → Result (Reading C) JournalRefusal
ends gate place sealed = Ok (record { commands = []; tail = gate; sealed = sealed; place = place })

-- The reading from a gate on, by whether the gate is open, the payload after it, and the reading
-- after a group.
abbrev pub at_gate : {C : Type 0} → Bool → Result (Payload C) JournalRefusal → (List C → ℕ → Result (Reading C) JournalRefusal) → ℕ → ℕ
    → Result (Reading C) JournalRefusal
at_gate false payload more gate place = ends gate place false
at_gate true (Err refusal) more gate place = Err refusal
at_gate true (Ok Seal) more gate place = ends gate place true
at_gate true (Ok (Group commands size)) more gate place = with_front commands (more commands size)

-- The reading of a journal from a gate on, where this place is expected, in this number of steps.
-- There are never more groups than sectors.
abbrev pub scan_from : {C : Type 0} → ℕ → CommandFormat C → Limits → List ℕ → ℕ → ℕ → Result (Reading C) JournalRefusal
scan_from zero format limits bytes gate place = Err PastEnd
scan_from (suc steps) format limits bytes gate place =
    at_gate (is_open_gate (sector_at gate bytes)) (payload_at format limits bytes gate place)
    (λ commands size. scan_from steps format limits bytes (gate + 1 + payload_sectors size) (place + length commands))
    gate place

-- The reading of the whole journal.
abbrev pub journal_scan : {C : Type 0} → CommandFormat C → Limits → List ℕ → ℕ → Result (Reading C) JournalRefusal
journal_scan format limits bytes place = scan_from (whole_sectors bytes) format limits bytes 0 place
