-- A scanner wants no sector that does not count for the reading: for `scanner`.
use Rattle.std.proofs.Common.{◌≡◌, ℕ, zero, suc, ◌+◌, ◌-◌, ◌*◌, ◌≤◌, Bool, true, false, List, [], ◌++◌, length, drop, Ok, Err, Result, refl, sym, ◌∙◌, ap, subst, arith}
use Rattle.byte_lists.specs.Sectors.{whole_sectors, sector_at, is_open_gate}
use Rattle.byte_lists.proofs.Padding.{open_true}
use Rattle.path_db.specs.declared.command.Command.{Command}
use Rattle.store_layout.specs.Limits.{Limits, limits_of}
use Rattle.store_layout.specs.Group.{payload_sectors}
use Rattle.store_layout.specs.GroupReading.{JournalRefusal, Payload, payload_at}
use Rattle.store_layout.specs.GroupReading.{Group as IsGroupOf, Seal as IsSealOf}
use Rattle.store_layout.specs.Journal.{IsJournal, Reading, all_of, sectors_to, sectors_read}
use Rattle.store_layout.specs.JournalReading.{with_front, ends, at_gate, scan_from}
use Rattle.store_layout.proofs.Exports.{chain_forward, chain_scan, journal_read}
use Rattle.gate_journal.specs.declared.header.Header.{Header}
use Rattle.gate_journal.specs.declared.scanner.Stage.{Stage}
use Rattle.gate_journal.specs.declared.scanner.Stage.TheVariants.{AtGate, AtHeader, AtPayload}
use Rattle.gate_journal.specs.Commands.{command_format}
use Rattle.gate_journal.specs.Reading.{payload_reading}
use Rattle.gate_journal.specs.ScannerView.{ScannerView, IsInside}
use Rattle.gate_journal.specs.Scanning.{first_sector_of, count_of, first_wanted, count_wanted, IsKnown, IsReadUpTo, CountsForReading}
use Rattle.gate_journal.proofs.Payloads.{payload_is, as_group, behind_header}

-- the reading after commands
record IsBehind (answer : Result (Reading Command) JournalRefusal) (reading : Reading Command) : Type 0 where
  inner : Reading Command
  answered : answer ≡ Ok inner
  tail : inner.tail ≡ reading.tail
  sealed : inner.sealed ≡ reading.sealed

behind_front : (commands : List Command) (answer : Result (Reading Command) JournalRefusal) (reading : Reading Command) → with_front commands answer ≡ Ok reading → IsBehind answer reading
behind_front commands (Ok inner) reading is =
    let same : record inner { commands = commands ++ inner.commands } ≡ reading = cc in
    record { inner = inner; answered = refl; tail = ap (λ (r : Reading Command). r.tail) same; sealed = ap (λ (r : Reading Command). r.sealed) same }
behind_front commands (Err refusal) reading is = absurd cc

behind_end : (gate place : ℕ) (sealed : Bool) (reading : Reading Command) → ends {C = Command} gate place sealed ≡ Ok reading → (reading.tail ≡ gate) × (reading.sealed ≡ sealed)
behind_end gate place sealed reading is =
    let same : record { commands = []; tail = gate; sealed = sealed; place = place } ≡ reading = cc in
    (ap (λ (r : Reading Command). r.tail) (sym same), ap (λ (r : Reading Command). r.sealed) (sym same))

-- a scan goes forward
at_forward : (opened : Bool) (payload : Result (Payload Command) JournalRefusal) (more : List Command → ℕ → Result (Reading Command) JournalRefusal) (gate place : ℕ) (reading : Reading Command)
    → ((commands : List Command) (size : ℕ) (inner : Reading Command) → more commands size ≡ Ok inner → gate ≤ inner.tail)
    → at_gate opened payload more gate place ≡ Ok reading → gate ≤ reading.tail
at_forward false payload more gate place reading on is = omega (arith, (behind_end gate place false reading is).0)
at_forward true (Err refusal) more gate place reading on is = absurd cc
at_forward true (Ok IsSealOf) more gate place reading on is = omega (arith, (behind_end gate place true reading is).0)
at_forward true (Ok (IsGroupOf commands size)) more gate place reading on is =
    let b = behind_front commands (more commands size) reading is in
    omega (arith, on commands size b.inner b.answered, b.tail)

scan_forward : (limits : Limits) (bytes : List ℕ) (steps gate place : ℕ) (reading : Reading Command) → scan_from steps command_format limits bytes gate place ≡ Ok reading → gate ≤ reading.tail
scan_forward limits bytes zero gate place reading is = absurd cc
scan_forward limits bytes (suc steps) gate place reading is =
    at_forward (is_open_gate (sector_at gate bytes)) (payload_at command_format limits bytes gate place)
    (λ commands size. scan_from steps command_format limits bytes (gate + 1 + payload_sectors size) (place + length commands)) gate place reading
    (λ commands size inner found. omega (arith, scan_forward limits bytes steps (gate + 1 + payload_sectors size) (place + length commands) inner found)) is

at_least : (sealed : Bool) (tail : ℕ) → tail + 1 ≤ sectors_to sealed tail
at_least false tail = omega arith
at_least true tail = omega arith

module _ (limits : Limits) (bytes : List ℕ) (steps gate place : ℕ) where
  behind : List Command → ℕ → Result (Reading Command) JournalRefusal
  behind commands size = scan_from steps command_format limits bytes (gate + 1 + payload_sectors size) (place + length commands)

  -- where the gate is open, the sector after it counts
  header_counts : (payload : Result (Payload Command) JournalRefusal) (reading : Reading Command) → at_gate true payload behind gate place ≡ Ok reading → gate + 2 ≤ sectors_read reading
  unfolding behind
  header_counts (Err refusal) reading is = absurd cc
  header_counts (Ok IsSealOf) reading is =
      let end = behind_end gate place true reading is in
      subst (λ (b : Bool). gate + 2 ≤ sectors_to b reading.tail) (sym end.1) (omega (arith, end.0))
  header_counts (Ok (IsGroupOf commands size)) reading is =
      let b = behind_front commands (behind commands size) reading is in
      omega (arith, scan_forward limits bytes steps (gate + 1 + payload_sectors size) (place + length commands) b.inner b.answered, b.tail, at_least reading.sealed reading.tail)

  -- a group's payload counts
  payload_counts : (found : Result (List Command) JournalRefusal) (size : ℕ) (reading : Reading Command) → at_gate true (as_group found size) behind gate place ≡ Ok reading
      → gate + 1 + payload_sectors size ≤ sectors_read reading
  unfolding behind
  payload_counts (Err refusal) size reading is = absurd cc
  payload_counts (Ok commands) size reading is =
      let b = behind_front commands (behind commands size) reading is in
      omega (arith, scan_forward limits bytes steps (gate + 1 + payload_sectors size) (place + length commands) b.inner b.answered, b.tail, at_least reading.sealed reading.tail)

  -- the next piece counts, by what is known
  piece_counts : (stage : Stage) (reading : Reading Command) → IsKnown stage limits bytes gate place → IsInside stage (whole_sectors bytes) gate place
      → scan_from (suc steps) command_format limits bytes gate place ≡ Ok reading → first_sector_of stage gate + count_of stage ≤ sectors_read reading
  unfolding behind
  piece_counts AtGate reading known inside is = omega (arith, scan_forward limits bytes (suc steps) gate place reading is, at_least reading.sealed reading.tail)
  piece_counts AtHeader reading known inside is =
      let opened = ap (λ (b : Bool). at_gate b (payload_at command_format limits bytes gate place) behind gate place) (open_true (sector_at gate bytes) known) in
      omega (arith, header_counts (payload_at command_format limits bytes gate place) reading (sym opened ∙ is))
  piece_counts (AtPayload count size) reading known inside is =
      let p = drop (512 * (gate + 1)) bytes in
      let opened = ap (λ (b : Bool). at_gate b (payload_at command_format limits bytes gate place) behind gate place) (open_true (sector_at gate bytes) known.0) in
      let found : payload_at command_format limits bytes gate place ≡ as_group (payload_reading limits count size p) size =
      payload_is limits bytes gate place (omega (arith, inside.0)) ∙ ap (λ (r : Result Header JournalRefusal). behind_header r limits p) known.1 in
      payload_counts (payload_reading limits count size p) size reading
      (ap (λ (payload : Result (Payload Command) JournalRefusal). at_gate true payload behind gate place) (sym found) ∙ sym opened ∙ is)

same_sectors : (one other : Reading Command) → one.tail ≡ other.tail → one.sealed ≡ other.sealed → sectors_read one ≡ sectors_read other
same_sectors one other tail sealed =
    ap (λ (n : ℕ). sectors_to one.sealed n) tail ∙ ap (λ (b : Bool). sectors_to b other.tail) sealed

-- the piece that a scanner wants counts for the reading of each journal that it has read up to its
-- gate
pub piece_needed : (scanner : ScannerView) (bytes : List ℕ) (start : ℕ) (reading : Reading Command) → IsInside scanner.stage scanner.sectors scanner.gate scanner.place
    → scanner.gate + 1 ≤ scanner.sectors → IsReadUpTo scanner bytes start → IsJournal command_format (limits_of scanner.version) bytes start reading
    → first_wanted scanner + count_wanted scanner ≤ sectors_read reading
piece_needed scanner bytes start reading inside room is journal =
    let limits = limits_of scanner.version in
    let forward = chain_forward command_format limits bytes 0 start is.groups scanner.gate is.chain in
    let rest = whole_sectors bytes - length is.groups - 1 in
    let steps : whole_sectors bytes ≡ length is.groups + suc rest = omega (arith, forward, is.size, room) in
    let read = journal_read command_format limits bytes start reading (omega (arith, is.size, room)) journal in
    let split = ap (λ (n : ℕ). scan_from n command_format limits bytes 0 start) steps ∙ chain_scan command_format limits bytes 0 start is.groups scanner.gate (suc rest) is.chain in
    let b = behind_front (all_of is.groups) (scan_from (suc rest) command_format limits bytes scanner.gate (start + length (all_of is.groups))) reading (sym split ∙ read) in
    let here = subst (λ (n : ℕ). scan_from (suc rest) command_format limits bytes scanner.gate n ≡ Ok b.inner) (sym is.place) b.answered in
    let counts = piece_counts limits bytes rest scanner.gate scanner.place scanner.stage b.inner is.known
    (subst (λ (n : ℕ). IsInside scanner.stage n scanner.gate scanner.place) (sym is.size) inside) here in
    omega (arith, counts, same_sectors b.inner reading b.tail b.sealed)

room_of : (stage : Stage) (sectors gate place : ℕ) → IsInside stage sectors gate place → gate + 1 ≤ sectors
room_of AtGate sectors gate place inside = inside
room_of AtHeader sectors gate place inside = omega (arith, inside)
room_of (AtPayload count size) sectors gate place inside = omega (arith, inside.0)

-- the same of a scanner that is seen as another, at a stage
pub stage_needed : (view self : ScannerView) (stage : Stage) (sectors : ℕ) → view ≡ self → IsInside view.stage view.sectors view.gate view.place → view.stage ≡ stage
    → sectors ≡ first_sector_of stage view.gate + count_of stage → CountsForReading self sectors
stage_needed view self stage sectors same inside turn counted =
    subst (λ (v : ScannerView). CountsForReading v sectors) same (λ bytes start reading is journal.
    let needed = piece_needed view bytes start reading inside (room_of view.stage view.sectors view.gate view.place inside) is journal in
    let here = subst (λ (s : Stage). first_sector_of s view.gate + count_of s ≤ sectors_read reading) turn needed in
    subst (λ (n : ℕ). n ≤ sectors_read reading) (sym counted) here)
