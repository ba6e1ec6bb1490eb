-- The scan returns exactly the journal of the bytes, and refuses them exactly where they are no
-- journal.
use Rattle.std.proofs.Common.{◌≡◌, ℕ, zero, suc, ◌+◌, ◌-◌, ◌<◌, ◌≤◌, Bool, true, false, List, [], ◌∷◌, ◌++◌, length, Ok, Err, Result, refl, ◌∙◌, ap, subst, arith, length-append}
use Rattle.byte_lists.specs.Content.{AreBytes}
use Rattle.byte_lists.specs.Sectors.{whole_sectors, sector_at, IsOpenGate, is_open_gate}
use Rattle.byte_lists.proofs.Padding.{true_open, false_open, open_true}
use Rattle.store_layout.specs.Limits.{Limits}
use Rattle.store_layout.specs.CommandFormat.{CommandFormat}
use Rattle.store_layout.specs.Group.{records_of, payload_sectors, group_sectors}
use Rattle.store_layout.specs.GroupReading.{JournalRefusal, Payload, Group, Seal, payload_at}
use Rattle.store_layout.specs.Journal.{all_of, HasGroupAfterGate, IsGroupChain, JournalEndsAs, Reading, IsJournal}
use Rattle.store_layout.specs.JournalReading.{with_front, at_gate, scan_from, journal_scan}
use Rattle.store_layout.specs.JournalRefusals.{IsRefusedAt, IsJournalRefused}
use Rattle.store_layout.specs.JournalLaws.{IsReadSo, IsRefusedSo, HasOneReading}
use Rattle.store_layout.proofs.Chains.{chain_forward, chain_room, chain_scan, journal_read}
use Rattle.store_layout.proofs.Inverse.{payload_from}
use Rattle.store_layout.proofs.Refused.{payload_refused, refused_payload}

-- a journal, or a refusal, from a gate on
record JournalFrom {C : Type 0} (format : CommandFormat C) (limits : Limits) (bytes : List ℕ) (gate start : ℕ) (reading : Reading C) : Type 0 where
  groups : List (List C)
  chain : IsGroupChain format limits bytes gate start groups reading.tail
  commands : reading.commands ≡ all_of groups
  place : reading.place ≡ start + length reading.commands
  ends_so : JournalEndsAs reading.sealed bytes reading.tail reading.place

record RefusedFrom {C : Type 0} (format : CommandFormat C) (limits : Limits) (bytes : List ℕ) (gate start : ℕ) (refusal : JournalRefusal) : Type 0 where
  groups : List (List C)
  last : ℕ
  chain : IsGroupChain format limits bytes gate start groups last
  opened : IsOpenGate (sector_at last bytes)
  wrong : IsRefusedAt refusal format limits bytes last (start + length (all_of groups))

-- the meaning of a result
abbrev Means : {C : Type 0} → Result (Reading C) JournalRefusal → CommandFormat C → Limits → List ℕ → ℕ → ℕ → Type 0
Means (Ok reading) format limits bytes gate start = JournalFrom format limits bytes gate start reading
Means (Err refusal) format limits bytes gate start = RefusedFrom format limits bytes gate start refusal

module _ {C : Type 0} (format : CommandFormat C) (limits : Limits) (bytes : List ℕ) (each : AreBytes bytes) where
  -- a group in front
  means_more : (gate start : ℕ) (commands : List C) (answer : Result (Reading C) JournalRefusal) → IsOpenGate (sector_at gate bytes) → HasGroupAfterGate format limits bytes gate start commands
      → Means answer format limits bytes (gate + 1 + group_sectors format commands) (start + length commands) → Means (with_front commands answer) format limits bytes gate start
  means_more gate start commands (Ok reading) opened has is = record {
    groups = commands ∷ is.groups;
    chain = (opened, has, is.chain);
    commands = ap (λ (list : List C). commands ++ list) is.commands;
    place = omega (arith, is.place, length-append commands reading.commands);
    ends_so = is.ends_so;
  }
  means_more gate start commands (Err refusal) opened has is =
      let on : start + length commands + length (all_of is.groups) ≡ start + length (commands ++ all_of is.groups) = omega (arith, length-append commands (all_of is.groups)) in
      record {
        groups = commands ∷ is.groups;
        last = is.last;
        chain = (opened, has, is.chain);
        opened = is.opened;
        wrong = subst (λ (n : ℕ). IsRefusedAt refusal format limits bytes is.last n) on is.wrong;
      }

  -- one gate
  gate_means : (steps gate start : ℕ) → gate < whole_sectors bytes → whole_sectors bytes ≤ gate + suc steps
      → ((next place : ℕ) → next < whole_sectors bytes → whole_sectors bytes ≤ next + steps → Means (scan_from steps format limits bytes next place) format limits bytes next place)
      → (b : Bool) (payload : Result (Payload C) JournalRefusal) → is_open_gate (sector_at gate bytes) ≡ b → payload_at format limits bytes gate start ≡ payload
      → Means (at_gate b payload (λ commands size. scan_from steps format limits bytes (gate + 1 + payload_sectors size) (start + length commands)) gate start) format limits bytes gate start
  gate_means steps gate start inside enough behind false payload is_so read_so =
      let here : start ≡ start + 0 = omega arith in
      record { groups = []; chain = refl; commands = refl; place = here; ends_so = false_open (sector_at gate bytes) is_so }
  gate_means steps gate start inside enough behind true (Err refusal) is_so read_so =
      let here : start ≡ start + 0 = omega arith in
      record {
        groups = [];
        last = gate;
        chain = refl;
        opened = true_open (sector_at gate bytes) is_so;
        wrong = subst (λ (n : ℕ). IsRefusedAt refusal format limits bytes gate n) here (payload_refused format limits bytes gate start refusal read_so);
      }
  gate_means steps gate start inside enough behind true (Ok Seal) is_so read_so =
      let here : start ≡ start + 0 = omega arith in
      record {
        groups = [];
        chain = refl;
        commands = refl;
        place = here;
        ends_so = (true_open (sector_at gate bytes) is_so, payload_from format limits bytes gate start each Seal read_so);
      }
  gate_means steps gate start inside enough behind true (Ok (Group commands size)) is_so read_so =
      let stands = payload_from format limits bytes gate start each (Group commands size) read_so in
      let has : HasGroupAfterGate format limits bytes gate start commands = stands.0 in
      let sized : size ≡ length (records_of format commands) = stands.1 in
      let room = has.room in
      means_more gate start commands (scan_from steps format limits bytes (gate + 1 + payload_sectors size) (start + length commands)) (true_open (sector_at gate bytes) is_so) has
      (
      subst (λ (n : ℕ). Means (scan_from steps format limits bytes (gate + 1 + payload_sectors size) (start + length commands)) format limits bytes (gate + 1 + payload_sectors n) (start + length commands))
      sized (behind (gate + 1 + payload_sectors size) (start + length commands) (omega arith) (omega arith))
      )

  scan_means : (steps gate start : ℕ) → gate < whole_sectors bytes → whole_sectors bytes ≤ gate + steps → Means (scan_from steps format limits bytes gate start) format limits bytes gate start
  scan_means zero gate start inside enough = absurd (omega arith)
  scan_means (suc steps) gate start inside enough =
      gate_means steps gate start inside enough (scan_means steps) (is_open_gate (sector_at gate bytes)) (payload_at format limits bytes gate start) refl refl

  -- the whole journal
  scanned : (start : ℕ) (answer : Result (Reading C) JournalRefusal) → 1 ≤ whole_sectors bytes → journal_scan format limits bytes start ≡ answer → Means answer format limits bytes 0 start
  scanned start answer some is = subst (λ (r : Result (Reading C) JournalRefusal). Means r format limits bytes 0 start) is (scan_means (whole_sectors bytes) 0 start (omega arith) (omega arith))

  pub read_journal : (start : ℕ) (reading : Reading C) → 1 ≤ whole_sectors bytes → journal_scan format limits bytes start ≡ Ok reading → IsJournal format limits bytes start reading
  read_journal start reading some is =
      let so = scanned start (Ok reading) some is in
      record { groups = so.groups; chain = so.chain; commands = so.commands; place = so.place; ends = so.ends_so }

  pub refused_journal : (start : ℕ) (refusal : JournalRefusal) → 1 ≤ whole_sectors bytes → journal_scan format limits bytes start ≡ Err refusal → IsJournalRefused format limits bytes start refusal
  refused_journal start refusal some is =
      let so = scanned start (Err refusal) some is in
      record { groups = so.groups; gate = so.last; chain = so.chain; opened = so.opened; wrong = so.wrong }

  pub journal_refused : (start : ℕ) (refusal : JournalRefusal) → 1 ≤ whole_sectors bytes → IsJournalRefused format limits bytes start refusal → journal_scan format limits bytes start ≡ Err refusal
  journal_refused start refusal some is =
      ap (λ (n : ℕ). scan_from n format limits bytes 0 start) steps
      ∙ chain_scan format limits bytes 0 start is.groups is.gate (suc rest) is.chain
      ∙ ap (λ (b : Bool). with_front (all_of is.groups) (at_gate b (payload_at format limits bytes is.gate reached) behind is.gate reached)) (open_true (sector_at is.gate bytes) is.opened)
      ∙ ap (λ (payload : Result (Payload C) JournalRefusal). with_front (all_of is.groups) (at_gate true payload behind is.gate reached))
      (refused_payload format limits bytes is.gate reached refusal each is.wrong)
    where
      reached : ℕ
      reached = start + length (all_of is.groups)

      rest : ℕ
      rest = whole_sectors bytes - length is.groups - 1

      behind : List C → ℕ → Result (Reading C) JournalRefusal
      behind commands size = scan_from rest format limits bytes (is.gate + 1 + payload_sectors size) (reached + length commands)

      steps : whole_sectors bytes ≡ length is.groups + suc rest
      steps = omega (arith, chain_forward format limits bytes 0 start is.groups is.gate is.chain, chain_room format limits bytes 0 start is.groups is.gate is.chain some)

pub is_read_so : (C : Type 0) → IsReadSo C
is_read_so C format limits bytes start reading each some = (read_journal format limits bytes each start reading some, journal_read format limits bytes start reading some)

pub is_refused_so : (C : Type 0) → IsRefusedSo C
is_refused_so C format limits bytes start refusal each some = (refused_journal format limits bytes each start refusal some, journal_refused format limits bytes each start refusal some)

pub has_one_reading : (C : Type 0) → HasOneReading C
has_one_reading C format limits bytes start one other some is_one is_other =
    let a = journal_read format limits bytes start one some is_one in
    let b = journal_read format limits bytes start other some is_other in
    cc
