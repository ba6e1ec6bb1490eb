-- What a piece of a journal leads to: for `scanner`.
use Rattle.std.proofs.Common.{◌≡◌, ◌≢◌, ℕ, ◌+◌, ◌*◌, ◌≤◌, true, List, [], ◌∷◌, ◌++◌, length, drop, Ok, Err, Result, refl, sym, ◌∙◌, ap, subst, arith, length-append}
use Rattle.byte_lists.specs.Content.{AreBytes, part}
use Rattle.byte_lists.specs.Sectors.{whole_sectors, sector_at, IsOpenGate}
use Rattle.path_db.specs.declared.command.Command.{Command}
use Rattle.store_layout.specs.Limits.{Limits, limits_of}
use Rattle.store_layout.specs.Group.{payload_sectors, group_sectors}
use Rattle.store_layout.specs.GroupReading.{JournalRefusal, Payload, payload_at}
use Rattle.store_layout.specs.GroupReading.{Group as IsGroupOf, Seal as IsSealOf}
use Rattle.store_layout.specs.Journal.{IsGroupChain, IsJournal, HasGroupAfterGate, all_of}
use Rattle.store_layout.specs.JournalRefusals.{IsJournalRefused, IsRefusedAt}
use Rattle.store_layout.proofs.Exports.{payload_from, payload_refused, chain_more, all_of_more}
use Rattle.gate_journal.specs.declared.error.JournalError.{JournalError}
use Rattle.gate_journal.specs.declared.error.JournalError.TheVariants.{NoMemory, BadHeader, BadRecord, Gap, PastEnd}
use Rattle.gate_journal.specs.declared.header.Header.{Header}
use Rattle.gate_journal.specs.declared.header.Header.TheVariants.{Group, Seal}
use Rattle.gate_journal.specs.declared.scanner.Scan.{Scan}
use Rattle.gate_journal.specs.declared.scanner.Stage.{Stage}
use Rattle.gate_journal.specs.declared.scanner.Stage.TheVariants.{AtGate, AtHeader, AtPayload}
use Rattle.gate_journal.specs.declared.scanner.Progress.TheVariants.{More, Done}
use Rattle.gate_journal.specs.Commands.{command_format}
use Rattle.gate_journal.specs.Reading.{Refuses, header_reading, payload_reading, PayloadWantsMemory}
use Rattle.gate_journal.specs.ScannerView.{ScannerView, IsInside}
use Rattle.gate_journal.specs.Scanning.{reading_of, first_sector_of, count_of, HasPiece, IsKnown, IsReadUpTo, MayWantMemory, MeansError, TakesPiece}
use Rattle.gate_journal.proofs.Payloads.{payload_is, front_payload, as_group, behind_header, payload_counted}

-- the scan reports the scanner's gate, with a seal there
pub record EndsSealed (scanner : ScannerView) (scan : Scan) : Type 0 where
  pub commands : scan.commands.items ≡ scanner.commands
  pub tail : scan.tail ≡ scanner.gate
  pub sealed : scan.sealed ≡ true
  pub place : scan.place ≡ scanner.place

module _ (scanner : ScannerView) (bytes : List ℕ) (start : ℕ) (each : AreBytes bytes) (is : IsReadUpTo scanner bytes start) (opened : IsOpenGate (sector_at scanner.gate bytes)) where
  abbrev limits : Limits
  limits = limits_of scanner.version

  abbrev behind : Result (Payload Command) JournalRefusal
  behind = payload_at command_format limits bytes scanner.gate scanner.place

  -- what is after the gate is refused
  refused_here : (refusal : JournalRefusal) → behind ≡ Err refusal → IsJournalRefused command_format limits bytes start refusal
  refused_here refusal wrong = record {
    groups = is.groups;
    gate = scanner.gate;
    chain = is.chain;
    opened = opened;
    wrong = subst (λ (n : ℕ). IsRefusedAt refusal command_format limits bytes scanner.gate n) is.place
        (payload_refused command_format limits bytes scanner.gate scanner.place refusal wrong);
  }

  -- it is a seal
  sealed_here : (scan : Scan) → EndsSealed scanner scan → behind ≡ Ok IsSealOf → IsJournal command_format limits bytes start (reading_of scan)
  sealed_here scan end found =
      let seal = payload_from command_format limits bytes scanner.gate scanner.place each IsSealOf found in
      record {
        groups = is.groups;
        chain = subst (λ (n : ℕ). IsGroupChain command_format limits bytes 0 start is.groups n) (sym end.tail) is.chain;
        commands = end.commands ∙ is.commands;
        place = end.place ∙ is.place ∙ ap (λ (list : List Command). start + length list) (sym (end.commands ∙ is.commands));
        ends = rw (end.sealed, end.tail, end.place) (opened, seal);
      }

  -- it is a group
  group_here : (found : List Command) (size count : ℕ) (next : ScannerView) → behind ≡ Ok (IsGroupOf found size) → length found ≡ count
      → next.sectors ≡ scanner.sectors → next.version ≡ scanner.version → next.gate ≡ scanner.gate + 1 + payload_sectors size
      → next.place ≡ scanner.place + count → next.stage ≡ AtGate → next.commands ≡ scanner.commands ++ found → IsReadUpTo next bytes start
  group_here found size count next read counted sectors version gate place stage commands =
      let group = payload_from command_format limits bytes scanner.gate scanner.place each (IsGroupOf found size) read in
      let has = subst (λ (n : ℕ). HasGroupAfterGate command_format limits bytes scanner.gate n found) is.place group.0 in
      let longer = chain_more command_format limits bytes 0 start is.groups scanner.gate found is.chain opened has in
      let all = all_of_more command_format limits is.groups found in
      let here : next.gate ≡ scanner.gate + 1 + group_sectors command_format found = gate ∙ ap (λ (n : ℕ). scanner.gate + 1 + payload_sectors n) group.1 in
      record {
        size = is.size ∙ sym sectors;
        groups = is.groups ++ found ∷ [];
        chain = rw (version, here) longer;
        commands = commands ∙ ap (λ (list : List Command). list ++ found) is.commands ∙ sym all;
        place = omega (arith, place, is.place, counted, ap length all, length-append (all_of is.groups) found);
        known = rw stage tt;
      }

-- an error of a reading is one of another that refuses the same
refuses_on : {X Y : Type 0} (e : JournalError) (one : Result X JournalRefusal) (other : Result Y JournalRefusal)
    → ((refusal : JournalRefusal) → one ≡ Err refusal → other ≡ Err refusal) → Refuses e one → Refuses e other
refuses_on NoMemory one other on is = tt
refuses_on BadHeader one other on is = on _ is
refuses_on BadRecord one other on is = on _ is
refuses_on (Gap place) one other on is = on _ is
refuses_on PastEnd one other on is = on _ is

-- what an error means
means : (e : JournalError) (scanner : ScannerView) (bytes : List ℕ) (start : ℕ) → AreBytes bytes → IsReadUpTo scanner bytes start → IsOpenGate (sector_at scanner.gate bytes)
    → Refuses e (payload_at command_format (limits_of scanner.version) bytes scanner.gate scanner.place)
    → (e ≡ NoMemory → MayWantMemory (limits_of scanner.version) bytes start) → MeansError e (limits_of scanner.version) bytes start
means NoMemory scanner bytes start each is opened refused wants = wants refl
means BadHeader scanner bytes start each is opened refused wants = refused_here scanner bytes start each is opened _ refused
means BadRecord scanner bytes start each is opened refused wants = refused_here scanner bytes start each is opened _ refused
means (Gap place) scanner bytes start each is opened refused wants = refused_here scanner bytes start each is opened _ refused
means PastEnd scanner bytes start each is opened refused wants = refused_here scanner bytes start each is opened _ refused

-- ---- the first sector of a payload

module _ (scanner : ScannerView) (piece : List ℕ) (turn : scanner.stage ≡ AtHeader) (inside : scanner.gate + 2 ≤ scanner.sectors) where
  header_known : (bytes : List ℕ) (start : ℕ) → IsReadUpTo scanner bytes start → IsOpenGate (sector_at scanner.gate bytes)
  header_known bytes start is = subst (λ (s : Stage). IsKnown s (limits_of scanner.version) bytes scanner.gate scanner.place) turn is.known

  header_here : (bytes : List ℕ) (start : ℕ) → IsReadUpTo scanner bytes start → HasPiece scanner bytes piece
      → header_reading (limits_of scanner.version) (sector_at (scanner.gate + 1) bytes) scanner.gate scanner.place (whole_sectors bytes)
      ≡ header_reading (limits_of scanner.version) piece scanner.gate scanner.place scanner.sectors
  header_here bytes start is has =
      let same : sector_at (scanner.gate + 1) bytes ≡ piece = subst (λ (s : Stage). part (512 * first_sector_of s scanner.gate) (512 * count_of s) bytes ≡ piece) turn has in
      ap (λ (sector : List ℕ). header_reading (limits_of scanner.version) sector scanner.gate scanner.place (whole_sectors bytes)) same
      ∙ ap (λ (n : ℕ). header_reading (limits_of scanner.version) piece scanner.gate scanner.place n) is.size

  header_leads : (bytes : List ℕ) (start : ℕ) → IsReadUpTo scanner bytes start → HasPiece scanner bytes piece
      → payload_at command_format (limits_of scanner.version) bytes scanner.gate scanner.place
      ≡ behind_header (header_reading (limits_of scanner.version) piece scanner.gate scanner.place scanner.sectors) (limits_of scanner.version) (drop (512 * (scanner.gate + 1)) bytes)
  header_leads bytes start is has =
      payload_is (limits_of scanner.version) bytes scanner.gate scanner.place (omega (arith, is.size))
      ∙ ap (λ (r : Result Header JournalRefusal). behind_header r (limits_of scanner.version) (drop (512 * (scanner.gate + 1)) bytes)) (header_here bytes start is has)

  pub header_refused : (e : JournalError) → e ≢ NoMemory → Refuses e (header_reading (limits_of scanner.version) piece scanner.gate scanner.place scanner.sectors)
      → TakesPiece scanner piece (Err e)
  header_refused e isnt refused = record {
    leads = λ bytes start each is has.
        means e scanner bytes start each is (header_known bytes start is)
        (refuses_on e (header_reading (limits_of scanner.version) piece scanner.gate scanner.place scanner.sectors)
        (payload_at command_format (limits_of scanner.version) bytes scanner.gate scanner.place)
        (λ refusal wrong. header_leads bytes start is has
        ∙ ap (λ (r : Result Header JournalRefusal). behind_header r (limits_of scanner.version) (drop (512 * (scanner.gate + 1)) bytes)) wrong)
        refused)
        (λ same. absurd (isnt same));
    on = tt;
  }

  pub header_of_seal : (scan : Scan) → EndsSealed scanner scan → header_reading (limits_of scanner.version) piece scanner.gate scanner.place scanner.sectors ≡ Ok Seal
      → TakesPiece scanner piece (Ok (Done scan))
  header_of_seal scan end read = record {
    leads = λ bytes start each is has.
        sealed_here scanner bytes start each is (header_known bytes start is) scan end
        (header_leads bytes start is has
        ∙ ap (λ (r : Result Header JournalRefusal). behind_header r (limits_of scanner.version) (drop (512 * (scanner.gate + 1)) bytes)) read);
    on = tt;
  }

  pub header_of_group : (count size : ℕ) (next : ScannerView) → header_reading (limits_of scanner.version) piece scanner.gate scanner.place scanner.sectors ≡ Ok (Group count size)
      → next ≡ record scanner { stage = AtPayload count size } → TakesPiece scanner piece (Ok (More next))
  header_of_group count size next read same = subst (λ (v : ScannerView). TakesPiece scanner piece (Ok (More v))) (sym same) (record {
    leads = λ bytes start each is has. record {
      size = is.size;
      groups = is.groups;
      chain = is.chain;
      commands = is.commands;
      place = is.place;
      known = (header_known bytes start is, header_here bytes start is has ∙ read);
    };
    on = (refl, refl, rw turn (omega arith));
  })

-- ---- the whole payload of a group

module _ (scanner : ScannerView) (piece : List ℕ) (count size : ℕ) (turn : scanner.stage ≡ AtPayload count size) (inside : IsInside (AtPayload count size) scanner.sectors scanner.gate scanner.place) where
  payload_known : (bytes : List ℕ) (start : ℕ) → IsReadUpTo scanner bytes start → IsKnown (AtPayload count size) (limits_of scanner.version) bytes scanner.gate scanner.place
  payload_known bytes start is = subst (λ (s : Stage). IsKnown s (limits_of scanner.version) bytes scanner.gate scanner.place) turn is.known

  payload_here : (bytes : List ℕ) → HasPiece scanner bytes piece → part (512 * (scanner.gate + 1)) (512 * payload_sectors size) bytes ≡ piece
  payload_here bytes has = subst (λ (s : Stage). part (512 * first_sector_of s scanner.gate) (512 * count_of s) bytes ≡ piece) turn has

  payload_leads : (bytes : List ℕ) (start : ℕ) → IsReadUpTo scanner bytes start → HasPiece scanner bytes piece
      → payload_at command_format (limits_of scanner.version) bytes scanner.gate scanner.place ≡ as_group (payload_reading (limits_of scanner.version) count size piece) size
  payload_leads bytes start is has =
      let p = drop (512 * (scanner.gate + 1)) bytes in
      payload_is (limits_of scanner.version) bytes scanner.gate scanner.place (omega (arith, is.size, inside.0))
      ∙ ap (λ (r : Result Header JournalRefusal). behind_header r (limits_of scanner.version) p) (payload_known bytes start is).1
      ∙ ap (λ (r : Result (List Command) JournalRefusal). as_group r size)
      (sym (front_payload (limits_of scanner.version) count size p) ∙ ap (payload_reading (limits_of scanner.version) count size) (payload_here bytes has))

  pub payload_was_refused : (e : JournalError) → Refuses e (payload_reading (limits_of scanner.version) count size piece)
      → (e ≡ NoMemory → PayloadWantsMemory (limits_of scanner.version) size piece) → TakesPiece scanner piece (Err e)
  payload_was_refused e refused wants = record {
    leads = λ bytes start each is has.
        means e scanner bytes start each is (payload_known bytes start is).0
        (refuses_on e (payload_reading (limits_of scanner.version) count size piece)
        (payload_at command_format (limits_of scanner.version) bytes scanner.gate scanner.place)
        (λ refusal wrong. payload_leads bytes start is has ∙ ap (λ (r : Result (List Command) JournalRefusal). as_group r size) wrong)
        refused)
        (λ same. record {
          groups = is.groups;
          gate = scanner.gate;
          chain = is.chain;
          opened = (payload_known bytes start is).0;
          count = count;
          size = size;
          header = ap (λ (n : ℕ). header_reading (limits_of scanner.version) (sector_at (scanner.gate + 1) bytes) scanner.gate n (whole_sectors bytes)) (sym is.place)
              ∙ (payload_known bytes start is).1;
          payload = subst (λ (list : List ℕ). PayloadWantsMemory (limits_of scanner.version) size list) (sym (payload_here bytes has)) (wants same);
        });
    on = tt;
  }

  pub payload_was_read : (found : List Command) (next : ScannerView) → payload_reading (limits_of scanner.version) count size piece ≡ Ok found
      → next.sectors ≡ scanner.sectors → next.version ≡ scanner.version → next.gate ≡ scanner.gate + 1 + payload_sectors size
      → next.place ≡ scanner.place + count → next.stage ≡ AtGate → next.commands ≡ scanner.commands ++ found → TakesPiece scanner piece (Ok (More next))
  payload_was_read found next read sectors version gate place stage commands = record {
    leads = λ bytes start each is has.
        group_here scanner bytes start each is (payload_known bytes start is).0 found size count next
        (payload_leads bytes start is has ∙ ap (λ (r : Result (List Command) JournalRefusal). as_group r size) read)
        (payload_counted (limits_of scanner.version) count size piece found read) sectors version gate place stage commands;
    on = (sectors, version, rw (turn, stage) (omega (arith, sectors, gate, inside.0)));
  }
