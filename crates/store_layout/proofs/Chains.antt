-- How a journal is read: the reading depends on the bytes up to its end, one more group makes it
-- longer, and the scan returns it.
use Rattle.std.proofs.Common.{◌≡◌, ℕ, suc, ◌+◌, ◌-◌, ◌*◌, ◌<◌, ◌≤◌, Bool, true, false, List, [], ◌∷◌, ◌++◌, length, get_or, Ok, Err, Result, refl, sym, ◌∙◌, ap, subst, arith, length-append, append_assoc}
use Rattle.std.proofs.lemmas.List.{append-nil}
use Rattle.byte_lists.specs.Content.{part}
use Rattle.byte_lists.specs.Sectors.{whole_sectors, sector_at, IsOpenGate}
use Rattle.byte_lists.proofs.Contents.{same_part}
use Rattle.byte_lists.proofs.Padding.{open_true, open_false}
use Rattle.store_layout.specs.Limits.{Limits}
use Rattle.store_layout.specs.CommandFormat.{CommandFormat}
use Rattle.store_layout.specs.Group.{payload_sectors, group_sectors}
use Rattle.store_layout.specs.GroupReading.{JournalRefusal, Payload, payload_at}
use Rattle.store_layout.specs.Journal.{all_of, HasGroupAfterGate, IsGroupChain, JournalEndsAs, Reading, IsJournal}
use Rattle.store_layout.specs.JournalReading.{with_front, ends, at_gate, scan_from, journal_scan}
use Rattle.store_layout.proofs.Groups.{payload_group, payload_seal}

-- two contents of the same length that agree up to a sector
abbrev pub AgreeBefore : List ℕ → List ℕ → ℕ → Type 0
AgreeBefore xs ys sector = (i : ℕ) → i < 512 * sector → get_or xs i 0 ≡ get_or ys i 0

-- a part that ends where the contents agree
pub part_agrees : (xs ys : List ℕ) (sector from sectors : ℕ) → length xs ≡ length ys → AgreeBefore xs ys sector → from + sectors ≤ sector
    → part (512 * from) (512 * sectors) xs ≡ part (512 * from) (512 * sectors) ys
part_agrees xs ys sector from sectors size agree inside = same_part (512 * from) (512 * sectors) xs ys size (λ i low high. agree i (omega arith))

pub sector_agrees : (xs ys : List ℕ) (sector from : ℕ) → length xs ≡ length ys → AgreeBefore xs ys sector → from < sector → sector_at from xs ≡ sector_at from ys
sector_agrees xs ys sector from size agree inside = same_part (512 * from) 512 xs ys size (λ i low high. agree i (omega arith))

module _ {C : Type 0} (format : CommandFormat C) (limits : Limits) where
  -- a chain goes forward, and where it has groups the journal has room after it
  pub chain_forward : (bytes : List ℕ) (gate place : ℕ) (groups : List (List C)) (tail : ℕ) → IsGroupChain format limits bytes gate place groups tail → gate + length groups ≤ tail
  chain_forward bytes gate place [] tail chain = omega (arith, chain)
  chain_forward bytes gate place (commands ∷ more) tail chain =
      omega (arith, chain_forward bytes (gate + 1 + group_sectors format commands) (place + length commands) more tail chain.2)

  pub chain_room : (bytes : List ℕ) (gate place : ℕ) (groups : List (List C)) (tail : ℕ) → IsGroupChain format limits bytes gate place groups tail → gate < whole_sectors bytes → tail < whole_sectors bytes
  chain_room bytes gate place [] tail chain room = omega (arith, chain)
  chain_room bytes gate place (commands ∷ more) tail chain room =
      let here = chain.1.room in
      chain_room bytes (gate + 1 + group_sectors format commands) (place + length commands) more tail chain.2 (omega arith)

  -- a chain depends on the bytes before its end
  pub chain_agrees : (xs ys : List ℕ) (gate place : ℕ) (groups : List (List C)) (tail : ℕ) → length xs ≡ length ys → AgreeBefore xs ys tail
      → IsGroupChain format limits xs gate place groups tail → IsGroupChain format limits ys gate place groups tail
  chain_agrees xs ys gate place [] tail size agree chain = chain
  chain_agrees xs ys gate place (commands ∷ more) tail size agree chain =
      let on : gate + 1 + group_sectors format commands + length more ≤ tail = chain_forward xs (gate + 1 + group_sectors format commands) (place + length commands) more tail chain.2 in
      let same : part (512 * (gate + 1)) (512 * group_sectors format commands) ys ≡ part (512 * (gate + 1)) (512 * group_sectors format commands) xs =
      sym (part_agrees xs ys tail (gate + 1) (group_sectors format commands) size agree (omega arith)) in
      let here = chain.1.room in (
        subst IsOpenGate (sector_agrees xs ys tail gate size agree (omega arith)) chain.0,
        record { group = record { can = chain.1.group.can; spelled = same ∙ chain.1.group.spelled }; room = omega arith },
        chain_agrees xs ys (gate + 1 + group_sectors format commands) (place + length commands) more tail size agree chain.2,
      )

  -- one group more
  pub chain_more : (bytes : List ℕ) (gate place : ℕ) (groups : List (List C)) (tail : ℕ) (commands : List C) → IsGroupChain format limits bytes gate place groups tail
      → IsOpenGate (sector_at tail bytes) → HasGroupAfterGate format limits bytes tail (place + length (all_of groups)) commands
      → IsGroupChain format limits bytes gate place (groups ++ commands ∷ []) (tail + 1 + group_sectors format commands)
  chain_more bytes gate place [] tail commands chain opened has =
      let here : place + 0 ≡ place = omega arith in
      subst (λ (g : ℕ). IsGroupChain format limits bytes g place (commands ∷ []) (tail + 1 + group_sectors format commands)) (sym chain)
      (opened, subst (λ (n : ℕ). HasGroupAfterGate format limits bytes tail n commands) here has, refl)
  chain_more bytes gate place (first ∷ more) tail commands chain opened has =
      let on : place + length (first ++ all_of more) ≡ place + length first + length (all_of more) = omega (arith, length-append first (all_of more)) in (
        chain.0,
        chain.1,
        chain_more bytes (gate + 1 + group_sectors format first) (place + length first) more tail commands chain.2 opened
            (subst (λ (n : ℕ). HasGroupAfterGate format limits bytes tail n commands) on has),
      )

  pub all_of_more : (groups : List (List C)) (commands : List C) → all_of (groups ++ commands ∷ []) ≡ all_of groups ++ commands
  all_of_more [] commands = append-nil commands
  all_of_more (first ∷ more) commands = ap (λ (list : List C). first ++ list) (all_of_more more commands) ∙ sym (append_assoc first (all_of more) commands)

  with_none : (r : Result (Reading C) JournalRefusal) → with_front [] r ≡ r
  with_none (Ok j) = refl
  with_none (Err e) = refl

  with_both : (a b : List C) (r : Result (Reading C) JournalRefusal) → with_front (a ++ b) r ≡ with_front a (with_front b r)
  with_both a b (Ok j) = ap (λ (list : List C). let r : Result (Reading C) JournalRefusal = Ok (record j { commands = list }) in r) (append_assoc a b j.commands)
  with_both a b (Err e) = refl

  -- the result of reading after a group
  behind : ℕ → List ℕ → ℕ → ℕ → List C → ℕ → Result (Reading C) JournalRefusal
  behind steps bytes gate place commands size = scan_from steps format limits bytes (gate + 1 + payload_sectors size) (place + length commands)

  -- one group is read
  scan_group : (bytes : List ℕ) (gate place : ℕ) (commands : List C) (steps : ℕ) → IsOpenGate (sector_at gate bytes) → HasGroupAfterGate format limits bytes gate place commands
      → scan_from (suc steps) format limits bytes gate place ≡ with_front commands (scan_from steps format limits bytes (gate + 1 + group_sectors format commands) (place + length commands))
  unfolding behind
  scan_group bytes gate place commands steps opened has =
      ap (λ (b : Bool). at_gate b (payload_at format limits bytes gate place) (behind steps bytes gate place) gate place) (open_true (sector_at gate bytes) opened)
      ∙ ap (λ (p : Result (Payload C) JournalRefusal). at_gate true p (behind steps bytes gate place) gate place) (payload_group format limits bytes gate place commands has)

  -- reading continues after a chain
  pub chain_scan : (bytes : List ℕ) (gate place : ℕ) (groups : List (List C)) (tail rest : ℕ) → IsGroupChain format limits bytes gate place groups tail
      → scan_from (length groups + rest) format limits bytes gate place ≡ with_front (all_of groups) (scan_from rest format limits bytes tail (place + length (all_of groups)))
  chain_scan bytes gate place [] tail rest chain =
      let none : 0 + rest ≡ rest = omega arith in
      let here : place ≡ place + 0 = omega arith in
      ap (λ (n : ℕ). scan_from n format limits bytes gate place) none
      ∙ ap (λ (g : ℕ). scan_from rest format limits bytes g place) chain
      ∙ ap (λ (n : ℕ). scan_from rest format limits bytes tail n) here
      ∙ sym (with_none (scan_from rest format limits bytes tail (place + 0)))
  chain_scan bytes gate place (first ∷ more) tail rest chain =
      let steps : length (first ∷ more) + rest ≡ suc (length more + rest) = omega arith in
      let on : place + length first + length (all_of more) ≡ place + length (first ++ all_of more) = omega (arith, length-append first (all_of more)) in
      ap (λ (n : ℕ). scan_from n format limits bytes gate place) steps
      ∙ scan_group bytes gate place first (length more + rest) chain.0 chain.1
      ∙ ap (with_front first) (chain_scan bytes (gate + 1 + group_sectors format first) (place + length first) more tail rest chain.2)
      ∙ ap (λ (n : ℕ). with_front first (with_front (all_of more) (scan_from rest format limits bytes tail n))) on
      ∙ sym (with_both first (all_of more) (scan_from rest format limits bytes tail (place + length (first ++ all_of more))))

  -- the end of a journal is read
  pub end_scan : (bytes : List ℕ) (gate place steps : ℕ) (sealed : Bool) → JournalEndsAs sealed bytes gate place → scan_from (suc steps) format limits bytes gate place ≡ ends gate place sealed
  unfolding behind
  end_scan bytes gate place steps false closed =
      ap (λ (b : Bool). at_gate b (payload_at format limits bytes gate place) (behind steps bytes gate place) gate place) (open_false (sector_at gate bytes) closed)
  end_scan bytes gate place steps true end =
      ap (λ (b : Bool). at_gate b (payload_at format limits bytes gate place) (behind steps bytes gate place) gate place) (open_true (sector_at gate bytes) end.0)
      ∙ ap (λ (p : Result (Payload C) JournalRefusal). at_gate true p (behind steps bytes gate place) gate place) (payload_seal format limits bytes gate place end.1)

  -- a reading of these parts
  abbrev reading_of : List C → ℕ → Bool → ℕ → Result (Reading C) JournalRefusal
  reading_of commands tail sealed place = Ok (record { commands = commands; tail = tail; sealed = sealed; place = place })

  -- a journal is read
  pub journal_read : (bytes : List ℕ) (start : ℕ) (reading : Reading C) → 1 ≤ whole_sectors bytes → IsJournal format limits bytes start reading → journal_scan format limits bytes start ≡ Ok reading
  journal_read bytes start reading some is =
      ap (λ (n : ℕ). scan_from n format limits bytes 0 start) steps
      ∙ chain_scan bytes 0 start is.groups reading.tail (suc rest) is.chain
      ∙ ap (λ (n : ℕ). with_front (all_of is.groups) (scan_from (suc rest) format limits bytes reading.tail n)) (sym place)
      ∙ ap (with_front (all_of is.groups)) (end_scan bytes reading.tail reading.place rest reading.sealed is.ends)
      ∙ ap (λ (list : List C). reading_of list reading.tail reading.sealed reading.place) (append-nil (all_of is.groups) ∙ sym is.commands)
    where
      rest : ℕ
      rest = whole_sectors bytes - length is.groups - 1

      place : reading.place ≡ start + length (all_of is.groups)
      place = is.place ∙ ap (λ (list : List C). start + length list) is.commands

      steps : whole_sectors bytes ≡ length is.groups + suc rest
      steps = omega (arith, chain_forward bytes 0 start is.groups reading.tail is.chain, chain_room bytes 0 start is.groups reading.tail is.chain some)
