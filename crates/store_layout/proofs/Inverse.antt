-- What is read is there: the result of the scan is the journal of the bytes.
use Rattle.std.proofs.Common.{◌≡◌, ℕ, zero, suc, ◌+◌, ◌-◌, ◌*◌, ◌≤◌, Bool, true, false, cond, eqb, leb, List, [], ◌∷◌, ◌++◌, length, take, drop, get_or, replicate, Some, None, Option, Ok, Result, refl, sym, ◌∙◌, ap, subst, arith, length-drop, append_assoc, take-append-drop, get_or-drop, eqb-true, leb-true}
use Rattle.std.proofs.lemmas.List.{take_at, drop-drop, drop_more}
use Rattle.std.proofs.lemmas.Bool.{and_parts}
use Rattle.std.specs.Int.{w32, w64, to_be_bytes}
use Rattle.std.specs.List.{AllByRecursion}
use Rattle.byte_lists.specs.Content.{AreBytes, part}
use Rattle.byte_lists.specs.Sectors.{sectors_of, whole_sectors}
use Rattle.byte_lists.proofs.Contents.{length-part, bytes-part}
use Rattle.byte_lists.proofs.BigEndian.{encoded-four_at, encoded-eight_at}
use Rattle.byte_lists.proofs.Padding.{length-padded}
use Rattle.store_layout.specs.Limits.{Limits}
use Rattle.store_layout.specs.CommandFormat.{CommandFormat, IsAllowed}
use Rattle.store_layout.specs.Group.{records_of, with_header, group_encoding, seal_encoding, payload_sectors, group_sectors, CanBeGroup, IsGroup, IsSeal}
use Rattle.store_layout.specs.GroupReading.{JournalRefusal, BadRecord, Gap, PastEnd, refuse_unless, count_in, size_in, place_in, IsGroupHeader, IsSealHeader, is_group_header, is_seal_header, record_size, first_command, with_first, none_left, commands_in, are_zeros, Payload, Group, Seal, group_of, Kind, OfGroup, OfSeal, OfNone, header_kind, group_in, seal_in, by_kind, payload_at}
use Rattle.store_layout.specs.Journal.{HasGroupAfterGate, HasSeal}
use Rattle.store_layout.proofs.Groups.{group_header_from, seal_header_from}

bytes-drop : (n : ℕ) (bytes : List ℕ) → AreBytes bytes → AreBytes (drop n bytes)
bytes-drop n bytes each i = omega (arith, get_or-drop n bytes i 0, each (n + i))

-- a test that was passed
some_if : {X : Type 0} (b : Bool) (found : Option X) (x : X) → cond b found None ≡ Some x → (b ≡ true) × (found ≡ Some x)
some_if true found x is = (refl, is)
some_if false found x is = cc

pub check_passed : {X : Type 0} (b : Bool) (refusal : JournalRefusal) (behind : Result X JournalRefusal) (x : X) → refuse_unless b refusal behind ≡ Ok x → (b ≡ true) × (behind ≡ Ok x)
check_passed true refusal behind x is = (refl, is)
check_passed false refusal behind x is = cc

-- zeros are zeros
zeros_from : (bytes : List ℕ) → are_zeros bytes ≡ true → bytes ≡ replicate (length bytes) 0
zeros_from [] is = refl
zeros_from (byte ∷ more) is =
    let parts = and_parts _ _ is in
    ap (λ (b : ℕ). b ∷ more) (eqb-true _ _ parts.0) ∙ ap (λ (list : List ℕ). 0 ∷ list) (zeros_from more parts.1)

no_bytes : {C : Type 0} (bytes : List ℕ) (commands : List C) → none_left bytes ≡ Some commands → (bytes ≡ []) × (commands ≡ [])
no_bytes [] commands is = (refl, cc)
no_bytes (byte ∷ more) commands is = cc

-- bytes are the records of this number of commands, each of which is allowed
record AreRecords {C : Type 0} (format : CommandFormat C) (limits : Limits) (bytes : List ℕ) (count : ℕ) (commands : List C) : Type 0 where
  spelled : bytes ≡ records_of format commands
  counted : length commands ≡ count
  allowed : AllByRecursion (IsAllowed format limits) commands

-- the first command, and those after it
record IsFirst {C : Type 0} (first : Option C) (others : Option (List C)) (commands : List C) : Type 0 where
  command : C
  more : List C
  first_is : first ≡ Some command
  more_is : others ≡ Some more
  joined : commands ≡ command ∷ more

is_first : {C : Type 0} (first : Option C) (others : Option (List C)) (commands : List C) → with_first first others ≡ Some commands → IsFirst first others commands
is_first None others commands is = cc
is_first (Some command) None commands is = cc
is_first (Some command) (Some more) commands is = record { command = command; more = more; first_is = refl; more_is = refl; joined = cc }

module _ {C : Type 0} (format : CommandFormat C) (limits : Limits) where
  -- one record in front
  record_from : (bytes : List ℕ) (command : C) → AreBytes bytes → first_command format limits bytes ≡ Some command
      → (bytes ≡ (to_be_bytes w32 (length (format.encoding command)) ++ format.encoding command) ++ drop (4 + record_size bytes) bytes) × IsAllowed format limits command
  record_from bytes command each is = (
    sym (
        append_assoc (to_be_bytes w32 (length (format.encoding command))) (format.encoding command) (drop (4 + size) bytes)
        ∙ ap (λ (list : List ℕ). to_be_bytes w32 (length (format.encoding command)) ++ (list ++ drop (4 + size) bytes)) same
        ∙ ap (λ (list : List ℕ). to_be_bytes w32 (length (format.encoding command)) ++ (part 4 size bytes ++ list)) (sym (drop-drop size 4 bytes))
        ∙ ap (λ (list : List ℕ). to_be_bytes w32 (length (format.encoding command)) ++ list) (take-append-drop size (drop 4 bytes))
        ∙ ap (λ (n : ℕ). to_be_bytes w32 n ++ drop 4 bytes) (ap length same ∙ length-part 4 size bytes whole)
        ∙ ap (λ (list : List ℕ). list ++ drop 4 bytes) (encoded-four_at 0 bytes each (omega (arith, whole)))
        ∙ take-append-drop 4 bytes
        ),
    ap (format.decoding limits) same ∙ found,
  )
    where
      size : ℕ
      size = record_size bytes

      both : (leb (4 + size) (length bytes) ≡ true) × (format.decoding limits (part 4 size bytes) ≡ Some command)
      both = some_if (leb (4 + size) (length bytes)) (format.decoding limits (part 4 size bytes)) command is

      whole : 4 + size ≤ length bytes
      whole = leb-true (4 + size) (length bytes) both.0

      found : format.decoding limits (part 4 size bytes) ≡ Some command
      found = both.1

      same : format.encoding command ≡ part 4 size bytes
      same = format.spelled limits (part 4 size bytes) command (bytes-part 4 size bytes each) found

  records_from : (count : ℕ) (bytes : List ℕ) (commands : List C) → AreBytes bytes → commands_in format limits count bytes ≡ Some commands → AreRecords format limits bytes count commands
  records_from zero bytes commands each is =
      let none = no_bytes bytes commands is in
      record {
        spelled = none.0 ∙ ap (records_of format) (sym none.1);
        counted = ap length none.1;
        allowed = subst (AllByRecursion (IsAllowed format limits)) (sym none.1) tt;
      }
  records_from (suc count) bytes commands each is =
      let parts = is_first (first_command format limits bytes) (commands_in format limits count (drop (4 + record_size bytes) bytes)) commands is in
      let one = record_from bytes parts.command each parts.first_is in
      let behind = records_from count (drop (4 + record_size bytes) bytes) parts.more (bytes-drop (4 + record_size bytes) bytes each) parts.more_is in
      record {
        spelled = one.0 ∙ ap (λ (list : List ℕ). (to_be_bytes w32 (length (format.encoding parts.command)) ++ format.encoding parts.command) ++ list) behind.spelled
            ∙ ap (records_of format) (sym parts.joined);
        counted = ap length parts.joined ∙ ap suc behind.counted;
        allowed = subst (AllByRecursion (IsAllowed format limits)) (sym parts.joined) (one.1, behind.allowed);
      }

-- the encoding of the sixteen bytes in front
header_spelled : (p : List ℕ) → AreBytes p → 16 ≤ length p → get_or p 2 0 ≡ 0 → get_or p 3 0 ≡ 0 → p ≡ with_header (get_or p 0 0) (count_in p) (size_in p) (place_in p) (drop 16 p)
header_spelled p each long third fourth =
    drop_more p 0 0 (omega arith)
    ∙ ap (λ (list : List ℕ). get_or p 0 0 ∷ list) (drop_more p 1 0 (omega arith))
    ∙ ap (λ (list : List ℕ). get_or p 0 0 ∷ get_or p 1 0 ∷ list) (drop_more p 2 0 (omega arith))
    ∙ ap (λ (byte : ℕ). get_or p 0 0 ∷ get_or p 1 0 ∷ byte ∷ drop 3 p) third
    ∙ ap (λ (list : List ℕ). get_or p 0 0 ∷ get_or p 1 0 ∷ 0 ∷ list) (drop_more p 3 0 (omega arith))
    ∙ ap (λ (byte : ℕ). get_or p 0 0 ∷ get_or p 1 0 ∷ 0 ∷ byte ∷ drop 4 p) fourth
    ∙ ap (λ (list : List ℕ). get_or p 0 0 ∷ get_or p 1 0 ∷ 0 ∷ 0 ∷ list) four
    ∙ ap (λ (list : List ℕ). get_or p 0 0 ∷ get_or p 1 0 ∷ 0 ∷ 0 ∷ (to_be_bytes w32 (size_in p) ++ list)) eight
  where
    four : drop 4 p ≡ to_be_bytes w32 (size_in p) ++ drop 8 p
    four =
        sym (take-append-drop 4 (drop 4 p)) ∙ ap (λ (list : List ℕ). part 4 4 p ++ list) (drop-drop 4 4 p)
        ∙ ap (λ (list : List ℕ). list ++ drop 8 p) (sym (encoded-four_at 4 p each (omega arith)))

    eight : drop 8 p ≡ to_be_bytes w64 (place_in p) ++ drop 16 p
    eight =
        sym (take-append-drop 8 (drop 8 p)) ∙ ap (λ (list : List ℕ). part 8 8 p ++ list) (drop-drop 8 8 p)
        ∙ ap (λ (list : List ℕ). list ++ drop 16 p) (sym (encoded-eight_at 8 p each (omega arith)))

-- two parts, and the rest
in_parts : (at n m : ℕ) (p : List ℕ) → drop at p ≡ (part at n p ++ part (at + n) m p) ++ drop (at + n + m) p
in_parts at n m p =
    sym (
    append_assoc (part at n p) (part (at + n) m p) (drop (at + n + m) p)
    ∙ ap (λ (list : List ℕ). part at n p ++ (part (at + n) m p ++ list)) (sym (drop-drop m (at + n) p))
    ∙ ap (λ (list : List ℕ). part at n p ++ list) (take-append-drop m (drop (at + n) p))
    ∙ ap (λ (list : List ℕ). part at n p ++ list) (sym (drop-drop n at p))
    ∙ take-append-drop n (drop at p)
    )

group_found : {C : Type 0} (found : Option (List C)) (size : ℕ) (commands : List C) (n : ℕ) → group_of found size ≡ Ok (Group commands n) → (found ≡ Some commands) × (n ≡ size)
group_found None size commands n is = cc
group_found (Some read) size commands n is = (cc, cc)

no_seal_found : {C : Type 0} (found : Option (List C)) (size : ℕ) → group_of found size ≡ Ok Seal → ⊥
no_seal_found None size is = cc
no_seal_found (Some read) size is = cc

-- a group that was read
module _ {C : Type 0} (format : CommandFormat C) (limits : Limits) (place : ℕ) (p : List ℕ) (each : AreBytes p) (header : IsGroupHeader limits p) (there : place_in p ≡ place)
    (inside : 512 * payload_sectors (size_in p) ≤ length p) where
  pub group_from : (commands : List C) (n : ℕ) → group_in format limits p ≡ Ok (Group commands n)
      → IsGroup format limits place commands (take (512 * group_sectors format commands) p) × (n ≡ length (records_of format commands))
  group_from commands n is = (record { can = can; spelled = whole }, (group_found found size commands n passed.1).1 ∙ sized)
    where
      size : ℕ
      size = size_in p

      pad : ℕ
      pad = 512 * payload_sectors size - (16 + size)

      found : Option (List C)
      found = commands_in format limits (count_in p) (part 16 size p)

      passed : (are_zeros (part (16 + size) pad p) ≡ true) × (group_of found size ≡ Ok (Group commands n))
      passed = check_passed (are_zeros (part (16 + size) pad p)) BadRecord (group_of found size) (Group commands n) is

      records : AreRecords format limits (part 16 size p) (count_in p) commands
      records = records_from format limits (count_in p) (part 16 size p) commands (bytes-part 16 size p each) (group_found found size commands n passed.1).0

      sized : size ≡ length (records_of format commands)
      sized = sym (length-part 16 size p (omega arith)) ∙ ap length records.spelled

      zeros : part (16 + size) pad p ≡ replicate pad 0
      zeros = zeros_from (part (16 + size) pad p) passed.0 ∙ ap (λ (k : ℕ). replicate k 0) (length-part (16 + size) pad p (omega arith))

      can : CanBeGroup format limits place commands
      can = record {
        some = omega (arith, header.some, records.counted);
        most = omega (arith, header.most, records.counted);
        short = omega (arith, header.short, sized);
        last = omega (arith, header.last, records.counted, there);
        allowed = records.allowed;
      }

      behind : List ℕ
      behind = drop (16 + size + pad) p

      front : p ≡ with_header 1 (length commands) (length (records_of format commands)) place (records_of format commands ++ replicate pad 0) ++ behind
      front =
          header_spelled p each (omega arith) header.third header.fourth
          ∙ ap (λ (kind : ℕ). with_header kind (count_in p) size (place_in p) (drop 16 p)) header.kind
          ∙ ap (λ (count : ℕ). with_header 1 count size (place_in p) (drop 16 p)) (sym records.counted)
          ∙ ap (λ (m : ℕ). with_header 1 (length commands) m (place_in p) (drop 16 p)) sized
          ∙ ap (λ (m : ℕ). with_header 1 (length commands) (length (records_of format commands)) m (drop 16 p)) there
          ∙ ap (λ (list : List ℕ). with_header 1 (length commands) (length (records_of format commands)) place list) (in_parts 16 size pad p)
          ∙ ap (λ (list : List ℕ). with_header 1 (length commands) (length (records_of format commands)) place ((list ++ part (16 + size) pad p) ++ behind)) records.spelled
          ∙ ap (λ (list : List ℕ). with_header 1 (length commands) (length (records_of format commands)) place ((records_of format commands ++ list) ++ behind)) zeros

      padding : pad ≡ 512 * sectors_of (length (with_header 1 (length commands) (length (records_of format commands)) place (records_of format commands)))
          - length (with_header 1 (length commands) (length (records_of format commands)) place (records_of format commands))
      padding = omega (arith, sized)

      spelled : with_header 1 (length commands) (length (records_of format commands)) place (records_of format commands ++ replicate pad 0) ≡ group_encoding format place commands
      spelled = ap (λ (k : ℕ). with_header 1 (length commands) (length (records_of format commands)) place (records_of format commands ++ replicate k 0)) padding

      long : length (group_encoding format place commands) ≡ 512 * group_sectors format commands
      long = length-padded (with_header 1 (length commands) (length (records_of format commands)) place (records_of format commands)) ∙ omega arith

      whole : take (512 * group_sectors format commands) p ≡ group_encoding format place commands
      whole =
          ap (take (512 * group_sectors format commands)) (front ∙ ap (λ (list : List ℕ). list ++ behind) spelled)
          ∙ take_at (group_encoding format place commands) behind (512 * group_sectors format commands) long

-- a seal that was read
seal_from : (place : ℕ) (p : List ℕ) → AreBytes p → IsSealHeader p → place_in p ≡ place → 512 ≤ length p → are_zeros (part 16 496 p) ≡ true → IsSeal place (take 512 p)
seal_from place p each header there inside is = record { last = omega (arith, header.last, there); spelled = ap (take 512) front ∙ take_at (seal_encoding place) (drop 512 p) 512 refl }
  where
    none : count_in p ≡ 0
    none = omega (arith, header.most)

    empty : size_in p ≡ 0
    empty = omega (arith, header.short)

    zeros : part 16 496 p ≡ replicate 496 0
    zeros = zeros_from (part 16 496 p) is ∙ ap (λ (k : ℕ). replicate k 0) (length-part 16 496 p (omega arith))

    front : p ≡ seal_encoding place ++ drop 512 p
    front =
        header_spelled p each (omega arith) header.third header.fourth
        ∙ ap (λ (kind : ℕ). with_header kind (count_in p) (size_in p) (place_in p) (drop 16 p)) header.kind
        ∙ ap (λ (count : ℕ). with_header 2 count (size_in p) (place_in p) (drop 16 p)) none
        ∙ ap (λ (m : ℕ). with_header 2 0 m (place_in p) (drop 16 p)) empty
        ∙ ap (λ (m : ℕ). with_header 2 0 0 m (drop 16 p)) there
        ∙ ap (λ (list : List ℕ). with_header 2 0 0 place list) (sym (take-append-drop 496 (drop 16 p)) ∙ ap (λ (list : List ℕ). part 16 496 p ++ list) (drop-drop 496 16 p))
        ∙ ap (λ (list : List ℕ). with_header 2 0 0 place (list ++ drop 512 p)) zeros

pub of_group : (a b : Bool) → cond a OfGroup (cond b OfSeal OfNone) ≡ OfGroup → a ≡ true
of_group true b is = refl
of_group false true is = cc
of_group false false is = cc

pub of_seal : (a b : Bool) → cond a OfGroup (cond b OfSeal OfNone) ≡ OfSeal → b ≡ true
of_seal true b is = cc
of_seal false true is = refl
of_seal false false is = cc

-- the meaning of a payload
abbrev pub StandsBehind : {C : Type 0} → Payload C → CommandFormat C → Limits → List ℕ → ℕ → ℕ → Type 0
StandsBehind (Group commands size) format limits bytes gate place = HasGroupAfterGate format limits bytes gate place commands × (size ≡ length (records_of format commands))
StandsBehind Seal format limits bytes gate place = HasSeal bytes gate place

module _ {C : Type 0} (format : CommandFormat C) (limits : Limits) (bytes : List ℕ) (gate place : ℕ) (each : AreBytes bytes) where
  -- a payload that was read
  by_kind_from : (kind : Kind) (v : Payload C) → gate + 2 ≤ whole_sectors bytes → header_kind limits (drop (512 * (gate + 1)) bytes) ≡ kind
      → by_kind kind format limits (drop (512 * (gate + 1)) bytes) gate place (whole_sectors bytes) ≡ Ok v → StandsBehind v format limits bytes gate place
  by_kind_from OfNone v room kind is = cc
  by_kind_from OfSeal (Group commands n) room kind is =
      let p = drop (512 * (gate + 1)) bytes in
      let one = check_passed (eqb (place_in p) place) (Gap place) (seal_in p) (Group commands n) is in
      let two = check_passed (are_zeros (part 16 496 p)) BadRecord (Ok Seal) (Group commands n) one.1 in
      let never = two.1 in
      cc
  by_kind_from OfSeal Seal room kind is =
      let p = drop (512 * (gate + 1)) bytes in
      let one = check_passed {X = Payload C} (eqb (place_in p) place) (Gap place) (seal_in p) Seal is in
      let two = check_passed {X = Payload C} (are_zeros (part 16 496 p)) BadRecord (Ok Seal) Seal one.1 in
      let long : length p ≡ length bytes - 512 * (gate + 1) = length-drop (512 * (gate + 1)) bytes in
      record {
        seal = seal_from place p (bytes-drop (512 * (gate + 1)) bytes each) (seal_header_from p (of_seal (is_group_header limits p) (is_seal_header p) kind))
            (eqb-true (place_in p) place one.0) (omega arith) two.0;
        room = room;
      }
  by_kind_from OfGroup v room kind is = by_group v (check_passed (leb (gate + 1 + payload_sectors (size_in p) + 2) (whole_sectors bytes)) PastEnd (group_in format limits p) v one.1)
    where
      p : List ℕ
      p = drop (512 * (gate + 1)) bytes

      one : (eqb (place_in p) place ≡ true) × (refuse_unless (leb (gate + 1 + payload_sectors (size_in p) + 2) (whole_sectors bytes)) PastEnd (group_in format limits p) ≡ Ok v)
      one = check_passed (eqb (place_in p) place) (Gap place) (refuse_unless (leb (gate + 1 + payload_sectors (size_in p) + 2) (whole_sectors bytes)) PastEnd (group_in format limits p)) v is

      by_group : (w : Payload C) → (leb (gate + 1 + payload_sectors (size_in p) + 2) (whole_sectors bytes) ≡ true) × (group_in format limits p ≡ Ok w) → StandsBehind w format limits bytes gate place
      by_group Seal two =
          let three = check_passed {X = Payload C} (are_zeros (part (16 + size_in p) (512 * payload_sectors (size_in p) - (16 + size_in p)) p)) BadRecord
          (group_of (commands_in format limits (count_in p) (part 16 (size_in p) p)) (size_in p)) Seal two.1 in
          absurd (no_seal_found (commands_in format limits (count_in p) (part 16 (size_in p) p)) (size_in p) three.1)
      by_group (Group commands n) two =
          let fits : gate + 1 + payload_sectors (size_in p) + 2 ≤ whole_sectors bytes = leb-true _ _ two.0 in
          let long : length p ≡ length bytes - 512 * (gate + 1) = length-drop (512 * (gate + 1)) bytes in
          let header = group_header_from limits p (of_group (is_group_header limits p) (is_seal_header p) kind) in
          let read = group_from format limits place p (bytes-drop (512 * (gate + 1)) bytes each) header (eqb-true (place_in p) place one.0) (omega arith) commands n two.1 in
          let three = group_found (commands_in format limits (count_in p) (part 16 (size_in p) p)) (size_in p) commands n
          (check_passed (are_zeros (part (16 + size_in p) (512 * payload_sectors (size_in p) - (16 + size_in p)) p)) BadRecord
          (group_of (commands_in format limits (count_in p) (part 16 (size_in p) p)) (size_in p)) (Group commands n) two.1).1 in
          let same : size_in p ≡ length (records_of format commands) = sym three.1 ∙ read.1 in
          (record { group = read.0; room = subst (λ (m : ℕ). gate + 1 + payload_sectors m + 2 ≤ whole_sectors bytes) same fits }, read.1)

  pub payload_from : (v : Payload C) → payload_at format limits bytes gate place ≡ Ok v → StandsBehind v format limits bytes gate place
  payload_from v is =
      let p = drop (512 * (gate + 1)) bytes in
      let one = check_passed (leb (gate + 2) (whole_sectors bytes)) PastEnd (by_kind (header_kind limits p) format limits p gate place (whole_sectors bytes)) v is in
      by_kind_from (header_kind limits p) v (leb-true _ _ one.0) refl one.1
