-- A payload is read by its first sector, and a group's by the sectors that the header promises.
use Rattle.std.proofs.Common.{◌≡◌, ℕ, zero, suc, ◌+◌, ◌-◌, ◌*◌, ◌≤◌, Bool, true, false, ◌&&◌, cond, eqb, leb, List, [], ◌∷◌, length, take, drop, get_or, Some, None, Option, Ok, Err, Result, refl, sym, ◌∙◌, ap, subst, arith, le-leb, leb-true, eqb-true}
use Rattle.std.proofs.lemmas.List.{drop-take, get_or-take}
use Rattle.std.specs.Int.{w32, w64, from_be_bytes}
use Rattle.byte_lists.specs.Content.{part}
use Rattle.byte_lists.specs.Sectors.{whole_sectors, sector_at}
use Rattle.path_db.specs.declared.command.Command.{Command}
use Rattle.store_layout.specs.Limits.{Limits}
use Rattle.store_layout.specs.Group.{payload_sectors, most_record_bytes, last_place, JournalHasRoom}
use Rattle.store_layout.specs.GroupReading.{JournalRefusal, BadHeader, BadRecord, Gap, PastEnd, refuse_unless, count_in, size_in, place_in, is_header, IsGroupHeader, is_group_header, is_seal_header, record_size, first_command, with_first, none_left, commands_in, are_zeros, Payload, OfGroup, OfSeal, OfNone, header_kind, group_of, group_in, by_kind, payload_at}
use Rattle.store_layout.specs.GroupReading.{Group as IsGroupOf, Seal as IsSealOf}
use Rattle.store_layout.proofs.Exports.{check_passed, group_header_from}
use Rattle.gate_journal.specs.declared.header.Header.{Header}
use Rattle.gate_journal.specs.declared.header.Header.TheVariants.{Group, Seal}
use Rattle.gate_journal.specs.Commands.{command_format}
use Rattle.gate_journal.specs.Reading.{found_in_records, header_reading, padding_of, payload_reading}

-- ---- parts of a front

take-take : (n k : ℕ) (xs : List ℕ) → n ≤ k → take n (take k xs) ≡ take n xs
take-take zero k xs few = refl
take-take (suc n) zero xs few = absurd (omega (arith, few))
take-take (suc n) (suc k) [] few = refl
take-take (suc n) (suc k) (x ∷ xs) few = ap (λ (list : List ℕ). x ∷ list) (take-take n k xs (omega (arith, few)))

pub part_front : (at n k : ℕ) (xs : List ℕ) → at + n ≤ k → part at n (take k xs) ≡ part at n xs
part_front at n k xs inside =
    let split : k ≡ at + (k - at) = omega arith in
    ap (λ (m : ℕ). take n (drop at (take m xs))) split
    ∙ ap (take n) (drop-take at (k - at) xs)
    ∙ take-take n (k - at) (drop at xs) (omega arith)

-- ---- the header

-- the test of a header, by the six numbers that it goes by
abbrev header_test : ℕ → ℕ → ℕ → ℕ → ℕ → ℕ → ℕ → ℕ → ℕ → ℕ → Bool
header_test wanted few many longest kind count third fourth size place =
    (eqb kind wanted && leb few count && leb count many && eqb third 0 && eqb fourth 0 && leb size longest && leb (place + count) last_place)

module _ (p : List ℕ) where
  abbrev first : List ℕ
  first = take 512 p

  front_at : (i : ℕ) → i ≤ 511 → get_or first i 0 ≡ get_or p i 0
  front_at i inside = get_or-take 512 p i 0 (omega arith)

  front_size : size_in first ≡ size_in p
  front_size = ap (from_be_bytes w32) (part_front 4 4 512 p (omega arith))

  front_place : place_in first ≡ place_in p
  front_place = ap (from_be_bytes w64) (part_front 8 8 512 p (omega arith))

  front_zeros : are_zeros (part 16 496 first) ≡ are_zeros (part 16 496 p)
  front_zeros = ap are_zeros (part_front 16 496 512 p (omega arith))

  front_header : (wanted few many longest : ℕ) → is_header wanted few many longest first ≡ is_header wanted few many longest p
  front_header wanted few many longest =
      ap (λ (kind : ℕ). header_test wanted few many longest kind (get_or first 1 0) (get_or first 2 0) (get_or first 3 0) (size_in first) (place_in first)) (front_at 0 (omega arith))
      ∙ ap (λ (count : ℕ). header_test wanted few many longest (get_or p 0 0) count (get_or first 2 0) (get_or first 3 0) (size_in first) (place_in first)) (front_at 1 (omega arith))
      ∙ ap (λ (third : ℕ). header_test wanted few many longest (get_or p 0 0) (get_or p 1 0) third (get_or first 3 0) (size_in first) (place_in first)) (front_at 2 (omega arith))
      ∙ ap (λ (fourth : ℕ). header_test wanted few many longest (get_or p 0 0) (get_or p 1 0) (get_or p 2 0) fourth (size_in first) (place_in first)) (front_at 3 (omega arith))
      ∙ ap (λ (size : ℕ). header_test wanted few many longest (get_or p 0 0) (get_or p 1 0) (get_or p 2 0) (get_or p 3 0) size (place_in first)) front_size
      ∙ ap (λ (place : ℕ). header_test wanted few many longest (get_or p 0 0) (get_or p 1 0) (get_or p 2 0) (get_or p 3 0) (size_in p) place) front_place

-- the reading of a header, by its kind and by the numbers that are checked
abbrev reading_by : Bool → Bool → ℕ → ℕ → ℕ → Bool → ℕ → ℕ → ℕ → Result Header JournalRefusal
reading_by group seal count size there zeros gate place sectors =
    cond group (refuse_unless (eqb there place) (Gap place) (refuse_unless (leb (gate + 1 + payload_sectors size + 2) sectors) PastEnd (Ok (Group count size))))
    (cond seal (refuse_unless (eqb there place) (Gap place) (refuse_unless zeros BadRecord (Ok Seal))) (Err BadHeader))

pub front_reading : (limits : Limits) (p : List ℕ) (gate place sectors : ℕ) → header_reading limits (take 512 p) gate place sectors ≡ header_reading limits p gate place sectors
front_reading limits p gate place sectors =
    let s = take 512 p in
    ap (λ (g : Bool). reading_by g (is_seal_header s) (count_in s) (size_in s) (place_in s) (are_zeros (part 16 496 s)) gate place sectors) (front_header p 1 1 limits.most most_record_bytes)
    ∙ ap (λ (b : Bool). reading_by (is_group_header limits p) b (count_in s) (size_in s) (place_in s) (are_zeros (part 16 496 s)) gate place sectors) (front_header p 2 0 0 0)
    ∙ ap (λ (n : ℕ). reading_by (is_group_header limits p) (is_seal_header p) n (size_in s) (place_in s) (are_zeros (part 16 496 s)) gate place sectors) (front_at p 1 (omega arith))
    ∙ ap (λ (n : ℕ). reading_by (is_group_header limits p) (is_seal_header p) (count_in p) n (place_in s) (are_zeros (part 16 496 s)) gate place sectors) (front_size p)
    ∙ ap (λ (n : ℕ). reading_by (is_group_header limits p) (is_seal_header p) (count_in p) (size_in p) n (are_zeros (part 16 496 s)) gate place sectors) (front_place p)
    ∙ ap (λ (z : Bool). reading_by (is_group_header limits p) (is_seal_header p) (count_in p) (size_in p) (place_in p) z gate place sectors) (front_zeros p)

-- ---- the whole payload

-- a group's payload is read by the sectors that its header promises
pub front_payload : (limits : Limits) (count size : ℕ) (p : List ℕ) → payload_reading limits count size (take (512 * payload_sectors size) p) ≡ payload_reading limits count size p
front_payload limits count size p =
    let k = 512 * payload_sectors size in
    ap (λ (padding : List ℕ). refuse_unless (are_zeros padding) BadRecord (found_in_records (commands_in command_format limits count (part 16 size (take k p)))))
    (part_front (16 + size) (k - (16 + size)) k p (omega arith))
    ∙ ap (λ (records : List ℕ). refuse_unless (are_zeros (padding_of size p)) BadRecord (found_in_records (commands_in command_format limits count records)))
    (part_front 16 size k p (omega arith))

-- what is after a gate, by what the header and then a group's payload read as
abbrev pub as_group : Result (List Command) JournalRefusal → ℕ → Result (Payload Command) JournalRefusal
as_group (Ok commands) size = Ok (IsGroupOf commands size)
as_group (Err refusal) size = Err refusal

abbrev pub behind_header : Result Header JournalRefusal → Limits → List ℕ → Result (Payload Command) JournalRefusal
behind_header (Ok (Group count size)) limits p = as_group (payload_reading limits count size p) size
behind_header (Ok Seal) limits p = Ok IsSealOf
behind_header (Err refusal) limits p = Err refusal

module _ (limits : Limits) (p : List ℕ) (gate place sectors : ℕ) where
  group_is : (zeros : Bool) (found : Option (List Command)) (size : ℕ)
      → refuse_unless zeros BadRecord (group_of found size) ≡ as_group (refuse_unless zeros BadRecord (found_in_records found)) size
  group_is false found size = refl
  group_is true None size = refl
  group_is true (Some commands) size = refl

  of_group : (there room : Bool)
      → refuse_unless there (Gap place) (refuse_unless room PastEnd (group_in command_format limits p))
      ≡ behind_header (refuse_unless there (Gap place) (refuse_unless room PastEnd (Ok (Group (count_in p) (size_in p))))) limits p
  of_group false room = refl
  of_group true false = refl
  of_group true true =
      group_is (are_zeros (padding_of (size_in p) p)) (commands_in command_format limits (count_in p) (part 16 (size_in p) p)) (size_in p)

  of_seal : (there zeros : Bool)
      → refuse_unless there (Gap place) (refuse_unless zeros BadRecord (let r : Result (Payload Command) JournalRefusal = Ok IsSealOf in r))
      ≡ behind_header (refuse_unless there (Gap place) (refuse_unless zeros BadRecord (Ok Seal))) limits p
  of_seal false zeros = refl
  of_seal true false = refl
  of_seal true true = refl

  by_header : (group seal : Bool)
      → by_kind (cond group OfGroup (cond seal OfSeal OfNone)) command_format limits p gate place sectors
      ≡ behind_header (reading_by group seal (count_in p) (size_in p) (place_in p) (are_zeros (part 16 496 p)) gate place sectors) limits p
  by_header true seal = of_group (eqb (place_in p) place) (leb (gate + 1 + payload_sectors (size_in p) + 2) sectors)
  by_header false true = of_seal (eqb (place_in p) place) (are_zeros (part 16 496 p))
  by_header false false = refl

-- what is after a gate is what its first sector leads to
pub payload_is : (limits : Limits) (bytes : List ℕ) (gate place : ℕ) → gate + 2 ≤ whole_sectors bytes
    → payload_at command_format limits bytes gate place
    ≡ behind_header (header_reading limits (sector_at (gate + 1) bytes) gate place (whole_sectors bytes)) limits (drop (512 * (gate + 1)) bytes)
payload_is limits bytes gate place room =
    let p = drop (512 * (gate + 1)) bytes in
    ap (λ (b : Bool). refuse_unless b PastEnd (by_kind (header_kind limits p) command_format limits p gate place (whole_sectors bytes))) (le-leb (gate + 2) (whole_sectors bytes) room)
    ∙ by_header limits p gate place (whole_sectors bytes) (is_group_header limits p) (is_seal_header p)
    ∙ ap (λ (r : Result Header JournalRefusal). behind_header r limits p) (sym (front_reading limits p gate place (whole_sectors bytes)))

-- as many commands are found as are counted
record HasFirst (more : Option (List Command)) (commands : List Command) : Type 0 where
  rest : List Command
  behind : more ≡ Some rest
  longer : length commands ≡ suc (length rest)

has_first : (found : Option Command) (more : Option (List Command)) (commands : List Command) → with_first found more ≡ Some commands → HasFirst more commands
has_first None more commands is = cc
has_first (Some command) None commands is = cc
has_first (Some command) (Some rest) commands is =
    let same : commands ≡ command ∷ rest = cc in
    record { rest = rest; behind = refl; longer = ap length same }

no_commands : (bytes : List ℕ) (commands : List Command) → none_left bytes ≡ Some commands → length commands ≡ 0
no_commands [] commands is = let same : commands ≡ [] = cc in ap length same
no_commands (byte ∷ bytes) commands is = cc

counted : (limits : Limits) (count : ℕ) (bytes : List ℕ) (commands : List Command) → commands_in command_format limits count bytes ≡ Some commands → length commands ≡ count
counted limits zero bytes commands is = no_commands bytes commands is
counted limits (suc count) bytes commands is =
    let behind = drop (4 + record_size bytes) bytes in
    let one = has_first (first_command command_format limits bytes) (commands_in command_format limits count behind) commands is in
    one.longer ∙ ap suc (counted limits count behind one.rest one.behind)

found_all : (found : Option (List Command)) (commands : List Command) → found_in_records found ≡ Ok commands → found ≡ Some commands
found_all None commands is = cc
found_all (Some others) commands is = cc

pub payload_counted : (limits : Limits) (count size : ℕ) (p : List ℕ) (commands : List Command) → payload_reading limits count size p ≡ Ok commands → length commands ≡ count
payload_counted limits count size p commands is =
    let found = commands_in command_format limits count (part 16 size p) in
    counted limits count (part 16 size p) commands (found_all found commands (check_passed (are_zeros (padding_of size p)) BadRecord (found_in_records found) commands is).1)

-- ---- what a header of a group in order promises

in_order : (limits : Limits) (sector : List ℕ) (gate place sectors count size : ℕ) (group seal zeros : Bool) → (group ≡ true → IsGroupHeader limits sector)
    → reading_by group seal (count_in sector) (size_in sector) (place_in sector) zeros gate place sectors ≡ Ok (Group count size)
    → JournalHasRoom gate (payload_sectors size) sectors × (place + count ≤ last_place)
in_order limits sector gate place sectors count size true seal zeros header is =
    let room = leb (gate + 1 + payload_sectors (size_in sector) + 2) sectors in
    let there = check_passed (eqb (place_in sector) place) (Gap place) (refuse_unless room PastEnd (Ok (Group (count_in sector) (size_in sector)))) (Group count size) is in
    let fit = check_passed room PastEnd (Ok (Group (count_in sector) (size_in sector))) (Group count size) there.1 in
    let last = (header refl).last in
    let counted : count_in sector ≡ count = cc (fit.1) in
    let sized : size_in sector ≡ size = cc (fit.1) in
    let here : place_in sector ≡ place = eqb-true _ _ there.0 in (
      subst (λ (n : ℕ). JournalHasRoom gate (payload_sectors n) sectors) sized (leb-true _ _ fit.0),
      omega (arith, last, counted, here),
    )
in_order limits sector gate place sectors count size false true zeros header is =
    let there = check_passed {X = Header} (eqb (place_in sector) place) (Gap place) (refuse_unless zeros BadRecord (Ok Seal)) (Group count size) is in
    let padded = check_passed {X = Header} zeros BadRecord (Ok Seal) (Group count size) there.1 in
    let never = padded.1 in
    absurd cc
in_order limits sector gate place sectors count size false false zeros header is = absurd cc

pub group_in_order : (limits : Limits) (sector : List ℕ) (gate place sectors count size : ℕ) → header_reading limits sector gate place sectors ≡ Ok (Group count size)
    → JournalHasRoom gate (payload_sectors size) sectors × (place + count ≤ last_place)
group_in_order limits sector gate place sectors count size is =
    in_order limits sector gate place sectors count size (is_group_header limits sector) (is_seal_header sector) (are_zeros (part 16 496 sector))
    (group_header_from limits sector) is
