-- The encoding of a group or a seal is read as that group or seal.
use Rattle.std.proofs.Common.{◌≡◌, ℕ, zero, suc, ◌+◌, ◌-◌, ◌*◌, ◌^◌, ◌<◌, ◌≤◌, Bool, true, cond, leb, List, [], ◌∷◌, ◌++◌, length, take, drop, replicate, Some, None, Option, Ok, refl, sym, ◌∙◌, ap, arith, length-append, append_assoc, take-append-drop, eq-eqb, eqb-true, le-leb, leb-true}
use Rattle.std.proofs.lemmas.List.{drop_at, take_at, drop-drop, length-replicate}
use Rattle.std.proofs.lemmas.Bool.{and_from, and_parts}
use Rattle.std.proofs.lemmas.Nat.{from_be_bytes-to_be_bytes_4, from_be_bytes-to_be_bytes_8}
use Rattle.std.specs.Int.{w32, to_be_bytes}
use Rattle.std.specs.List.{AllByRecursion}
use Rattle.byte_lists.specs.Content.{part}
use Rattle.byte_lists.specs.Sectors.{sectors_of, whole_sectors}
use Rattle.byte_lists.proofs.BigEndian.{four_at-encoded}
use Rattle.store_layout.specs.Limits.{Limits}
use Rattle.store_layout.specs.CommandFormat.{CommandFormat, IsAllowed}
use Rattle.store_layout.specs.Group.{most_record_bytes, records_of, with_header, group_encoding, seal_encoding, payload_sectors, group_sectors, JournalHasRoom, CanBeGroup}
use Rattle.store_layout.specs.GroupReading.{BadRecord, Gap, PastEnd, refuse_unless, size_in, place_in, IsHeader, is_header, IsGroupHeader, IsSealHeader, is_group_header, is_seal_header, record_size, with_first, commands_in, are_zeros, Group, Seal, group_of, Kind, OfGroup, OfSeal, OfNone, header_kind, group_in, seal_in, by_kind, payload_at}
use Rattle.store_layout.specs.Journal.{HasGroupAfterGate, HasSeal}

-- the test of a header
pub header_true : (wanted few many longest : ℕ) (payload : List ℕ) → IsHeader wanted few many longest payload → is_header wanted few many longest payload ≡ true
header_true wanted few many longest payload is =
    and_from _ _ (and_from _ _ (and_from _ _ (and_from _ _ (and_from _ _ (and_from _ _
    (eq-eqb _ _ is.kind) (le-leb _ _ is.some)) (le-leb _ _ is.most)) (eq-eqb _ _ is.third)) (eq-eqb _ _ is.fourth)) (le-leb _ _ is.short)) (le-leb _ _ is.last)

pub header_from : (wanted few many longest : ℕ) (payload : List ℕ) → is_header wanted few many longest payload ≡ true → IsHeader wanted few many longest payload
header_from wanted few many longest payload is =
    let six = and_parts _ _ is in
    let five = and_parts _ _ six.0 in
    let four = and_parts _ _ five.0 in
    let three = and_parts _ _ four.0 in
    let two = and_parts _ _ three.0 in
    let one = and_parts _ _ two.0 in
    record {
      kind = eqb-true _ _ one.0;
      some = leb-true _ _ one.1;
      most = leb-true _ _ two.1;
      third = eqb-true _ _ three.1;
      fourth = eqb-true _ _ four.1;
      short = leb-true _ _ five.1;
      last = leb-true _ _ six.1;
    }

-- the headers of a group and of a seal
pub group_header_true : (limits : Limits) (payload : List ℕ) → IsGroupHeader limits payload → is_group_header limits payload ≡ true
group_header_true limits payload is = header_true 1 1 limits.most most_record_bytes payload is

pub group_header_from : (limits : Limits) (payload : List ℕ) → is_group_header limits payload ≡ true → IsGroupHeader limits payload
group_header_from limits payload is = header_from 1 1 limits.most most_record_bytes payload is

pub seal_header_true : (payload : List ℕ) → IsSealHeader payload → is_seal_header payload ≡ true
seal_header_true payload is = header_true 2 0 0 0 payload is

pub seal_header_from : (payload : List ℕ) → is_seal_header payload ≡ true → IsSealHeader payload
seal_header_from payload is = header_from 2 0 0 0 payload is

-- the numbers that a header was encoded with
size_read : (kind count size place : ℕ) (behind : List ℕ) → size < 2 ^ 32 → size_in (with_header kind count size place behind) ≡ size
size_read kind count size place behind small = from_be_bytes-to_be_bytes_4 size small

place_read : (kind count size place : ℕ) (behind : List ℕ) → place < 2 ^ 64 → place_in (with_header kind count size place behind) ≡ place
place_read kind count size place behind small = from_be_bytes-to_be_bytes_8 place small

pub zeros_true : (n : ℕ) → are_zeros (replicate n 0) ≡ true
zeros_true zero = refl
zeros_true (suc n) = zeros_true n

module _ {C : Type 0} (format : CommandFormat C) (limits : Limits) where
  -- records that were encoded are read
  pub records_read : (commands : List C) → AllByRecursion (IsAllowed format limits) commands → length (records_of format commands) < 2 ^ 32
      → commands_in format limits (length commands) (records_of format commands) ≡ Some commands
  records_read [] all small = refl
  records_read (command ∷ more) all small =
      ap (λ (n : ℕ). with_first (cond (leb (4 + n) (length bytes)) (format.decoding limits (part 4 n bytes)) None) (commands_in format limits (length more) (drop (4 + n) bytes))) size
      ∙ ap (λ (b : Bool). with_first (cond b (format.decoding limits (part 4 len bytes)) None) (commands_in format limits (length more) (drop (4 + len) bytes))) within
      ∙ ap (λ (list : List ℕ). with_first (format.decoding limits list) (commands_in format limits (length more) (drop (4 + len) bytes))) (take_at encoding rest len refl)
      ∙ ap (λ (first : Option C). with_first first (commands_in format limits (length more) (drop (4 + len) bytes))) all.0
      ∙ ap (λ (list : List ℕ). with_first (Some command) (commands_in format limits (length more) list)) (sym (drop-drop len 4 bytes) ∙ drop_at encoding rest len refl)
      ∙ ap (λ (list : Option (List C)). with_first (Some command) list) (records_read more all.1 (omega (arith, long)))
    where
      encoding : List ℕ
      encoding = format.encoding command

      rest : List ℕ
      rest = records_of format more

      len : ℕ
      len = length encoding

      bytes : List ℕ
      bytes = to_be_bytes w32 len ++ (encoding ++ rest)

      long : length bytes ≡ 4 + len + length rest
      long = omega (arith, length-append encoding rest)

      size : record_size bytes ≡ len
      size = four_at-encoded len 0 [] (encoding ++ rest) (omega (arith, long)) refl

      within : leb (4 + len) (length bytes) ≡ true
      within = le-leb (4 + len) (length bytes) (omega (arith, long))

-- the records and the padding of a group, whatever bytes come after them
module _ {C : Type 0} (format : CommandFormat C) (limits : Limits) (place : ℕ) (commands : List C) (can : CanBeGroup format limits place commands) (behind : List ℕ) (k : ℕ)
    (fits : k ≡ 512 * group_sectors format commands - (16 + length (records_of format commands))) where
  spelled : List ℕ
  spelled = with_header 1 (length commands) (length (records_of format commands)) place ((records_of format commands ++ replicate k 0) ++ behind)

  size_is : size_in spelled ≡ length (records_of format commands)
  unfolding spelled
  size_is = size_read 1 (length commands) (length (records_of format commands)) place ((records_of format commands ++ replicate k 0) ++ behind) (omega (arith, can.short))

  place_is : place_in spelled ≡ place
  unfolding spelled
  place_is = place_read 1 (length commands) (length (records_of format commands)) place ((records_of format commands ++ replicate k 0) ++ behind) (omega (arith, can.last))

  kind_is : header_kind limits spelled ≡ OfGroup
  unfolding spelled
  kind_is = ap (λ (b : Bool). cond b OfGroup (cond (is_seal_header spelled) OfSeal OfNone)) (group_header_true limits spelled header)
    where
      header : IsGroupHeader limits spelled
      header = record {
        kind = refl;
        some = can.some;
        most = can.most;
        third = refl;
        fourth = refl;
        short = omega (arith, size_is, can.short);
        last = omega (arith, place_is, can.last);
      }

  group_is : group_in format limits spelled ≡ Ok (Group commands (length (records_of format commands)))
  unfolding spelled
  group_is =
      ap (λ (n : ℕ). refuse_unless (are_zeros (part (16 + n) (512 * payload_sectors n - (16 + n)) spelled)) BadRecord (group_of (commands_in format limits (length commands) (part 16 n spelled)) n)) size_is
      ∙ ap (λ (list : List ℕ). refuse_unless (are_zeros list) BadRecord (group_of (commands_in format limits (length commands) (part 16 len spelled)) len)) padding
      ∙ ap (λ (b : Bool). refuse_unless b BadRecord (group_of (commands_in format limits (length commands) (part 16 len spelled)) len)) (zeros_true k)
      ∙ ap (λ (list : List ℕ). group_of (commands_in format limits (length commands) list) len) (ap (take len) inner ∙ take_at records (replicate k 0 ++ behind) len refl)
      ∙ ap (λ (found : Option (List C)). group_of found len) (records_read format limits commands can.allowed (omega (arith, can.short)))
    where
      records : List ℕ
      records = records_of format commands

      len : ℕ
      len = length records

      inner : (records ++ replicate k 0) ++ behind ≡ records ++ (replicate k 0 ++ behind)
      inner = append_assoc records (replicate k 0) behind

      padding : part (16 + len) (512 * payload_sectors len - (16 + len)) spelled ≡ replicate k 0
      padding =
          ap (take (512 * payload_sectors len - (16 + len))) (sym (drop-drop len 16 spelled) ∙ ap (drop len) inner ∙ drop_at records (replicate k 0 ++ behind) len refl)
          ∙ take_at (replicate k 0) behind (512 * payload_sectors len - (16 + len)) (length-replicate k 0 ∙ fits)

  by_group : (gate journal : ℕ) → JournalHasRoom gate (group_sectors format commands) journal
      → by_kind (header_kind limits spelled) format limits spelled gate place journal ≡ Ok (Group commands (length (records_of format commands)))
  by_group gate journal room =
      ap (λ (kind : Kind). by_kind kind format limits spelled gate place journal) kind_is
      ∙ ap (λ (b : Bool). refuse_unless b (Gap place) (refuse_unless (leb (gate + 1 + payload_sectors (size_in spelled) + 2) journal) PastEnd (group_in format limits spelled))) (eq-eqb _ _ place_is)
      ∙ ap (λ (n : ℕ). refuse_unless (leb (gate + 1 + payload_sectors n + 2) journal) PastEnd (group_in format limits spelled)) size_is
      ∙ ap (λ (b : Bool). refuse_unless b PastEnd (group_in format limits spelled)) (le-leb _ _ room)
      ∙ group_is

-- a list that begins with a part
begins_with : (n : ℕ) (xs start : List ℕ) → take n xs ≡ start → xs ≡ start ++ drop n xs
begins_with n xs start is = sym (take-append-drop n xs) ∙ ap (λ (list : List ℕ). list ++ drop n xs) is

-- a group after a gate is read
pub payload_group : {C : Type 0} (format : CommandFormat C) (limits : Limits) (bytes : List ℕ) (gate place : ℕ) (commands : List C) → HasGroupAfterGate format limits bytes gate place commands
    → payload_at format limits bytes gate place ≡ Ok (Group commands (length (records_of format commands)))
unfolding spelled
payload_group format limits bytes gate place commands has =
    ap (λ (b : Bool). refuse_unless b PastEnd (by_kind (header_kind limits payload) format limits payload gate place (whole_sectors bytes))) (le-leb _ _ inside)
    ∙ ap (λ (list : List ℕ). by_kind (header_kind limits list) format limits list gate place (whole_sectors bytes))
    (begins_with (512 * group_sectors format commands) payload (group_encoding format place commands) has.group.spelled)
    ∙ by_group format limits place commands has.group.can (drop (512 * group_sectors format commands) payload) zeros (omega arith) gate (whole_sectors bytes) has.room
  where
    payload : List ℕ
    payload = drop (512 * (gate + 1)) bytes

    inside : gate + 2 ≤ whole_sectors bytes
    inside = omega (arith, has.room)

    zeros : ℕ
    zeros = 512 * sectors_of (length (with_header 1 (length commands) (length (records_of format commands)) place (records_of format commands)))
        - length (with_header 1 (length commands) (length (records_of format commands)) place (records_of format commands))

-- a seal after a gate is read
pub payload_seal : {C : Type 0} (format : CommandFormat C) (limits : Limits) (bytes : List ℕ) (gate place : ℕ) → HasSeal bytes gate place → payload_at format limits bytes gate place ≡ Ok Seal
payload_seal {C} format limits bytes gate place has =
    ap (λ (b : Bool). refuse_unless b PastEnd (by_kind (header_kind limits payload) format limits payload gate place (whole_sectors bytes))) (le-leb _ _ has.room)
    ∙ ap (λ (list : List ℕ). by_kind (header_kind limits list) format limits list gate place (whole_sectors bytes)) (begins_with 512 payload (seal_encoding place) has.seal.spelled)
    ∙ ap (λ (kind : Kind). by_kind kind format limits sealed gate place (whole_sectors bytes)) kind
    ∙ ap (λ (b : Bool). refuse_unless b (Gap place) (seal_in sealed)) (eq-eqb _ _ there)
  where
    payload : List ℕ
    payload = drop (512 * (gate + 1)) bytes

    sealed : List ℕ
    sealed = seal_encoding place ++ drop 512 payload

    there : place_in sealed ≡ place
    there = place_read 2 0 0 place (replicate 496 0 ++ drop 512 payload) (omega (arith, has.seal.last))

    kind : header_kind limits sealed ≡ OfSeal
    kind = ap (λ (b : Bool). cond b OfSeal OfNone) (seal_header_true sealed (record { kind = refl; some = omega arith; most = omega arith; third = refl; fourth = refl; short = omega arith; last = omega (arith, there, has.seal.last) }))
