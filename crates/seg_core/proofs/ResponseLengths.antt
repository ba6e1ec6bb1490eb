-- The length of a response. For the law `responses_are_short`; the crates above cite
-- `short_response`.
use Rattle.std.proofs.Common.{◌≡◌, ℕ, zero, suc, ◌+◌, ◌*◌, ◌/◌, ◌%◌, ◌<◌, ◌≤◌, Bool, true, false, List, [], ◌∷◌, ◌++◌, length, map, refl, ap, ◌∙◌, arith}
use Rattle.std.specs.Prelude.{◌==◌, nat_lt, if◌then◌else◌}
use Rattle.std.specs.List.{AllByRecursion, filter}
use Rattle.std.proofs.lemmas.List.{length-append}
use Rattle.std.proofs.lemmas.Bool.Decides.{nat_tests}
use Rattle.pw_wire.specs.Varint.{encoding_within, varint_encoding}
use Rattle.pw_wire.specs.Field.{varint_field_encoding, bytes_field_encoding}
use Rattle.seg_core.specs.declared.seg_type.SegType.{SegType}
use Rattle.seg_core.specs.declared.seg_type.SegType.TheVariants.{Up, Down, Core}
use Rattle.seg_core.specs.SegmentView.{SegmentView}
use Rattle.seg_core.specs.Registration.{type_number}
use Rattle.seg_core.specs.Encoding.{IsSegment, segment_encoding, segments_encoding, of_type, map_entry_encoding, response_encoding}

-- ---- varints

-- numbers below the limit have encodings of at most this number of bytes
abbrev AreShort : ℕ → ℕ → Type 0
AreShort limit count = (left n : ℕ) → n < limit → length (encoding_within left n) ≤ count

one_byte : AreShort 128 1
unfolding encoding_within
one_byte zero n lt = omega arith
one_byte (suc left) n lt = grind (arith, nat_tests)

one_more_byte : (limit count : ℕ) → AreShort limit count → AreShort (128 * limit) (suc count)
unfolding encoding_within
one_more_byte limit count short zero n lt = omega arith
one_more_byte limit count short (suc left) n lt = by_test (nat_lt n 128)
  where
    by_test : (small : Bool) → length (if small then n ∷ [] else ((n % 128 + 128) ∷ encoding_within left (n / 128))) ≤ suc count
    by_test true = omega arith
    by_test false = let high : n / 128 < limit = omega arith in omega (arith, short left (n / 128) high)

three_bytes : AreShort 2097152 3
three_bytes = one_more_byte 16384 2 (one_more_byte 128 1 one_byte)

short_tag : (n : ℕ) → n < 128 → length (varint_encoding n) ≤ 1
unfolding varint_encoding
short_tag n lt = one_byte 9 n lt

short_length : (n : ℕ) → n < 2097152 → length (varint_encoding n) ≤ 3
unfolding varint_encoding
short_length n lt = three_bytes 9 n lt

-- ---- fields

short_bytes_field : (number limit : ℕ) (bytes : List ℕ) → number * 8 + 2 < 128 → limit < 2097152 → length bytes ≤ limit → length (bytes_field_encoding number bytes) ≤ limit + 4
unfolding bytes_field_encoding
short_bytes_field number limit bytes tag small le =
    let a = short_tag (number * 8 + 2) tag in
    let b = short_length (length bytes) (omega arith) in
    let c = length-append (varint_encoding (number * 8 + 2)) (varint_encoding (length bytes) ++ bytes) in
    let d = length-append (varint_encoding (length bytes)) bytes in
    omega (arith, a, b, c, d)

short_number_field : (number n : ℕ) → number * 8 < 128 → n < 128 → length (varint_field_encoding number n) ≤ 2
unfolding varint_field_encoding
short_number_field number n tag small =
    let a = short_tag (number * 8) tag in
    let b = short_tag n small in
    omega (arith, a, b, length-append (varint_encoding (number * 8)) (varint_encoding n))

-- ---- the segments of one type

abbrev AreSegments : List SegmentView → Type 0
AreSegments segments = AllByRecursion IsSegment segments

short_segments : (segments : List SegmentView) → AreSegments segments → length (segments_encoding segments) ≤ 16388 * length segments
short_segments [] all = omega arith
short_segments (s ∷ segments) all =
    let first = short_bytes_field 1 16384 (segment_encoding s) (omega arith) (omega arith) all.0.short in
    let others = short_segments segments all.1 in
    let parts = length-append (bytes_field_encoding 1 (segment_encoding s)) (segments_encoding segments) in
    omega (arith, first, others, parts)

type_below : (kind : SegType) → type_number kind < 128
type_below Up = omega arith
type_below Down = omega arith
type_below Core = omega arith

short_entry : (kind : SegType) (segments : List SegmentView) → AreSegments segments → length segments ≤ 127 → length (map_entry_encoding kind segments) ≤ 16388 * length segments + 10
short_entry kind [] all few = omega arith
short_entry kind (s ∷ segments) all few =
    let them = segments_encoding (s ∷ segments) in
    let most = 16388 * length (s ∷ segments) in
    let body = short_segments (s ∷ segments) all in
    let value = short_bytes_field 2 most them (omega arith) (omega arith) (omega (arith, body)) in
    let key = short_number_field 1 (type_number kind) (omega arith) (type_below kind) in
    let parts = length-append (varint_field_encoding 1 (type_number kind)) (bytes_field_encoding 2 them) in
    let whole = short_bytes_field 1 (most + 6) (varint_field_encoding 1 (type_number kind) ++ bytes_field_encoding 2 them) (omega arith) (omega arith) (omega (arith, value, key, parts)) in
    omega (arith, whole)

-- ---- rows

abbrev Row : Type 0
Row = SegType × SegmentView

abbrev AreOfType : SegType → List Row → Type 0
AreOfType kind rows = AllByRecursion (λ row. type_number row.0 ≡ type_number kind) rows

abbrev AreWhole : List Row → Type 0
AreWhole rows = AllByRecursion (λ row. IsSegment row.1) rows

-- rows of one type have no segments of another
none_of_type : (kind other : SegType) (rows : List Row) → AreOfType kind rows → (type_number kind == type_number other) ≡ false → of_type other rows ≡ []
none_of_type kind other [] all differs = refl
none_of_type kind other (row ∷ rows) all differs =
    ap (λ b. map (λ (row : Row). row.1) (if b then row ∷ filter (λ row. type_number row.0 == type_number other) rows else filter (λ row. type_number row.0 == type_number other) rows)) (ap (λ n. n == type_number other) all.0 ∙ differs)
    ∙ none_of_type kind other rows all.1 differs

one_selected : (same : Bool) (row : Row) (some : List Row) → IsSegment row.1 → AreSegments (map (λ row. row.1) some) → AreSegments (map (λ row. row.1) (if same then row ∷ some else some))
one_selected true row some whole others = (whole, others)
one_selected false row some whole others = others

whole_of_type : (kind : SegType) (rows : List Row) → AreWhole rows → AreSegments (of_type kind rows)
whole_of_type kind [] all = tt
whole_of_type kind (row ∷ rows) all =
    one_selected (type_number row.0 == type_number kind) row (filter (λ row. type_number row.0 == type_number kind) rows) all.0 (whole_of_type kind rows all.1)

-- each row is of one of the three types
one_counted : (row : Row) (rows : List Row) → length (of_type Up (row ∷ rows)) + (length (of_type Down (row ∷ rows)) + length (of_type Core (row ∷ rows)))
    ≡ suc (length (of_type Up rows) + (length (of_type Down rows) + length (of_type Core rows)))
one_counted (Up, s) rows = omega arith
one_counted (Down, s) rows = omega arith
one_counted (Core, s) rows = omega arith

all_counted : (rows : List Row) → length (of_type Up rows) + (length (of_type Down rows) + length (of_type Core rows)) ≡ length rows
all_counted [] = refl
all_counted (row ∷ rows) = one_counted row rows ∙ ap suc (all_counted rows)

-- the three entries are the response
three_entries : (rows : List Row) → length (response_encoding rows)
    ≡ length (map_entry_encoding Up (of_type Up rows)) + (length (map_entry_encoding Down (of_type Down rows)) + length (map_entry_encoding Core (of_type Core rows)))
unfolding response_encoding
three_entries rows =
    let up = map_entry_encoding Up (of_type Up rows) in
    let down = map_entry_encoding Down (of_type Down rows) in
    let core = map_entry_encoding Core (of_type Core rows) in
    omega (arith, length-append up (down ++ core), length-append down core)

-- ---- the response

-- of segments of any types
pub short_response-any : (rows : List Row) → AreWhole rows → length rows ≤ 127 → length (response_encoding rows) ≤ 16388 * length rows + 30
short_response-any rows all few =
    let count = all_counted rows in
    let up = short_entry Up (of_type Up rows) (whole_of_type Up rows all) (omega arith) in
    let down = short_entry Down (of_type Down rows) (whole_of_type Down rows all) (omega arith) in
    let core = short_entry Core (of_type Core rows) (whole_of_type Core rows all) (omega arith) in
    omega (arith, three_entries rows, up, down, core)

nothing_of_type : (kind other : SegType) (rows : List Row) → AreOfType kind rows → (type_number kind == type_number other) ≡ false → length (map_entry_encoding other (of_type other rows)) ≡ 0
nothing_of_type kind other rows all differs = ap (λ l. length (map_entry_encoding other l)) (none_of_type kind other rows all differs)

short_of_type : (kind : SegType) (rows : List Row) → AreWhole rows → length rows ≤ 127 → length (map_entry_encoding kind (of_type kind rows)) ≤ 16388 * length rows + 10
short_of_type kind rows all few = by_kind kind
  where
    by_kind : (kind : SegType) → length (map_entry_encoding kind (of_type kind rows)) ≤ 16388 * length rows + 10
    by_kind Up = let count = all_counted rows in omega (arith, short_entry Up (of_type Up rows) (whole_of_type Up rows all) (omega arith))
    by_kind Down = let count = all_counted rows in omega (arith, short_entry Down (of_type Down rows) (whole_of_type Down rows all) (omega arith))
    by_kind Core = let count = all_counted rows in omega (arith, short_entry Core (of_type Core rows) (whole_of_type Core rows all) (omega arith))

-- of segments of one type
pub short_response : (kind : SegType) (rows : List Row) → AreOfType kind rows → AreWhole rows → length rows ≤ 127 → length (response_encoding rows) ≤ 16388 * length rows + 10
short_response kind rows same all few = by_kind kind same
  where
    by_kind : (kind : SegType) → AreOfType kind rows → length (response_encoding rows) ≤ 16388 * length rows + 10
    by_kind Up same = omega (arith, three_entries rows, short_of_type Up rows all few, nothing_of_type Up Down rows same refl, nothing_of_type Up Core rows same refl)
    by_kind Down same = omega (arith, three_entries rows, short_of_type Down rows all few, nothing_of_type Down Up rows same refl, nothing_of_type Down Core rows same refl)
    by_kind Core same = omega (arith, three_entries rows, short_of_type Core rows all few, nothing_of_type Core Up rows same refl, nothing_of_type Core Down rows same refl)

numbers_same : (kind : SegType) (rows : List Row) → AllByRecursion (λ row. row.0 ≡ kind) rows → AreOfType kind rows
numbers_same kind [] same = tt
numbers_same kind (row ∷ rows) same = (ap type_number same.0, numbers_same kind rows same.1)

pub short_response-one_type : (kind : SegType) (rows : List Row) → AllByRecursion (λ row. row.0 ≡ kind) rows → AreWhole rows → length rows ≤ 127 → length (response_encoding rows) ≤ 16388 * length rows + 10
short_response-one_type kind rows same all few = short_response kind rows (numbers_same kind rows same) all few
