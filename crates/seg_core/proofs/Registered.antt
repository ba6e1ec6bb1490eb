-- The segments of a registration that is read. For the law `read_registrations_are_whole`.
use Rattle.std.proofs.Common.{◌≡◌, ℕ, ◌+◌, ◌≤◌, List, [], ◌∷◌, ◌++◌, length, Result, Ok, Err, refl, sym, subst, arith, length-append}
use Rattle.std.specs.Prelude.{nat_lt, nat_le}
use Rattle.std.specs.List.{AllByRecursion, sum_by}
use Rattle.std.proofs.lemmas.Bool.{leb-true, ltb-true}
use Rattle.std.proofs.lemmas.List.Sums.{sum_by-append, sum_by-cons}
use Rattle.pw_wire.specs.Decoding.{IsBytes}
use Rattle.pw_wire.specs.Field.{bytes_field_encoding}
use Rattle.pw_wire.specs.Fields.{fields}
use Rattle.seg_core.specs.declared.error.SegError.{SegError}
use Rattle.seg_core.specs.declared.error.SegError.TheVariants.{TooLarge}
use Rattle.seg_core.specs.declared.seg_type.SegType.{SegType}
use Rattle.seg_core.specs.Shapes.{map_shape, map_entry_shape, segments_shape}
use Rattle.seg_core.specs.Steps.{result_map}
use Rattle.seg_core.specs.Message.{number_field, bytes_fields, last_bytes_field, bytes_field_or_empty}
use Rattle.seg_core.specs.SegmentView.{SegmentView}
use Rattle.seg_core.specs.Segment.{segment_decoding}
use Rattle.seg_core.specs.Registration.{MapEntry, typed_segments, entry_rows, new_type, segments_decoding, map_entry_decoding, map_decoding, registration_outline, registration_decoding}
use Rattle.seg_core.specs.Encoding.{IsSegment, segment_encoding}
use Rattle.seg_core.proofs.Bytes.{message_fields-are, message_fields-fit, bytes_fields-IsBytes, bytes_field_or_empty-IsBytes}
use Rattle.seg_core.proofs.MessageSizes.{message-HasRoom}
use Rattle.seg_core.proofs.Readings.{step_ok, ok_is, after_message_fields, after_check}
use Rattle.seg_core.proofs.Sizes.{encoded_len, bytes_field-within, last-length, or_empty-length}
use Rattle.seg_core.proofs.EncodedFields.{bytes-within}
use Rattle.seg_core.proofs.Whole.{decoding-IsSegment, decoding-length}
use Rattle.seg_core.proofs.Rows.{entry_rows-push}

abbrev Row : Type 0
Row = SegType × SegmentView

-- the length of the encodings of rows
abbrev rows_len : List Row → ℕ
rows_len rows = sum_by (λ row. length (segment_encoding row.1)) rows

-- rows that come after this number of others, whose encodings have at most this number of bytes
record AreRegistered (count bytes : ℕ) (rows : List Row) : Type 0 where
  few : count + length rows ≤ 16
  whole : AllByRecursion (λ row. IsSegment row.1) rows
  short : rows_len rows ≤ bytes

no_rows : (count bytes : ℕ) → count ≤ 16 → AreRegistered count bytes []
no_rows count bytes le = record { few = omega arith; whole = tt; short = omega arith }

one_more : (count bytes more : ℕ) (row : Row) (rows : List Row) → IsSegment row.1 → length (segment_encoding row.1) ≤ more → AreRegistered (count + 1) bytes rows
    → AreRegistered count (more + bytes) (row ∷ rows)
one_more count bytes more row rows whole short others =
    let few = others.few in
    let others_short = others.short in
    record {
      few = omega arith;
      whole = (whole, others.whole);
      short = rw (sum_by-cons (λ row. length (segment_encoding row.1)) row rows) (omega arith);
    }

both_all : (some others : List Row) → AllByRecursion (λ row. IsSegment row.1) some → AllByRecursion (λ row. IsSegment row.1) others → AllByRecursion (λ row. IsSegment row.1) (some ++ others)
both_all [] others one two = two
both_all (row ∷ some) others one two = (one.0, both_all some others one.1 two)

both_registered : (first second : ℕ) (some others : List Row) → AreRegistered 0 first some → AreRegistered (length some) second others → AreRegistered 0 (first + second) (some ++ others)
both_registered first second some others one two =
    let few = two.few in
    let one_short = one.short in
    let two_short = two.short in
    record {
      few = rw (length-append some others) (omega arith);
      whole = both_all some others one.whole two.whole;
      short = rw (sum_by-append (λ row. length (segment_encoding row.1)) some others) (omega arith);
    }

-- the segments of one type
segments_read : (kind : SegType) (count : ℕ) (messages : List (List ℕ)) (segments : List SegmentView) → count ≤ 16 → AllByRecursion IsBytes messages
    → segments_decoding count messages ≡ Ok segments → AreRegistered count (encoded_len 1 messages) (typed_segments kind segments)
unfolding segments_decoding
segments_read kind count [] segments le are reading = subst (λ ss. AreRegistered count (encoded_len 1 []) (typed_segments kind ss)) (ok_is [] segments reading) (no_rows count (encoded_len 1 []) le)
segments_read kind count (message ∷ messages) segments le are reading =
    let room = after_check (nat_lt count 16) TooLarge _ segments reading in
    let below = ltb-true count 16 room.0 in
    let first = step_ok (segment_decoding message) _ segments room.1 in
    let others = step_ok (segments_decoding (count + 1) messages) _ segments first.2 in
    let whole = decoding-IsSegment message first.0 are.0 first.1 in
    let short = decoding-length message first.0 are.0 first.1 in
    let rest = segments_read kind (count + 1) messages others.0 (omega arith) are.1 others.1 in
    subst (λ ss. AreRegistered count (encoded_len 1 (message ∷ messages)) (typed_segments kind ss)) (ok_is (first.0 ∷ others.0) segments others.2)
    (rw (sum_by-cons (λ bytes. length (bytes_field_encoding 1 bytes)) message messages)
    (one_more count (encoded_len 1 messages) (length (bytes_field_encoding 1 message)) (kind, first.0) (typed_segments kind others.0) whole (omega (arith, short, bytes_field-within 1 message)) rest))

fewer : (count less more : ℕ) (rows : List Row) → less ≤ more → AreRegistered count less rows → AreRegistered count more rows
fewer count less more rows le are = let short = are.short in record { few = are.few; whole = are.whole; short = omega arith }

-- an entry of the map
entry_read : (earlier : List MapEntry) (message : List ℕ) (entry : MapEntry) → length (entry_rows earlier) ≤ 16 → IsBytes message
    → map_entry_decoding earlier message ≡ Ok entry → AreRegistered (length (entry_rows earlier)) (length message) (typed_segments entry.0 entry.1)
unfolding map_entry_decoding
entry_read earlier message entry le are reading =
    let fs = fields message in
    let count = length (entry_rows earlier) in
    let fits = message_fields-fit map_entry_shape message _ entry are reading in
    let room = message-HasRoom message (message_fields-are map_entry_shape message _ entry are reading) in
    let in_fields = after_message_fields map_entry_shape message _ entry reading in
    let kind = step_ok (new_type earlier (number_field 1 fs)) _ entry in_fields in
    let value = bytes_field_or_empty 2 fs in
    let value_bytes = bytes_field_or_empty-IsBytes 2 fs fits in
    let value_fits = message_fields-fit segments_shape value _ entry value_bytes kind.2 in
    let value_room = message-HasRoom value (message_fields-are segments_shape value _ entry value_bytes kind.2) in
    let in_value = after_message_fields segments_shape value _ entry kind.2 in
    let messages = bytes_fields 1 (fields value) in
    let segments = step_ok (segments_decoding count messages) _ entry in_value in
    let rows = segments_read kind.0 count messages segments.0 le (bytes_fields-IsBytes 1 (fields value) value_fits) segments.1 in
    let within : encoded_len 1 messages ≤ length message =
    omega (arith, room.both, value_room.both, bytes-within 2 value, or_empty-length 2 (last_bytes_field 2 fs), last-length 2 (bytes_fields 2 fs)) in
    subst (λ entry. AreRegistered count (length message) (typed_segments entry.0 entry.1)) (ok_is (kind.0, segments.0) entry segments.2)
    (fewer count (encoded_len 1 messages) (length message) (typed_segments kind.0 segments.0) within rows)

-- the entries of the map, after earlier entries of at most this number of bytes
map_read : (earlier : List MapEntry) (bytes : ℕ) (messages : List (List ℕ)) (entries : List MapEntry) → AreRegistered 0 bytes (entry_rows earlier) → AllByRecursion IsBytes messages
    → map_decoding earlier messages ≡ Ok entries → AreRegistered 0 (bytes + encoded_len 1 messages) (entry_rows entries)
unfolding map_decoding
map_read earlier bytes [] entries registered are reading =
    subst (λ entries. AreRegistered 0 (bytes + encoded_len 1 []) (entry_rows entries)) (ok_is earlier entries reading)
    (fewer 0 bytes (bytes + encoded_len 1 []) (entry_rows earlier) (omega arith) registered)
map_read earlier bytes (message ∷ messages) entries registered are reading =
    let first = step_ok (map_entry_decoding earlier message) _ entries reading in
    let rows = typed_segments first.0.0 first.0.1 in
    let few = registered.few in
    let read = entry_read earlier message first.0 (omega arith) are.0 first.1 in
    let more = length (bytes_field_encoding 1 message) in
    let both = both_registered bytes more (entry_rows earlier) rows registered (fewer (length (entry_rows earlier)) (length message) more rows (bytes_field-within 1 message) read) in
    let with_first = subst (AreRegistered 0 (bytes + more)) (sym (entry_rows-push earlier first.0)) both in
    fewer 0 (bytes + more + encoded_len 1 messages) (bytes + encoded_len 1 (message ∷ messages)) (entry_rows entries)
    (omega (arith, sum_by-cons (λ bytes. length (bytes_field_encoding 1 bytes)) message messages))
    (map_read (earlier ++ first.0 ∷ []) (bytes + more) messages entries with_first are.1 first.2)

-- the messages of the map's entries
record AreOutlined (messages : List (List ℕ)) : Type 0 where
  are_bytes : AllByRecursion IsBytes messages
  short : encoded_len 1 messages ≤ 131072

outline_read : (message : List ℕ) (messages : List (List ℕ)) → IsBytes message → registration_outline message ≡ Ok messages → AreOutlined messages
unfolding registration_outline
outline_read message messages are reading =
    let fs = fields message in
    let sized = after_check (nat_le (length message) 131072) TooLarge _ messages reading in
    let le : length message ≤ 131072 = leb-true (length message) 131072 sized.0 in
    let fits = message_fields-fit map_shape message _ messages are sized.1 in
    let room = message-HasRoom message (message_fields-are map_shape message _ messages are sized.1) in
    subst AreOutlined (ok_is (bytes_fields 1 fs) messages (after_message_fields map_shape message _ messages sized.1))
    (record { are_bytes = bytes_fields-IsBytes 1 fs fits; short = omega (arith, room.both) })

-- the value of a reading that is seen by another view
mapped_ok : {A B : Type 0} (view : A → B) (r : Result A SegError) (y : B) → result_map view r ≡ Ok y → (x : A) × (r ≡ Ok x) × (view x ≡ y)
mapped_ok view (Ok x) y e = (x, refl, ok_is (view x) y e)
mapped_ok view (Err d) y e = absurd cc

-- the limits of a registration's rows
pub record HoldsFew (rows : List Row) : Type 0 where
  pub few : length rows ≤ 16
  pub whole : AllByRecursion (λ row. IsSegment row.1) rows
  pub short : sum_by (λ row. length (segment_encoding row.1)) rows ≤ 131072

pub registration-HoldsFew : (message : List ℕ) (rows : List Row) → IsBytes message → registration_decoding message ≡ Ok rows → HoldsFew rows
unfolding registration_decoding
registration-HoldsFew message rows are reading =
    let outline = step_ok (registration_outline message) _ rows reading in
    let outlined = outline_read message outline.0 are outline.1 in
    let entries = mapped_ok entry_rows (map_decoding [] outline.0) rows outline.2 in
    let read = map_read [] 0 outline.0 entries.0 (no_rows 0 0 (omega arith)) outlined.are_bytes entries.1 in
    let few = read.few in
    let short = read.short in
    let outline_short = outlined.short in
    subst HoldsFew entries.2 (record { few = omega arith; whole = read.whole; short = omega arith })
