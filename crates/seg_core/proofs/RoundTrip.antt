-- The encoding of a whole segment is bytes, and is read as that segment.
use Rattle.std.proofs.Common.{◌≡◌, ℕ, ◌+◌, ◌≤◌, ◌<◌, ◌^◌, Bool, true, List, [], ◌∷◌, ◌++◌, length, map, Result, Ok, Option, Some, None, refl, sym, ap, ◌∙◌, arith, length-append}
use Rattle.std.specs.Prelude.{nat_le, ok_or}
use Rattle.std.specs.List.{AllByRecursion}
use Rattle.std.specs.Option.{ForSome}
use Rattle.std.proofs.lemmas.Bool.{le-leb}
use Rattle.std.proofs.lemmas.List.Concat.{flat_map-cons}
use Rattle.std.proofs.lemmas.List.{length-map}
use Rattle.pw_wire.specs.Decoding.{IsBytes}
use Rattle.pw_wire.specs.Field.{bytes_field, bytes_field_encoding}
use Rattle.seg_core.specs.declared.error.SegError.{SegError}
use Rattle.seg_core.specs.declared.error.SegError.TheVariants.{Chain, Loop, Entries, MissingField, TooLarge}
use Rattle.seg_core.specs.Shapes.{path_segment_shape, as_entry_shape, signed_message_shape}
use Rattle.seg_core.specs.Steps.{◌>>=◌, must_hold, each}
use Rattle.seg_core.specs.Message.{required_message, bytes_fields}
use Rattle.seg_core.specs.SegmentView.{EntryView, SegmentView}
use Rattle.seg_core.specs.Entry.{header_and_body_decoding, as_entry_decoding}
use Rattle.seg_core.specs.WellFormed.{is_entry_count, is_chain, has_no_loop}
use Rattle.seg_core.specs.Segment.{SegmentOutline, info_decoding, segment_outline, segment_decoding}
use Rattle.seg_core.specs.Encoding.{bytes_encoding, optional_encoding, signed_encoding, as_entry_encoding, entries_encoding, segment_encoding, entry_body, IsEntry, IsSegment}
use Rattle.seg_core.proofs.Bytes.{bytes-nil, bytes-append, field-bytes}
use Rattle.seg_core.proofs.Paths.{count-from, chain-from, no_loop-from}
use Rattle.seg_core.proofs.Readings.{ok_is}
use Rattle.seg_core.proofs.Sizes.{bytes_field-within}
use Rattle.seg_core.proofs.EncodedFields.{fields_of_bytes, optional_fields, entry_fields, signed-fields, entry-fields, entries-length, segment-length, segment-fields, message_fields-is, signed-fit, entry-fit, segment-fit, signed-there, signature-there, unsigned-there, signed_message-there, info-there, entries-there}

-- a step that gives a value
pub goes_on : {A B : Type 0} (r : Result A SegError) (f : A → Result B SegError) (x : A) (z : Result B SegError) → r ≡ Ok x → f x ≡ z → (r >>= f) ≡ z
goes_on r f x z was next = ap (λ r. r >>= f) was ∙ next

pub holds : (b : Bool) (reason : SegError) → b ≡ true → must_hold b reason ≡ Ok tt
holds b reason was = rw was refl

entry_again : (e : EntryView) → IsEntry e → length (as_entry_encoding e) < 2 ^ 64 → as_entry_decoding (as_entry_encoding e) ≡ Ok e
unfolding as_entry_decoding
entry_again e is fits =
    let fs = bytes_field 1 (signed_encoding e) ∷ optional_fields 2 e.unsigned in
    let parts = fields_of_bytes 1 e.signed ++ fields_of_bytes 2 e.signature in
    let parts_of : length (as_entry_encoding e) ≡ length (bytes_field_encoding 1 (signed_encoding e)) + length (optional_encoding 2 e.unsigned) = length-append (bytes_field_encoding 1 (signed_encoding e)) (optional_encoding 2 e.unsigned) in
    let within : length (signed_encoding e) < 2 ^ 64 = omega (arith, bytes_field-within 1 (signed_encoding e)) in
    goes_on _ _ fs (Ok e) (message_fields-is as_entry_shape (as_entry_encoding e) fs (entry-fields e fits) (entry-fit (signed_encoding e) e.unsigned))
    (goes_on (required_message 1 fs) _ (signed_encoding e) (Ok e) (ap (λ o. ok_or o MissingField) (signed_message-there (signed_encoding e) e.unsigned))
    (goes_on _ _ parts (Ok e) (message_fields-is signed_message_shape (signed_encoding e) parts (signed-fields e within) (signed-fit e.signed e.signature))
    (goes_on _ _ (entry_body e) (Ok e) (ap header_and_body_decoding (signed-there e.signed e.signature) ∙ is.says)
    (rw (signed-there e.signed e.signature, signature-there e.signed e.signature, unsigned-there (signed_encoding e) e.unsigned) refl))))

entries_again : (es : List EntryView) → AllByRecursion IsEntry es → length (entries_encoding es) < 2 ^ 64 → each as_entry_decoding (map as_entry_encoding es) ≡ Ok es
entries_again [] are fits = refl
entries_again (e ∷ es) are fits =
    let parts = entries-length e es in
    goes_on _ _ e (Ok (e ∷ es)) (entry_again e are.0 (omega (arith, bytes_field-within 2 (as_entry_encoding e))))
    (goes_on _ _ es (Ok (e ∷ es)) (entries_again es are.1 (omega arith)) refl)

-- the outline of a segment that is encoded
outline_of : SegmentView → SegmentOutline
outline_of s = record { timestamp = s.timestamp; segment_id = s.segment_id; info = s.info; entries = map as_entry_encoding s.entries }

outline_again : (s : SegmentView) → IsSegment s → segment_outline (segment_encoding s) ≡ Ok (outline_of s)
unfolding segment_outline outline_of
outline_again s is =
    let fs = fields_of_bytes 1 s.info ++ entry_fields s.entries in
    let short = is.short in
    let as_many : length (bytes_fields 2 fs) ≡ length s.entries = ap length (entries-there s.info s.entries) ∙ length-map s.entries as_entry_encoding in
    goes_on _ _ tt (Ok (outline_of s)) (holds (nat_le (length (segment_encoding s)) 16384) TooLarge (le-leb (length (segment_encoding s)) 16384 short))
    (goes_on _ _ fs (Ok (outline_of s)) (message_fields-is path_segment_shape (segment_encoding s) fs (segment-fields s (omega arith)) (segment-fit s.info s.entries))
    (goes_on _ _ tt (Ok (outline_of s)) (holds (is_entry_count (length (bytes_fields 2 fs))) Entries (rw as_many (count-from s.entries is.counted)))
    (goes_on _ _ (record { timestamp = s.timestamp; segment_id = s.segment_id }) (Ok (outline_of s)) (ap info_decoding (info-there s.info s.entries) ∙ is.info_says)
    (rw (info-there s.info s.entries, entries-there s.info s.entries) refl))))

pub decoding-encoding : (s : SegmentView) → IsSegment s → segment_decoding (segment_encoding s) ≡ Ok s
unfolding segment_decoding outline_of
decoding-encoding s is =
    let short = is.short in
    let parts = segment-length s in
    goes_on _ _ (outline_of s) (Ok s) (outline_again s is)
    (goes_on _ _ s.entries (Ok s) (entries_again s.entries is.entries (omega arith))
    (goes_on _ _ tt (Ok s) (holds (is_chain s.entries) Chain (chain-from s.entries is.chain))
    (goes_on _ _ tt (Ok s) (holds (has_no_loop s.entries) Loop (no_loop-from s.entries is.no_loop)) refl)))

-- two whole segments with one encoding are the same
pub encoding-injective : (s t : SegmentView) → IsSegment s → IsSegment t → segment_encoding s ≡ segment_encoding t → s ≡ t
encoding-injective s t one other same = ok_is s t (sym (decoding-encoding s one) ∙ ap segment_decoding same ∙ decoding-encoding t other)

-- ---- an encoding is bytes

-- bytes, left out where they are empty
part_bytes : (k : ℕ) (t : List ℕ) → k < 15 → length (bytes_encoding k t) < 2 ^ 64 → IsBytes t → IsBytes (bytes_encoding k t)
part_bytes k [] lt fits are = bytes-nil
part_bytes k (b ∷ t) lt fits are = field-bytes k (b ∷ t) lt (omega (arith, bytes_field-within k (b ∷ t))) are

optional_bytes : (o : Option (List ℕ)) → length (optional_encoding 2 o) < 2 ^ 64 → ForSome o IsBytes → IsBytes (optional_encoding 2 o)
optional_bytes None fits are = bytes-nil
optional_bytes (Some t) fits are = field-bytes 2 t (omega arith) (omega (arith, bytes_field-within 2 t)) (are t refl)

entry_bytes : (e : EntryView) → IsEntry e → length (as_entry_encoding e) < 2 ^ 64 → IsBytes (as_entry_encoding e)
entry_bytes e is fits =
    let whole : length (as_entry_encoding e) ≡ length (bytes_field_encoding 1 (signed_encoding e)) + length (optional_encoding 2 e.unsigned) = length-append (bytes_field_encoding 1 (signed_encoding e)) (optional_encoding 2 e.unsigned) in
    let within : length (signed_encoding e) ≤ length (bytes_field_encoding 1 (signed_encoding e)) = bytes_field-within 1 (signed_encoding e) in
    let parts : length (signed_encoding e) ≡ length (bytes_encoding 1 e.signed) + length (bytes_encoding 2 e.signature) = length-append (bytes_encoding 1 e.signed) (bytes_encoding 2 e.signature) in
    bytes-append (bytes_field_encoding 1 (signed_encoding e)) (optional_encoding 2 e.unsigned)
    (field-bytes 1 (signed_encoding e) (omega arith) (omega arith)
    (bytes-append (bytes_encoding 1 e.signed) (bytes_encoding 2 e.signature)
    (part_bytes 1 e.signed (omega arith) (omega arith) is.signed)
    (part_bytes 2 e.signature (omega arith) (omega arith) is.signature)))
    (optional_bytes e.unsigned (omega arith) is.unsigned)

entries_bytes : (es : List EntryView) → AllByRecursion IsEntry es → length (entries_encoding es) < 2 ^ 64 → IsBytes (entries_encoding es)
entries_bytes [] are fits = bytes-nil
entries_bytes (e ∷ es) are fits =
    let parts = entries-length e es in
    let within = bytes_field-within 2 (as_entry_encoding e) in
    rw (flat_map-cons (λ e. bytes_field_encoding 2 (as_entry_encoding e)) e es)
    (bytes-append (bytes_field_encoding 2 (as_entry_encoding e)) (entries_encoding es)
    (field-bytes 2 (as_entry_encoding e) (omega arith) (omega arith) (entry_bytes e are.0 (omega arith)))
    (entries_bytes es are.1 (omega arith)))

pub encoding-IsBytes : (s : SegmentView) → IsSegment s → IsBytes (segment_encoding s)
unfolding segment_encoding
encoding-IsBytes s is =
    let short = is.short in
    let parts = segment-length s in
    bytes-append (bytes_encoding 1 s.info) (entries_encoding s.entries)
    (part_bytes 1 s.info (omega arith) (omega arith) is.info_bytes)
    (entries_bytes s.entries is.entries (omega arith))
