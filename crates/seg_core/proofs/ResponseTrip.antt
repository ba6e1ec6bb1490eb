-- The encoding of a response is read as its segments.
use Rattle.std.proofs.Common.{◌≡◌, ℕ, ◌+◌, ◌≤◌, ◌<◌, ◌^◌, false, List, [], ◌∷◌, ◌++◌, length, map, Ok, None, refl, sym, ap, subst, ◌∙◌, arith, inl, inr, length-append, append_assoc}
use Rattle.std.specs.Prelude.{◌==◌, nat_lt, nat_le}
use Rattle.std.specs.List.{AllByRecursion, flat_map}
use Rattle.std.proofs.lemmas.Bool.{cases_Bool, le-leb, lt-ltb}
use Rattle.std.proofs.lemmas.List.{append-nil, length-map}
use Rattle.std.proofs.lemmas.List.Concat.{flat_map-cons}
use Rattle.std.proofs.lemmas.List.Folds.{flat_map-map}
use Rattle.pw_wire.specs.Field.{FieldView, varint_field, bytes_field, bytes_field_encoding}
use Rattle.pw_wire.proofs.Exports.{fields-varint_field, fault-varint_field}
use Rattle.seg_core.specs.declared.error.SegError.TheVariants.{TooLarge}
use Rattle.seg_core.specs.declared.seg_type.SegType.{SegType}
use Rattle.seg_core.specs.declared.seg_type.SegType.TheVariants.{Up, Down, Core}
use Rattle.seg_core.specs.Shapes.{map_shape, map_entry_shape, segments_shape}
use Rattle.seg_core.specs.Message.{misfit_after, bytes_fields}
use Rattle.seg_core.specs.SegmentView.{SegmentView}
use Rattle.seg_core.specs.Steps.{result_map}
use Rattle.seg_core.specs.Registration.{type_number, typed_segments, MapEntry, entry_rows, has_type, new_type, segments_decoding, map_entry_decoding, map_decoding, registration_outline, registration_decoding}
use Rattle.seg_core.specs.Encoding.{IsSegment, segment_encoding, segments_encoding, of_type, map_entry_encoding, response_encoding, by_type}
use Rattle.seg_core.proofs.Sizes.{bytes_field-within}
use Rattle.seg_core.proofs.EncodedFields.{HasFields, nothing, field_before, message_fields-is}
use Rattle.seg_core.proofs.Responses.{content_of, content-length}
use Rattle.seg_core.proofs.Rows.{entry_rows-push}
use Rattle.seg_core.proofs.RoundTrip.{goes_on, holds, decoding-encoding}

-- ---- messages that are fields of one number

abbrev messages_encoding : List (List ℕ) → List ℕ
messages_encoding ts = flat_map (bytes_field_encoding 1) ts

abbrev messages_fields : List (List ℕ) → List FieldView
messages_fields ts = map (bytes_field 1) ts

messages_have : (ts : List (List ℕ)) → length (messages_encoding ts) < 2 ^ 64 → HasFields (messages_encoding ts) (messages_fields ts)
messages_have [] fits = nothing
messages_have (t ∷ ts) fits =
    let parts : length (messages_encoding (t ∷ ts)) ≡ length (bytes_field_encoding 1 t) + length (messages_encoding ts) =
    ap length (flat_map-cons (bytes_field_encoding 1) t ts) ∙ length-append (bytes_field_encoding 1 t) (messages_encoding ts) in
    rw (flat_map-cons (bytes_field_encoding 1) t ts)
    (field_before 1 t (messages_encoding ts) (messages_fields ts) (omega arith) (omega arith) (omega (arith, bytes_field-within 1 t)) (messages_have ts (omega arith)))

map_fit : (before : List FieldView) (ts : List (List ℕ)) → misfit_after map_shape before (messages_fields ts) ≡ None
map_fit before [] = refl
map_fit before (t ∷ ts) = map_fit (before ++ bytes_field 1 t ∷ []) ts

segments_fit : (before : List FieldView) (ts : List (List ℕ)) → misfit_after segments_shape before (messages_fields ts) ≡ None
segments_fit before [] = refl
segments_fit before (t ∷ ts) = segments_fit (before ++ bytes_field 1 t ∷ []) ts

messages_there : (ts : List (List ℕ)) → bytes_fields 1 (messages_fields ts) ≡ ts
messages_there [] = refl
messages_there (t ∷ ts) = ap (λ us. t ∷ us) (messages_there ts)

-- ---- the segments of one type

segments_again : (count : ℕ) (ss : List SegmentView) → AllByRecursion IsSegment ss → count + length ss ≤ 16 → segments_decoding count (map segment_encoding ss) ≡ Ok ss
unfolding segments_decoding
segments_again count [] whole few = refl
segments_again count (s ∷ ss) whole few =
    goes_on _ _ tt (Ok (s ∷ ss)) (holds (nat_lt count 16) TooLarge (lt-ltb count 16 (omega arith)))
    (goes_on _ _ s (Ok (s ∷ ss)) (decoding-encoding s whole.0)
    (goes_on _ _ ss (Ok (s ∷ ss)) (segments_again (count + 1) ss whole.1 (omega arith)) refl))

-- ---- an entry of the map

new_again : (earlier : List MapEntry) (kind : SegType) → has_type earlier kind ≡ false → new_type earlier (type_number kind) ≡ Ok kind
unfolding new_type
new_again earlier Up fresh = rw fresh refl
new_again earlier Down fresh = rw fresh refl
new_again earlier Core fresh = rw fresh refl

type_small : (kind : SegType) → type_number kind < 2 ^ 64
type_small Up = omega arith
type_small Down = omega arith
type_small Core = omega arith

abbrev content_fields : SegType → List SegmentView → List FieldView
content_fields kind ss = varint_field 1 (type_number kind) ∷ bytes_field 2 (segments_encoding ss) ∷ []

content_has : (kind : SegType) (ss : List SegmentView) → length (segments_encoding ss) < 2 ^ 64 → HasFields (content_of kind ss) (content_fields kind ss)
content_has kind ss fits =
    let value = subst (λ m. HasFields m (bytes_field 2 (segments_encoding ss) ∷ [])) (append-nil (bytes_field_encoding 2 (segments_encoding ss)))
    (field_before 2 (segments_encoding ss) [] [] (omega arith) (omega arith) fits nothing) in
    let rest = bytes_field_encoding 2 (segments_encoding ss) in
    record {
      fields_are = fields-varint_field 1 (type_number kind) rest (omega arith) (omega arith) (type_small kind) ∙ ap (λ fs. varint_field 1 (type_number kind) ∷ fs) value.fields_are;
      faultless = fault-varint_field 1 (type_number kind) rest (omega arith) (omega arith) (type_small kind) ∙ value.faultless;
    }

-- segments, one after the other
encoded_one_by_one : (ss : List SegmentView) → segments_encoding ss ≡ messages_encoding (map segment_encoding ss)
encoded_one_by_one ss = sym (flat_map-map (bytes_field_encoding 1) segment_encoding ss)

entry_again : (earlier : List MapEntry) (kind : SegType) (ss : List SegmentView) → has_type earlier kind ≡ false
    → AllByRecursion IsSegment ss → length (entry_rows earlier) + length ss ≤ 16 → length (segments_encoding ss) < 2 ^ 64 → map_entry_decoding earlier (content_of kind ss) ≡ Ok (kind, ss)
unfolding map_entry_decoding
entry_again earlier kind ss fresh whole few fits =
    let ts = map segment_encoding ss in
    let same = encoded_one_by_one ss in
    let value : HasFields (segments_encoding ss) (messages_fields ts) = rw same (messages_have ts (rw (← same) fits)) in
    goes_on _ _ (content_fields kind ss) (Ok (kind, ss)) (message_fields-is map_entry_shape (content_of kind ss) (content_fields kind ss) (content_has kind ss fits) refl)
    (goes_on _ _ kind (Ok (kind, ss)) (new_again earlier kind fresh)
    (goes_on _ _ (messages_fields ts) (Ok (kind, ss)) (message_fields-is segments_shape (segments_encoding ss) (messages_fields ts) value (segments_fit [] ts))
    (goes_on _ _ ss (Ok (kind, ss)) (ap (segments_decoding (length (entry_rows earlier))) (messages_there ts) ∙ segments_again (length (entry_rows earlier)) ss whole few) refl)))

-- ---- the map

-- the entry of a type that has segments
abbrev type_texts : SegType → List SegmentView → List (List ℕ)
type_texts kind [] = []
type_texts kind (s ∷ ss) = content_of kind (s ∷ ss) ∷ []

-- the entries, and that of this type
abbrev later : SegType → List SegmentView → List MapEntry → List MapEntry
later kind [] earlier = earlier
later kind (s ∷ ss) earlier = earlier ++ (kind, s ∷ ss) ∷ []

later_rows : (kind : SegType) (ss : List SegmentView) (earlier : List MapEntry) → entry_rows (later kind ss earlier) ≡ entry_rows earlier ++ typed_segments kind ss
later_rows kind [] earlier = sym (append-nil (entry_rows earlier))
later_rows kind (s ∷ ss) earlier = entry_rows-push earlier (kind, s ∷ ss)

later_count : (kind : SegType) (ss : List SegmentView) (earlier : List MapEntry) → length (entry_rows (later kind ss earlier)) ≡ length (entry_rows earlier) + length ss
later_count kind ss earlier =
    ap length (later_rows kind ss earlier) ∙ length-append (entry_rows earlier) (typed_segments kind ss) ∙ ap (λ n. length (entry_rows earlier) + n) (length-map ss (λ s. (kind, s)))

type_read : (kind : SegType) (ss : List SegmentView) (earlier all : List MapEntry) (rest : List (List ℕ))
    → has_type earlier kind ≡ false → AllByRecursion IsSegment ss → length (entry_rows earlier) + length ss ≤ 16 → length (segments_encoding ss) < 2 ^ 64
    → map_decoding (later kind ss earlier) rest ≡ Ok all → map_decoding earlier (type_texts kind ss ++ rest) ≡ Ok all
unfolding map_decoding
type_read kind [] earlier all rest fresh whole few fits next = next
type_read kind (s ∷ ss) earlier all rest fresh whole few fits next = goes_on _ _ (kind, s ∷ ss) (Ok all) (entry_again earlier kind (s ∷ ss) fresh whole few fits) next

type_encoded : (kind : SegType) (ss : List SegmentView) (rest : List (List ℕ)) → map_entry_encoding kind ss ++ messages_encoding rest ≡ messages_encoding (type_texts kind ss ++ rest)
type_encoded kind [] rest = refl
type_encoded kind (s ∷ ss) rest = sym (flat_map-cons (bytes_field_encoding 1) (content_of kind (s ∷ ss)) rest)

value_within : (kind : SegType) (ss : List SegmentView) → length (segments_encoding ss) ≤ length (map_entry_encoding kind ss)
value_within kind [] = omega arith
value_within kind (s ∷ ss) =
    omega (arith, bytes_field-within 1 (content_of kind (s ∷ ss)), content-length kind (s ∷ ss), bytes_field-within 2 (segments_encoding (s ∷ ss)))

-- ---- the segments of each type

whole_of : (kind : SegType) (rows : List (SegType × SegmentView)) → AllByRecursion (λ row. IsSegment row.1) rows → AllByRecursion IsSegment (of_type kind rows)
whole_of kind [] whole = tt
whole_of kind (row ∷ rows) whole = elim (cases_Bool (type_number row.0 == type_number kind)) [
  | inl same ↦ rw same (whole.0, whole_of kind rows whole.1)
  | inr other ↦ rw other (whole_of kind rows whole.1)
]

abbrev many : List (SegType × SegmentView) → ℕ
many rows = length (of_type Up rows) + length (of_type Down rows) + length (of_type Core rows)

one_more : (kind : SegType) (s : SegmentView) (rows : List (SegType × SegmentView)) → many rows ≡ length rows → many ((kind, s) ∷ rows) ≡ length rows + 1
one_more Up s rows all = omega arith
one_more Down s rows all = omega arith
one_more Core s rows all = omega arith

all_counted : (rows : List (SegType × SegmentView)) → many rows ≡ length rows
all_counted [] = refl
all_counted (row ∷ rows) = omega (arith, one_more row.0 row.1 rows (all_counted rows))

-- no type has had an entry before its own
fresh_down : (u : List SegmentView) → has_type (later Up u []) Down ≡ false
fresh_down [] = refl
fresh_down (s ∷ u) = refl

fresh_core : (u d : List SegmentView) → has_type (later Down d (later Up u [])) Core ≡ false
fresh_core [] [] = refl
fresh_core (s ∷ u) [] = refl
fresh_core [] (t ∷ d) = refl
fresh_core (s ∷ u) (t ∷ d) = refl

none_left : (all : List MapEntry) → map_decoding all [] ≡ Ok all
unfolding map_decoding
none_left all = refl

-- ---- the response

contents : List (SegType × SegmentView) → List (List ℕ)
contents rows = type_texts Up (of_type Up rows) ++ (type_texts Down (of_type Down rows) ++ (type_texts Core (of_type Core rows) ++ []))

response_encoded : (rows : List (SegType × SegmentView)) → response_encoding rows ≡ messages_encoding (contents rows)
unfolding response_encoding contents
response_encoded rows =
    let u = of_type Up rows in
    let d = of_type Down rows in
    let c = of_type Core rows in
    let core : map_entry_encoding Core c ≡ messages_encoding (type_texts Core c ++ []) = sym (append-nil (map_entry_encoding Core c)) ∙ type_encoded Core c [] in
    let down : map_entry_encoding Down d ++ map_entry_encoding Core c ≡ messages_encoding (type_texts Down d ++ (type_texts Core c ++ [])) =
    ap (λ xs. map_entry_encoding Down d ++ xs) core ∙ type_encoded Down d (type_texts Core c ++ []) in
    ap (λ xs. map_entry_encoding Up u ++ xs) down ∙ type_encoded Up u (type_texts Down d ++ (type_texts Core c ++ []))

response_parts : (rows : List (SegType × SegmentView))
    → length (response_encoding rows) ≡ length (map_entry_encoding Up (of_type Up rows)) + (length (map_entry_encoding Down (of_type Down rows)) + length (map_entry_encoding Core (of_type Core rows)))
unfolding response_encoding
response_parts rows = simp length-append

-- the entries that are read
all_entries : List (SegType × SegmentView) → List MapEntry
all_entries rows = later Core (of_type Core rows) (later Down (of_type Down rows) (later Up (of_type Up rows) []))

all_rows : (rows : List (SegType × SegmentView)) → entry_rows (all_entries rows) ≡ by_type rows
unfolding all_entries
all_rows rows =
    let u = of_type Up rows in
    let d = of_type Down rows in
    let c = of_type Core rows in
    later_rows Core c (later Down d (later Up u []))
    ∙ ap (λ xs. xs ++ typed_segments Core c) (later_rows Down d (later Up u []) ∙ ap (λ xs. xs ++ typed_segments Down d) (later_rows Up u []))
    ∙ append_assoc (typed_segments Up u) (typed_segments Down d) (typed_segments Core c)

contents_read : (rows : List (SegType × SegmentView)) → AllByRecursion (λ row. IsSegment row.1) rows → length rows ≤ 16 → length (response_encoding rows) ≤ 131072
    → map_decoding [] (contents rows) ≡ Ok (all_entries rows)
unfolding contents all_entries
contents_read rows whole few small =
    let u = of_type Up rows in
    let d = of_type Down rows in
    let c = of_type Core rows in
    let all = all_counted rows in
    let parts = response_parts rows in
    let up = value_within Up u in
    let down = value_within Down d in
    let core = value_within Core c in
    let first = later_count Up u [] in
    let second = later_count Down d (later Up u []) in
    let entries = later Core c (later Down d (later Up u [])) in
    type_read Up u [] entries (type_texts Down d ++ (type_texts Core c ++ [])) refl (whole_of Up rows whole) (omega arith) (omega arith)
    (type_read Down d (later Up u []) entries (type_texts Core c ++ []) (fresh_down u) (whole_of Down rows whole) (omega arith) (omega arith)
    (type_read Core c (later Down d (later Up u [])) entries [] (fresh_core u d) (whole_of Core rows whole) (omega arith) (omega arith) (none_left entries)))

pub decoding-response : (rows : List (SegType × SegmentView)) → AllByRecursion (λ row. IsSegment row.1) rows → length rows ≤ 16 → length (response_encoding rows) ≤ 131072
    → registration_decoding (response_encoding rows) ≡ Ok (by_type rows)
unfolding registration_decoding registration_outline
decoding-response rows whole few small =
    let ts = contents rows in
    let same = response_encoded rows in
    let fits : length (messages_encoding ts) < 2 ^ 64 = rw (← same) (omega arith) in
    let has : HasFields (response_encoding rows) (messages_fields ts) = rw same (messages_have ts fits) in
    goes_on _ _ ts (Ok (by_type rows))
    (goes_on _ _ tt (Ok ts) (holds (nat_le (length (response_encoding rows)) 131072) TooLarge (le-leb (length (response_encoding rows)) 131072 small))
    (goes_on _ _ (messages_fields ts) (Ok ts) (message_fields-is map_shape (response_encoding rows) (messages_fields ts) has (map_fit [] ts)) (ap Ok (messages_there ts))))
    (ap (result_map entry_rows) (contents_read rows whole few small) ∙ ap Ok (all_rows rows))
