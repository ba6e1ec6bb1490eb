-- The pieces that are appended are together the encoding of a response.
use Rattle.std.proofs.Common.{◌≡◌, ℕ, ◌+◌, ◌<◌, true, false, List, [], ◌∷◌, ◌++◌, length, drop, get_or, refl, sym, ap, ◌∙◌, arith, append_assoc, length-append, drop-cons, add-one}
use Rattle.std.specs.Prelude.{◌==◌}
use Rattle.std.proofs.lemmas.List.Concat.{flat_map-cons}
use Rattle.std.specs.Borrow.{Bor}
use denote.Enum.Bare.{sameb}
use Rattle.pw_wire.specs.Varint.{varint_encoding, encoding_within}
use Rattle.pw_wire.specs.Field.{varint_field_encoding, bytes_field_encoding}
use Rattle.seg_core.specs.contracts.seg_type.SegType.{the_type}
use Rattle.seg_core.specs.declared.seg_type.SegType.{SegType}
use Rattle.seg_core.specs.declared.seg_type.SegType.TheVariants.{Up, Down, Core}
use Rattle.seg_core.specs.Registration.{type_number}
use Rattle.seg_core.specs.SegmentView.{SegmentView}
use Rattle.seg_core.specs.Encoding.{field_head_encoding, segment_encoding, segments_encoding, of_type, map_entry_encoding, referred_rows}
use Rattle.seg_core.proofs.EncodedLengths.{field-length}
use Rattle.seg_core.proofs.Written.{field-put, both-put}

-- types are equal where their numbers are
pub same-type : (a b : SegType) → sameb the_type a b ≡ (type_number a == type_number b)
same-type Up Up = refl
same-type Up Down = refl
same-type Up Core = refl
same-type Down Up = refl
same-type Down Down = refl
same-type Down Core = refl
same-type Core Up = refl
same-type Core Down = refl
same-type Core Core = refl

-- ---- the segments of a type

-- a reference to a segment, with its type
abbrev Referring : Type 0
Referring = SegType × Bor SegmentView

-- the rows that are left begin with the next one
split_at : (rows : List Referring) (i : ℕ) (row : Referring) → i < length rows → row ≡ get_or rows i row → referred_rows (drop i rows) ≡ (row.0, row.1.now) ∷ referred_rows (drop (i + 1) rows)
split_at rows i row lt is =
    let split : drop i rows ≡ get_or rows i row ∷ drop (i + 1) rows = rw add-one (drop-cons rows i row lt) in
    ap referred_rows (split ∙ ap (λ r. r ∷ drop (i + 1) rows) (sym is))

pub one_of_type : (kind : SegType) (row : SegType × SegmentView) (rows : List (SegType × SegmentView)) → (type_number row.0 == type_number kind) ≡ true → of_type kind (row ∷ rows) ≡ row.1 ∷ of_type kind rows
one_of_type kind row rows same = rw same refl

pub not_of_type : (kind : SegType) (row : SegType × SegmentView) (rows : List (SegType × SegmentView)) → (type_number row.0 == type_number kind) ≡ false → of_type kind (row ∷ rows) ≡ of_type kind rows
not_of_type kind row rows other = rw other refl

-- the next row is of the type
pub segment-next : (kind : SegType) (rows : List Referring) (i : ℕ) (row : Referring) (len : ℕ) (whole out headed done : List ℕ)
    → i < length rows → row ≡ get_or rows i row → sameb the_type row.0 kind ≡ true → out ++ segments_encoding (of_type kind (referred_rows (drop i rows))) ≡ whole
    → len ≡ length (segment_encoding row.1.now) → headed ≡ out ++ field_head_encoding 1 len → done ≡ headed ++ segment_encoding row.1.now
    → done ++ segments_encoding (of_type kind (referred_rows (drop (i + 1) rows))) ≡ whole
segment-next kind rows i row len whole out headed done lt is same so_far long head one =
    let others = of_type kind (referred_rows (drop (i + 1) rows)) in
    let first = segment_encoding row.1.now in
    let left : segments_encoding (of_type kind (referred_rows (drop i rows))) ≡ bytes_field_encoding 1 first ++ segments_encoding others =
    ap (λ rs. segments_encoding (of_type kind rs)) (split_at rows i row lt is)
    ∙ ap segments_encoding (one_of_type kind (row.0, row.1.now) (referred_rows (drop (i + 1) rows)) (sym (same-type row.0 kind) ∙ same))
    ∙ flat_map-cons (λ s. bytes_field_encoding 1 (segment_encoding s)) row.1.now others in
    ap (λ xs. xs ++ segments_encoding others) (field-put 1 len first out headed done long head one)
    ∙ append_assoc out (bytes_field_encoding 1 first) (segments_encoding others)
    ∙ ap (λ xs. out ++ xs) (sym left)
    ∙ so_far

-- the next row is of another type
pub other-next : (kind : SegType) (rows : List Referring) (i : ℕ) (row : Referring) (whole out : List ℕ)
    → i < length rows → row ≡ get_or rows i row → sameb the_type row.0 kind ≡ false → out ++ segments_encoding (of_type kind (referred_rows (drop i rows))) ≡ whole
    → out ++ segments_encoding (of_type kind (referred_rows (drop (i + 1) rows))) ≡ whole
other-next kind rows i row whole out lt is other so_far =
    let left : segments_encoding (of_type kind (referred_rows (drop i rows))) ≡ segments_encoding (of_type kind (referred_rows (drop (i + 1) rows))) =
    ap (λ rs. segments_encoding (of_type kind rs)) (split_at rows i row lt is)
    ∙ ap segments_encoding (not_of_type kind (row.0, row.1.now) (referred_rows (drop (i + 1) rows)) (sym (same-type row.0 kind) ∙ other)) in
    ap (λ xs. out ++ xs) (sym left) ∙ so_far

-- ---- the map entry of a type

pub some_bytes : (s : SegmentView) (ss : List SegmentView) → length (segments_encoding (s ∷ ss)) ≡ 0 → ⊥
some_bytes s ss none =
    let parts = length-append (bytes_field_encoding 1 (segment_encoding s)) (segments_encoding ss) in
    omega (arith, ap length (flat_map-cons (λ s. bytes_field_encoding 1 (segment_encoding s)) s ss), parts, field-length 1 (segment_encoding s) (omega arith))

-- no bytes are the encoding of no segments
pub none-of : (kind : SegType) (ss : List SegmentView) → length (segments_encoding ss) ≡ 0 → map_entry_encoding kind ss ≡ []
none-of kind [] none = refl
none-of kind (s ∷ ss) none = absurd (some_bytes s ss none)

-- a key, and the segments
abbrev pub content_of : SegType → List SegmentView → List ℕ
content_of kind ss = varint_field_encoding 1 (type_number kind) ++ bytes_field_encoding 2 (segments_encoding ss)

pub some-of : (kind : SegType) (ss : List SegmentView) → (length (segments_encoding ss) ≡ 0 → ⊥) → map_entry_encoding kind ss ≡ bytes_field_encoding 1 (content_of kind ss)
some-of kind [] some = absurd (some refl)
some-of kind (s ∷ ss) some = refl

key_length : (kind : SegType) → length (varint_field_encoding 1 (type_number kind)) ≡ 2
unfolding varint_field_encoding varint_encoding encoding_within
key_length Up = refl
key_length Down = refl
key_length Core = refl

pub content-length : (kind : SegType) (ss : List SegmentView) → length (content_of kind ss) ≡ 2 + length (bytes_field_encoding 2 (segments_encoding ss))
content-length kind ss =
    length-append (varint_field_encoding 1 (type_number kind)) (bytes_field_encoding 2 (segments_encoding ss))
    ∙ ap (λ n. n + length (bytes_field_encoding 2 (segments_encoding ss))) (key_length kind)

pub type-put : (kind : SegType) (ss : List SegmentView) (value content : ℕ) (out headed keyed opened done : List ℕ)
    → (length (segments_encoding ss) ≡ 0 → ⊥) → value ≡ length (segments_encoding ss) → content ≡ 2 + length (bytes_field_encoding 2 (segments_encoding ss))
    → headed ≡ out ++ field_head_encoding 1 content → keyed ≡ headed ++ varint_field_encoding 1 (type_number kind) → opened ≡ keyed ++ field_head_encoding 2 value
    → done ≡ opened ++ segments_encoding ss → done ≡ out ++ map_entry_encoding kind ss
type-put kind ss value content out headed keyed opened done some same long head key inside rest =
    let inner : done ≡ keyed ++ bytes_field_encoding 2 (segments_encoding ss) = field-put 2 value (segments_encoding ss) keyed opened done same inside rest in
    let both : done ≡ headed ++ content_of kind ss = both-put (varint_field_encoding 1 (type_number kind)) (bytes_field_encoding 2 (segments_encoding ss)) headed keyed done key inner in
    field-put 1 content (content_of kind ss) out headed done (long ∙ sym (content-length kind ss)) head both
    ∙ ap (λ xs. out ++ xs) (sym (some-of kind ss some))
