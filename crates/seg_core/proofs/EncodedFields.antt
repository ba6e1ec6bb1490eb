-- The fields of encoded messages, and the values under their numbers.
use Rattle.std.proofs.Common.{◌≡◌, ℕ, ◌+◌, ◌≤◌, ◌<◌, ◌^◌, List, [], ◌∷◌, ◌++◌, length, map, Ok, Option, Some, None, refl, ap, subst, ◌∙◌, arith, length-append}
use Rattle.std.proofs.lemmas.List.Concat.{flat_map-cons}
use Rattle.pw_wire.specs.Field.{FieldView, bytes_field, bytes_field_encoding}
use Rattle.pw_wire.specs.Fields.{fields, fault}
use Rattle.seg_core.specs.declared.field_kind.FieldKind.{FieldKind}
use Rattle.seg_core.specs.Shapes.{path_segment_shape, as_entry_shape, signed_message_shape}
use Rattle.seg_core.specs.Message.{message_fields, misfit_after, last_bytes_field, bytes_fields, bytes_field_or_empty}
use Rattle.seg_core.specs.SegmentView.{EntryView, SegmentView}
use Rattle.seg_core.specs.Encoding.{bytes_encoding, optional_encoding, signed_encoding, as_entry_encoding, entries_encoding, segment_encoding}
use Rattle.pw_wire.proofs.Exports.{fields-nil, fault-nil, fields-bytes_field, fault-bytes_field}
use Rattle.seg_core.proofs.Sizes.{bytes_field-within}

-- ---- the fields of pieces

-- bytes, left out where they are empty
abbrev pub fields_of_bytes : ℕ → List ℕ → List FieldView
fields_of_bytes k [] = []
fields_of_bytes k (b ∷ bytes) = bytes_field k (b ∷ bytes) ∷ []

-- a message that may be missing
abbrev pub optional_fields : ℕ → Option (List ℕ) → List FieldView
optional_fields k None = []
optional_fields k (Some message) = bytes_field k message ∷ []

abbrev pub entry_fields : List EntryView → List FieldView
entry_fields es = map (λ e. bytes_field 2 (as_entry_encoding e)) es

-- a message that consists of exactly these fields
pub record HasFields (message : List ℕ) (fs : List FieldView) : Type 0 where
  pub fields_are : fields message ≡ fs
  pub faultless : fault message ≡ None

-- no message
pub nothing : HasFields [] []
nothing = record { fields_are = fields-nil; faultless = fault-nil }

-- one more field at the front
pub field_before : (k : ℕ) (t rest : List ℕ) (fs : List FieldView) → 1 ≤ k → k < 2 ^ 29 → length t < 2 ^ 64 → HasFields rest fs → HasFields (bytes_field_encoding k t ++ rest) (bytes_field k t ∷ fs)
field_before k t rest fs positive below fits has = record {
  fields_are = fields-bytes_field k t rest positive below fits ∙ ap (λ fs. bytes_field k t ∷ fs) has.fields_are;
  faultless = fault-bytes_field k t rest positive below fits ∙ has.faultless;
}

bytes_before : (k : ℕ) (t rest : List ℕ) (fs : List FieldView) → 1 ≤ k → k < 2 ^ 29 → length t < 2 ^ 64 → HasFields rest fs → HasFields (bytes_encoding k t ++ rest) (fields_of_bytes k t ++ fs)
bytes_before k [] rest fs positive below fits has = has
bytes_before k (b ∷ t) rest fs positive below fits has = field_before k (b ∷ t) rest fs positive below fits has

-- bytes with nothing after them
append_nil : {A : Type 0} (xs : List A) → xs ++ [] ≡ xs
append_nil [] = refl
append_nil (x ∷ xs) = ap (λ ys. x ∷ ys) (append_nil xs)

bytes_alone : (k : ℕ) (t : List ℕ) → 1 ≤ k → k < 2 ^ 29 → length t < 2 ^ 64 → HasFields (bytes_encoding k t) (fields_of_bytes k t)
bytes_alone k [] positive below fits = nothing
bytes_alone k (b ∷ t) positive below fits = subst (λ m. HasFields m (bytes_field k (b ∷ t) ∷ [])) (append_nil (bytes_field_encoding k (b ∷ t))) (field_before k (b ∷ t) [] [] positive below fits nothing)

optional_alone : (k : ℕ) (o : Option (List ℕ)) → 1 ≤ k → k < 2 ^ 29 → length (optional_encoding k o) < 2 ^ 64 → HasFields (optional_encoding k o) (optional_fields k o)
optional_alone k None positive below fits = nothing
optional_alone k (Some t) positive below fits = subst (λ m. HasFields m (bytes_field k t ∷ [])) (append_nil (bytes_field_encoding k t)) (field_before k t [] [] positive below (omega (arith, bytes_field-within k t)) nothing)

-- ---- the fields of messages

pub bytes-within : (k : ℕ) (t : List ℕ) → length t ≤ length (bytes_encoding k t)
bytes-within k [] = omega arith
bytes-within k (b ∷ t) = bytes_field-within k (b ∷ t)

-- a signed message
pub signed-fields : (e : EntryView) → length (signed_encoding e) < 2 ^ 64 → HasFields (signed_encoding e) (fields_of_bytes 1 e.signed ++ fields_of_bytes 2 e.signature)
signed-fields e fits =
    let parts : length (signed_encoding e) ≡ length (bytes_encoding 1 e.signed) + length (bytes_encoding 2 e.signature) = length-append (bytes_encoding 1 e.signed) (bytes_encoding 2 e.signature) in
    bytes_before 1 e.signed (bytes_encoding 2 e.signature) (fields_of_bytes 2 e.signature) (omega arith) (omega arith) (omega (arith, bytes-within 1 e.signed))
    (bytes_alone 2 e.signature (omega arith) (omega arith) (omega (arith, bytes-within 2 e.signature)))

-- the entry of one AS
pub entry-fields : (e : EntryView) → length (as_entry_encoding e) < 2 ^ 64 → HasFields (as_entry_encoding e) (bytes_field 1 (signed_encoding e) ∷ optional_fields 2 e.unsigned)
entry-fields e fits =
    let parts : length (as_entry_encoding e) ≡ length (bytes_field_encoding 1 (signed_encoding e)) + length (optional_encoding 2 e.unsigned) = length-append (bytes_field_encoding 1 (signed_encoding e)) (optional_encoding 2 e.unsigned) in
    field_before 1 (signed_encoding e) (optional_encoding 2 e.unsigned) (optional_fields 2 e.unsigned) (omega arith) (omega arith) (omega (arith, bytes_field-within 1 (signed_encoding e)))
    (optional_alone 2 e.unsigned (omega arith) (omega arith) (omega arith))

-- the first entry's encoding, and the others'
pub entries-length : (e : EntryView) (es : List EntryView) → length (entries_encoding (e ∷ es)) ≡ length (bytes_field_encoding 2 (as_entry_encoding e)) + length (entries_encoding es)
entries-length e es =
    rw (flat_map-cons (λ e. bytes_field_encoding 2 (as_entry_encoding e)) e es)
    (length-append (bytes_field_encoding 2 (as_entry_encoding e)) (entries_encoding es))

entries-fields : (es : List EntryView) → length (entries_encoding es) < 2 ^ 64 → HasFields (entries_encoding es) (entry_fields es)
entries-fields [] fits = nothing
entries-fields (e ∷ es) fits =
    let parts = entries-length e es in
    rw (flat_map-cons (λ e. bytes_field_encoding 2 (as_entry_encoding e)) e es)
    (field_before 2 (as_entry_encoding e) (entries_encoding es) (entry_fields es) (omega arith) (omega arith) (omega (arith, bytes_field-within 2 (as_entry_encoding e)))
    (entries-fields es (omega arith)))

-- a segment's parts
pub segment-length : (s : SegmentView) → length (segment_encoding s) ≡ length (bytes_encoding 1 s.info) + length (entries_encoding s.entries)
unfolding segment_encoding
segment-length s = length-append (bytes_encoding 1 s.info) (entries_encoding s.entries)

pub segment-fields : (s : SegmentView) → length (segment_encoding s) < 2 ^ 64 → HasFields (segment_encoding s) (fields_of_bytes 1 s.info ++ entry_fields s.entries)
unfolding segment_encoding
segment-fields s fits =
    let parts = segment-length s in
    bytes_before 1 s.info (entries_encoding s.entries) (entry_fields s.entries) (omega arith) (omega arith) (omega (arith, bytes-within 1 s.info))
    (entries-fields s.entries (omega arith))

-- ---- their checks

pub message_fields-is : (shape : List FieldKind) (message : List ℕ) (fs : List FieldView) → HasFields message fs → misfit_after shape [] fs ≡ None → message_fields shape message ≡ Ok fs
unfolding message_fields
message_fields-is shape message fs has fit = rw (has.faultless, has.fields_are, fit) refl

pub signed-fit : (s t : List ℕ) → misfit_after signed_message_shape [] (fields_of_bytes 1 s ++ fields_of_bytes 2 t) ≡ None
signed-fit [] [] = refl
signed-fit [] (c ∷ t) = refl
signed-fit (b ∷ s) [] = refl
signed-fit (b ∷ s) (c ∷ t) = refl

pub entry-fit : (s : List ℕ) (o : Option (List ℕ)) → misfit_after as_entry_shape [] (bytes_field 1 s ∷ optional_fields 2 o) ≡ None
entry-fit s None = refl
entry-fit s (Some t) = refl

entries-fit : (before : List FieldView) (es : List EntryView) → misfit_after path_segment_shape before (entry_fields es) ≡ None
entries-fit before [] = refl
entries-fit before (e ∷ es) = entries-fit (before ++ bytes_field 2 (as_entry_encoding e) ∷ []) es

pub segment-fit : (t : List ℕ) (es : List EntryView) → misfit_after path_segment_shape [] (fields_of_bytes 1 t ++ entry_fields es) ≡ None
segment-fit [] es = entries-fit [] es
segment-fit (b ∷ t) es = entries-fit (bytes_field 1 (b ∷ t) ∷ []) es

-- ---- what is under their numbers

pub signed-there : (s t : List ℕ) → bytes_field_or_empty 1 (fields_of_bytes 1 s ++ fields_of_bytes 2 t) ≡ s
signed-there [] [] = refl
signed-there [] (c ∷ t) = refl
signed-there (b ∷ s) [] = refl
signed-there (b ∷ s) (c ∷ t) = refl

pub signature-there : (s t : List ℕ) → bytes_field_or_empty 2 (fields_of_bytes 1 s ++ fields_of_bytes 2 t) ≡ t
signature-there [] [] = refl
signature-there [] (c ∷ t) = refl
signature-there (b ∷ s) [] = refl
signature-there (b ∷ s) (c ∷ t) = refl

pub unsigned-there : (s : List ℕ) (o : Option (List ℕ)) → last_bytes_field 2 (bytes_field 1 s ∷ optional_fields 2 o) ≡ o
unsigned-there s None = refl
unsigned-there s (Some t) = refl

pub signed_message-there : (s : List ℕ) (o : Option (List ℕ)) → last_bytes_field 1 (bytes_field 1 s ∷ optional_fields 2 o) ≡ Some s
signed_message-there s None = refl
signed_message-there s (Some t) = refl

no_info : (es : List EntryView) → bytes_fields 1 (entry_fields es) ≡ []
no_info [] = refl
no_info (e ∷ es) = no_info es

entries_there : (es : List EntryView) → bytes_fields 2 (entry_fields es) ≡ map as_entry_encoding es
entries_there [] = refl
entries_there (e ∷ es) = ap (λ ts. as_entry_encoding e ∷ ts) (entries_there es)

pub info-there : (t : List ℕ) (es : List EntryView) → bytes_field_or_empty 1 (fields_of_bytes 1 t ++ entry_fields es) ≡ t
info-there [] es = rw (no_info es) refl
info-there (b ∷ t) es = rw (no_info es) refl

pub entries-there : (t : List ℕ) (es : List EntryView) → bytes_fields 2 (fields_of_bytes 1 t ++ entry_fields es) ≡ map as_entry_encoding es
entries-there [] es = entries_there es
entries-there (b ∷ t) es = entries_there es
