-- The fields and the fault of bytes that begin with a field. For the laws `all_fields` and
-- `encoded_fields`, and for `NextField`.
use Rattle.std.proofs.Common.{◌≡◌, ◌≢◌, ◌↔◌, ℕ, zero, suc, ◌+◌, ◌*◌, ◌^◌, ◌<◌, ◌≤◌, List, [], ◌∷◌, ◌++◌, length, drop, Option, Some, None, Result, Ok, Err, refl, sym, ap, subst, ◌∙◌, append_assoc, arith}
use Rattle.std.proofs.lemmas.List.{length-append, length-drop, get_or-drop, drop_at}
use Rattle.pw_wire.specs.declared.error.WireError.{WireError}
use Rattle.pw_wire.specs.declared.error.WireError.TheVariants.{Truncated}
use Rattle.pw_wire.specs.Decoding.{◌>>=◌, IsBytes}
use Rattle.pw_wire.specs.Varint.{IsVarint, BeginsWithVarint, varint_encoding}
use Rattle.pw_wire.specs.Field.{Varint, Bytes, FieldView, varint_field, bytes_field, IsField, IsFieldFault, in_tag, at_tag, in_value, field_behind, field_at, varint_field_encoding, bytes_field_encoding}
use Rattle.pw_wire.specs.Fields.{AreFields, AreFieldsUntil, fields_from, fault_from, fields_within, fault_within, fields, fault}
use Rattle.pw_wire.proofs.VarintReading.{within-nil}
use Rattle.pw_wire.proofs.Varints.{varint_encoding_is}
use Rattle.pw_wire.proofs.FieldLemmas.{begins_again, field_again, field_took, fault_again, fault_is}

-- ---- one step

-- empty bytes have no fields
pub fields-nil : fields [] ≡ []
unfolding fields fields_within
fields-nil = refl

-- empty bytes have no fault
pub fault-nil : fault [] ≡ None
unfolding fault fault_within
fault-nil = refl

-- empty bytes are read as truncated
pub nothing_read : field_at [] ≡ Err Truncated
unfolding field_at
nothing_read = ap (λ r. r >>= λ tag. field_behind tag []) (within-nil 9)

same_fields : (r : Result (FieldView × ℕ) WireError) (g h : ℕ → List FieldView) → ((x : FieldView × ℕ) → r ≡ Ok x → g x.1 ≡ h x.1) → fields_from r g ≡ fields_from r h
same_fields (Ok x) g h same = ap (λ fs. x.0 ∷ fs) (same x refl)
same_fields (Err e) g h same = refl

same_fault : (r : Result (FieldView × ℕ) WireError) (g h : ℕ → Option WireError) → ((x : FieldView × ℕ) → r ≡ Ok x → g x.1 ≡ h x.1) → fault_from r g ≡ fault_from r h
same_fault (Ok x) g h same = same x refl
same_fault (Err e) g h same = refl

-- what a field leaves is shorter
shorter : (b : ℕ) (bytes : List ℕ) (n most : ℕ) → 1 ≤ n → length (b ∷ bytes) ≤ suc most → length (drop n (b ∷ bytes)) ≤ most
shorter b bytes n most positive le = omega (arith, length-drop n (b ∷ bytes))

-- more steps than bytes change nothing
fields_enough : (m k : ℕ) (bytes : List ℕ) → length bytes ≤ m → length bytes ≤ k → fields_within m bytes ≡ fields_within k bytes
unfolding fields_within
fields_enough zero zero bytes le le' = refl
fields_enough zero (suc k) [] le le' = refl
fields_enough zero (suc k) (b ∷ bytes) le le' = absurd (omega arith)
fields_enough (suc m) zero [] le le' = refl
fields_enough (suc m) zero (b ∷ bytes) le le' = absurd (omega arith)
fields_enough (suc m) (suc k) [] le le' = refl
fields_enough (suc m) (suc k) (b ∷ bytes) le le' =
    same_fields (field_at (b ∷ bytes)) (λ n. fields_within m (drop n (b ∷ bytes))) (λ n. fields_within k (drop n (b ∷ bytes)))
    (λ x e. let positive = (field_took (b ∷ bytes) x e).positive in fields_enough m k (drop x.1 (b ∷ bytes)) (shorter b bytes x.1 m positive le) (shorter b bytes x.1 k positive le'))

fault_enough : (m k : ℕ) (bytes : List ℕ) → length bytes ≤ m → length bytes ≤ k → fault_within m bytes ≡ fault_within k bytes
unfolding fault_within
fault_enough zero zero bytes le le' = refl
fault_enough zero (suc k) [] le le' = refl
fault_enough zero (suc k) (b ∷ bytes) le le' = absurd (omega arith)
fault_enough (suc m) zero [] le le' = refl
fault_enough (suc m) zero (b ∷ bytes) le le' = absurd (omega arith)
fault_enough (suc m) (suc k) [] le le' = refl
fault_enough (suc m) (suc k) (b ∷ bytes) le le' =
    same_fault (field_at (b ∷ bytes)) (λ n. fault_within m (drop n (b ∷ bytes))) (λ n. fault_within k (drop n (b ∷ bytes)))
    (λ x e. let positive = (field_took (b ∷ bytes) x e).positive in fault_enough m k (drop x.1 (b ∷ bytes)) (shorter b bytes x.1 m positive le) (shorter b bytes x.1 k positive le'))

-- bytes that begin with a field have this field, and then the fields after it
pub fields-read : (bytes : List ℕ) (f : FieldView) (n : ℕ) → field_at bytes ≡ Ok (f, n) → fields bytes ≡ f ∷ fields (drop n bytes)
unfolding fields fields_within
fields-read [] f n e = absurd (let nil = nothing_read in cc)
fields-read (b ∷ bytes) f n e =
    ap (λ r. fields_from r (λ k. fields_within (length bytes) (drop k (b ∷ bytes)))) e
    ∙ ap (λ fs. f ∷ fs) (fields_enough (length bytes) (length (drop n (b ∷ bytes))) (drop n (b ∷ bytes)) (shorter b bytes n (length bytes) (field_took (b ∷ bytes) (f, n) e).positive (omega arith)) (omega arith))

pub fault-read : (bytes : List ℕ) (f : FieldView) (n : ℕ) → field_at bytes ≡ Ok (f, n) → fault bytes ≡ fault (drop n bytes)
unfolding fault fault_within
fault-read [] f n e = absurd (let nil = nothing_read in cc)
fault-read (b ∷ bytes) f n e =
    ap (λ r. fault_from r (λ k. fault_within (length bytes) (drop k (b ∷ bytes)))) e
    ∙ fault_enough (length bytes) (length (drop n (b ∷ bytes))) (drop n (b ∷ bytes)) (shorter b bytes n (length bytes) (field_took (b ∷ bytes) (f, n) e).positive (omega arith)) (omega arith)

-- bytes whose first field fails have no fields, and have the fault of that field
pub fields-failed : (bytes : List ℕ) (d : WireError) → bytes ≢ [] → field_at bytes ≡ Err d → fields bytes ≡ []
unfolding fields fields_within
fields-failed [] d some e = absurd (some refl)
fields-failed (b ∷ bytes) d some e = ap (λ r. fields_from r (λ k. fields_within (length bytes) (drop k (b ∷ bytes)))) e

pub fault-failed : (bytes : List ℕ) (d : WireError) → bytes ≢ [] → field_at bytes ≡ Err d → fault bytes ≡ Some d
unfolding fault fault_within
fault-failed [] d some e = absurd (some refl)
fault-failed (b ∷ bytes) d some e = ap (λ r. fault_from r (λ k. fault_within (length bytes) (drop k (b ∷ bytes)))) e

-- ---- all fields

rest_fits : (n : ℕ) (bytes : List ℕ) → IsBytes bytes → IsBytes (drop n bytes)
rest_fits n bytes fits i = rw get_or-drop (fits (n + i))

-- the bytes are these fields, up to the end or to a fault
abbrev Reaches : List ℕ → List FieldView → Option WireError → Type 0
Reaches bytes fs None = AreFields bytes fs
Reaches bytes fs (Some e) = AreFieldsUntil bytes fs e

reaches_more : (bytes : List ℕ) (f : FieldView) (len : ℕ) (fs : List FieldView) (o : Option WireError) → IsField bytes f.number f.value len → Reaches (drop len bytes) fs o → Reaches bytes (f ∷ fs) o
reaches_more bytes f len fs None is more = record { len = len; field = is; others = more }
reaches_more bytes f len fs (Some e) is more = record { len = len; field = is; others = more }

fields_of_nothing : AreFields [] (fields [])
fields_of_nothing = subst (AreFields []) (sym fields-nil) refl

-- what one reading shows of the bytes, given the same of the bytes that are left
reaches_read : (most b : ℕ) (bytes : List ℕ) → length (b ∷ bytes) ≤ suc most → IsBytes (b ∷ bytes)
    → ((rest : List ℕ) → length rest ≤ most → IsBytes rest → Reaches rest (fields rest) (fault rest))
    → (r : Result (FieldView × ℕ) WireError) → field_at (b ∷ bytes) ≡ r → Reaches (b ∷ bytes) (fields (b ∷ bytes)) (fault (b ∷ bytes))
reaches_read most b bytes le fits later (Ok x) e =
    let took = field_took (b ∷ bytes) x e in
    let rest : List ℕ = drop x.1 (b ∷ bytes) in
    let more = later rest (shorter b bytes x.1 most took.positive le) (rest_fits x.1 (b ∷ bytes) fits) in
    subst (λ (o : Option WireError). Reaches (b ∷ bytes) (fields (b ∷ bytes)) o) (sym (fault-read (b ∷ bytes) x.0 x.1 e))
    (subst (λ (fs : List FieldView). Reaches (b ∷ bytes) fs (fault rest)) (sym (fields-read (b ∷ bytes) x.0 x.1 e)) (reaches_more (b ∷ bytes) x.0 x.1 (fields rest) (fault rest) (took.is fits) more))
reaches_read most b bytes le fits later (Err d) e =
    let some : (b ∷ bytes) ≢ [] = λ none. cc in
    subst (λ (o : Option WireError). Reaches (b ∷ bytes) (fields (b ∷ bytes)) o) (sym (fault-failed (b ∷ bytes) d some e))
    (subst (λ (fs : List FieldView). Reaches (b ∷ bytes) fs (Some d)) (sym (fields-failed (b ∷ bytes) d some e)) (fault_is (b ∷ bytes) d fits some e))

-- `fields` and `fault` describe the bytes exactly
reaches : (most : ℕ) (bytes : List ℕ) → length bytes ≤ most → IsBytes bytes → Reaches bytes (fields bytes) (fault bytes)
reaches most [] le fits = subst (λ (o : Option WireError). Reaches [] (fields []) o) (sym fault-nil) fields_of_nothing
reaches zero (b ∷ bytes) le fits = absurd (omega arith)
reaches (suc most) (b ∷ bytes) le fits = reaches_read most b bytes le fits (λ rest. reaches most rest) (field_at (b ∷ bytes)) refl

-- these fields and this fault are those of the bytes
are_fields : (fs : List FieldView) (bytes : List ℕ) → AreFields bytes fs → (fault bytes ≡ None) × (fields bytes ≡ fs)
are_fields [] bytes e = (ap fault e ∙ fault-nil, ap fields e ∙ fields-nil)
are_fields (f ∷ fs) bytes more =
    let read = field_again bytes f.number f.value more.len more.field in
    let others = are_fields fs (drop more.len bytes) more.others in
    (fault-read bytes f more.len read ∙ others.0, fields-read bytes f more.len read ∙ ap (λ gs. f ∷ gs) others.1)

-- empty bytes begin with no varint
no_varint : (n : ℕ) (rest : List ℕ) → BeginsWithVarint [] n rest → ⊥
no_varint n rest begins = let read = (begins_again [] n rest begins).0 in let none = within-nil 9 in cc

pub not_nothing : (bytes : List ℕ) (e : WireError) → IsFieldFault bytes e → bytes ≢ []
not_nothing bytes e (in_tag some h) none = some none
not_nothing bytes e (at_tag tag rest begins h) none = no_varint tag rest (subst (λ (bs : List ℕ). BeginsWithVarint bs tag rest) none begins)
not_nothing bytes e (in_value tag rest begins good h) none = no_varint tag rest (subst (λ (bs : List ℕ). BeginsWithVarint bs tag rest) none begins)

are_until : (fs : List FieldView) (bytes : List ℕ) (e : WireError) → AreFieldsUntil bytes fs e → (fault bytes ≡ Some e) × (fields bytes ≡ fs)
are_until [] bytes e h = let failed = fault_again bytes e h in let some = not_nothing bytes e h in (fault-failed bytes e some failed, fields-failed bytes e some failed)
are_until (f ∷ fs) bytes e more =
    let read = field_again bytes f.number f.value more.len more.field in
    let others = are_until fs (drop more.len bytes) e more.others in
    (fault-read bytes f more.len read ∙ others.0, fields-read bytes f more.len read ∙ ap (λ gs. f ∷ gs) others.1)

pub whole : (bytes : List ℕ) (fs : List FieldView) → IsBytes bytes → (AreFields bytes fs) ↔ ((fault bytes ≡ None) × (fields bytes ≡ fs))
whole bytes fs fits =
    (λ are. are_fields fs bytes are, λ told. subst (AreFields bytes) told.1 (subst (Reaches bytes (fields bytes)) told.0 (reaches (length bytes) bytes (omega arith) fits)))

pub until : (bytes : List ℕ) (fs : List FieldView) (e : WireError) → IsBytes bytes → (AreFieldsUntil bytes fs e) ↔ ((fault bytes ≡ Some e) × (fields bytes ≡ fs))
until bytes fs e fits =
    (λ are. are_until fs bytes e are, λ told. subst (λ (gs : List FieldView). AreFieldsUntil bytes gs e) told.1 (subst (Reaches bytes (fields bytes)) told.0 (reaches (length bytes) bytes (omega arith) fits)))

-- ---- encoded fields

-- an encoded field is a field, whatever follows it
varint_field_is : (field_number n : ℕ) (rest : List ℕ) → 1 ≤ field_number → field_number < 2 ^ 29 → n < 2 ^ 64 → IsField (varint_field_encoding field_number n ++ rest) field_number (Varint n) (length (varint_field_encoding field_number n))
unfolding varint_field_encoding
varint_field_is field_number n rest positive below fits = record {
  tag = varint_encoding (field_number * 8);
  content = varint_encoding n;
  rest = rest;
  parts = append_assoc (varint_encoding (field_number * 8)) (varint_encoding n) rest;
  len_is = length-append (varint_encoding (field_number * 8)) (varint_encoding n);
  positive = positive;
  below = below;
  tag_is = let same : field_number * 8 ≡ field_number * 8 + 0 = omega arith in subst (IsVarint (varint_encoding (field_number * 8))) same (varint_encoding_is (field_number * 8) (omega arith));
  content_is = varint_encoding_is n fits;
}

bytes_field_is : (field_number : ℕ) (bytes rest : List ℕ) → 1 ≤ field_number → field_number < 2 ^ 29 → length bytes < 2 ^ 64 → IsField (bytes_field_encoding field_number bytes ++ rest) field_number (Bytes bytes) (length (bytes_field_encoding field_number bytes))
unfolding bytes_field_encoding
bytes_field_is field_number bytes rest positive below fits = record {
  tag = varint_encoding (field_number * 8 + 2);
  content = varint_encoding (length bytes) ++ bytes;
  rest = rest;
  parts = append_assoc (varint_encoding (field_number * 8 + 2)) (varint_encoding (length bytes) ++ bytes) rest;
  len_is = length-append (varint_encoding (field_number * 8 + 2)) (varint_encoding (length bytes) ++ bytes);
  positive = positive;
  below = below;
  tag_is = varint_encoding_is (field_number * 8 + 2) (omega arith);
  content_is = record { front = varint_encoding (length bytes); varint = varint_encoding_is (length bytes) fits; parts = refl };
}

-- an encoded varint field is read, whatever follows
pub fields-varint_field : (field_number n : ℕ) (rest : List ℕ) → 1 ≤ field_number → field_number < 2 ^ 29 → n < 2 ^ 64 → fields (varint_field_encoding field_number n ++ rest) ≡ varint_field field_number n ∷ fields rest
fields-varint_field field_number n rest positive below fits =
    let s : List ℕ = varint_field_encoding field_number n in
    fields-read (s ++ rest) (varint_field field_number n) (length s) (field_again (s ++ rest) field_number (Varint n) (length s) (varint_field_is field_number n rest positive below fits))
    ∙ ap (λ others. varint_field field_number n ∷ fields others) (drop_at s rest (length s) refl)

pub fault-varint_field : (field_number n : ℕ) (rest : List ℕ) → 1 ≤ field_number → field_number < 2 ^ 29 → n < 2 ^ 64 → fault (varint_field_encoding field_number n ++ rest) ≡ fault rest
fault-varint_field field_number n rest positive below fits =
    let s : List ℕ = varint_field_encoding field_number n in
    fault-read (s ++ rest) (varint_field field_number n) (length s) (field_again (s ++ rest) field_number (Varint n) (length s) (varint_field_is field_number n rest positive below fits))
    ∙ ap fault (drop_at s rest (length s) refl)

-- an encoded field of bytes is read, whatever follows
pub fields-bytes_field : (field_number : ℕ) (bytes rest : List ℕ) → 1 ≤ field_number → field_number < 2 ^ 29 → length bytes < 2 ^ 64 → fields (bytes_field_encoding field_number bytes ++ rest) ≡ bytes_field field_number bytes ∷ fields rest
fields-bytes_field field_number bytes rest positive below fits =
    let s : List ℕ = bytes_field_encoding field_number bytes in
    fields-read (s ++ rest) (bytes_field field_number bytes) (length s) (field_again (s ++ rest) field_number (Bytes bytes) (length s) (bytes_field_is field_number bytes rest positive below fits))
    ∙ ap (λ others. bytes_field field_number bytes ∷ fields others) (drop_at s rest (length s) refl)

pub fault-bytes_field : (field_number : ℕ) (bytes rest : List ℕ) → 1 ≤ field_number → field_number < 2 ^ 29 → length bytes < 2 ^ 64 → fault (bytes_field_encoding field_number bytes ++ rest) ≡ fault rest
fault-bytes_field field_number bytes rest positive below fits =
    let s : List ℕ = bytes_field_encoding field_number bytes in
    fault-read (s ++ rest) (bytes_field field_number bytes) (length s) (field_again (s ++ rest) field_number (Bytes bytes) (length s) (bytes_field_is field_number bytes rest positive below fits))
    ∙ ap fault (drop_at s rest (length s) refl)
