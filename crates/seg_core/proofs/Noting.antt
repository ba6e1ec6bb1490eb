-- What one more field changes in the values that are noted of the fields before it.
use Rattle.std.proofs.Common.{◌≡◌, ◌≢◌, ℕ, ◌<◌, ◌≤◌, Bool, true, false, cond, eqb, List, [], ◌∷◌, ◌++◌, length, Option, Some, None, unwrap_or, slice_index_or, slice_set, Bor, sym, ap, ◌∙◌, refl, ⊎_elim, append_assoc, append-nil, eq-eqb, ne_eqb, get_or-set_same, get_or-set_other, length-set, arith}
use Rattle.std.specs.Option.{option_or, option_map}
use Rattle.std.proofs.lemmas.Bool.{cases_eq}
use Rattle.pw_wire.specs.Field.{Varint, Bytes, FieldView}
use Rattle.seg_core.specs.Message.{varint_in, bytes_of_value, number_fields, bytes_fields, last_of, number_field, last_bytes_field}
use Rattle.seg_core.specs.Slots.{AreNoted}

-- ---- the lists under a number

pub number_fields-push : (k : ℕ) (fs : List FieldView) (f : FieldView) → number_fields k (fs ++ f ∷ []) ≡ number_fields k fs ++ cond (eqb f.number k) (varint_in f.value) []
number_fields-push k [] f = append-nil _
number_fields-push k (g ∷ fs) f =
    ap (λ ns. cond (eqb g.number k) (varint_in g.value) [] ++ ns) (number_fields-push k fs f)
    ∙ sym (append_assoc (cond (eqb g.number k) (varint_in g.value) []) (number_fields k fs) (cond (eqb f.number k) (varint_in f.value) []))

pub bytes_fields-push : (k : ℕ) (fs : List FieldView) (f : FieldView) → bytes_fields k (fs ++ f ∷ []) ≡ bytes_fields k fs ++ cond (eqb f.number k) (bytes_of_value f.value) []
bytes_fields-push k [] f = append-nil _
bytes_fields-push k (g ∷ fs) f =
    ap (λ ts. cond (eqb g.number k) (bytes_of_value g.value) [] ++ ts) (bytes_fields-push k fs f)
    ∙ sym (append_assoc (cond (eqb g.number k) (bytes_of_value g.value) []) (bytes_fields k fs) (cond (eqb f.number k) (bytes_of_value f.value) []))

-- the byte strings of a message whose first field is bytes
pub bytes_fields-first : (k : ℕ) (fs others : List FieldView) (bytes : List ℕ) → fs ≡ (record { number = k; value = Bytes bytes }) ∷ others → bytes_fields k fs ≡ bytes ∷ bytes_fields k others
bytes_fields-first k fs others bytes is = rw (is, eq-eqb k k refl) refl

last_of-push : {A : Type 0} → (xs : List A) (x : A) → last_of (xs ++ x ∷ []) ≡ Some x
last_of-push [] x = refl
last_of-push (y ∷ ys) x = ap (λ o. option_or o (Some y)) (last_of-push ys x)

-- ---- the last value under a number

-- A field that adds no number under this field number leaves the last one.
number_field-keeps : (k : ℕ) (fs : List FieldView) (f : FieldView) → cond (eqb f.number k) (varint_in f.value) [] ≡ [] → number_field k (fs ++ f ∷ []) ≡ number_field k fs
number_field-keeps k fs f none =
    ap (λ ns. unwrap_or (last_of ns) 0) (number_fields-push k fs f ∙ ap (λ ns. number_fields k fs ++ ns) none ∙ append-nil (number_fields k fs))

bytes_field-keeps : (k : ℕ) (fs : List FieldView) (f : FieldView) → cond (eqb f.number k) (bytes_of_value f.value) [] ≡ [] → last_bytes_field k (fs ++ f ∷ []) ≡ last_bytes_field k fs
bytes_field-keeps k fs f none =
    ap last_of (bytes_fields-push k fs f ∙ ap (λ ts. bytes_fields k fs ++ ts) none ∙ append-nil (bytes_fields k fs))

number_field-takes : (k : ℕ) (fs : List FieldView) (f : FieldView) (n : ℕ) → cond (eqb f.number k) (varint_in f.value) [] ≡ n ∷ [] → number_field k (fs ++ f ∷ []) ≡ n
number_field-takes k fs f n one =
    ap (λ ns. unwrap_or (last_of ns) 0) (number_fields-push k fs f ∙ ap (λ ns. number_fields k fs ++ ns) one)
    ∙ ap (λ o. unwrap_or o 0) (last_of-push (number_fields k fs) n)

bytes_field-takes : (k : ℕ) (fs : List FieldView) (f : FieldView) (t : List ℕ) → cond (eqb f.number k) (bytes_of_value f.value) [] ≡ t ∷ [] → last_bytes_field k (fs ++ f ∷ []) ≡ Some t
bytes_field-takes k fs f t one =
    ap last_of (bytes_fields-push k fs f ∙ ap (λ ts. bytes_fields k fs ++ ts) one) ∙ last_of-push (bytes_fields k fs) t

-- ---- a field of another number, or without a number or bytes

none-other : {A : Type 0} → (n k : ℕ) (xs : List A) → n ≢ k → cond (eqb n k) xs [] ≡ []
none-other n k xs other = ap (λ b. cond b xs []) (ne_eqb n k other)

none-empty : {A : Type 0} → (b : Bool) (xs : List A) → xs ≡ [] → cond b xs [] ≡ []
none-empty true xs e = e
none-empty false xs e = refl

one-same : {A : Type 0} → (n k : ℕ) (xs : List A) → n ≡ k → cond (eqb n k) xs [] ≡ xs
one-same n k xs same = ap (λ b. cond b xs []) (eq-eqb n k same)

-- ---- the four kinds of steps

pub AreNoted-past : (before : List FieldView) (f : FieldView) (ns : List ℕ) (ts : List (Option (Bor (List ℕ)))) → (7 ≤ f.number) → AreNoted before ns ts → AreNoted (before ++ f ∷ []) ns ts
AreNoted-past before f ns ts past noted = record {
  number_is = λ k lt. noted.number_is k lt ∙ sym (number_field-keeps k before f (none-other f.number k _ (λ e. omega arith)));
  bytes_are = λ k lt. noted.bytes_are k lt ∙ sym (bytes_field-keeps k before f (none-other f.number k _ (λ e. omega arith)));
  width = noted.width;
}

pub AreNoted-fixed : (before : List FieldView) (f : FieldView) (ns : List ℕ) (ts : List (Option (Bor (List ℕ)))) → varint_in f.value ≡ [] → bytes_of_value f.value ≡ [] → AreNoted before ns ts → AreNoted (before ++ f ∷ []) ns ts
AreNoted-fixed before f ns ts no_number no_bytes noted = record {
  number_is = λ k lt. noted.number_is k lt ∙ sym (number_field-keeps k before f (none-empty _ _ no_number));
  bytes_are = λ k lt. noted.bytes_are k lt ∙ sym (bytes_field-keeps k before f (none-empty _ _ no_bytes));
  width = noted.width;
}

pub AreNoted-varint : (before : List FieldView) (f : FieldView) (ns : List ℕ) (ts : List (Option (Bor (List ℕ)))) (n : ℕ) → f.value ≡ Varint n → f.number < 7 → length ns ≡ 7 → AreNoted before ns ts → AreNoted (before ++ f ∷ []) (slice_set ns f.number n) ts
AreNoted-varint before f ns ts n is small len noted = record {
  number_is = λ k lt. ⊎_elim
      (λ e. ap (λ j. slice_index_or (slice_set ns f.number n) j 0) (sym e) ∙ get_or-set_same ns f.number n 0 (omega arith)
      ∙ sym (number_field-takes k before f n (one-same f.number k _ e ∙ ap varint_in is)))
      (λ other. get_or-set_other ns f.number k n 0 (λ e. other (sym e)) ∙ noted.number_is k lt
      ∙ sym (number_field-keeps k before f (none-other f.number k _ other)))
      (cases_eq f.number k);
  bytes_are = λ k lt. noted.bytes_are k lt ∙ sym (bytes_field-keeps k before f (none-empty _ _ (ap bytes_of_value is)));
  width = noted.width;
}

pub AreNoted-bytes : (before : List FieldView) (f : FieldView) (ns : List ℕ) (ts : List (Option (Bor (List ℕ)))) (s : Bor (List ℕ)) → f.value ≡ Bytes s.now → f.number < 7 → AreNoted before ns ts → AreNoted (before ++ f ∷ []) ns (slice_set ts f.number (Some s))
AreNoted-bytes before f ns ts s is small noted = record {
  number_is = λ k lt. noted.number_is k lt ∙ sym (number_field-keeps k before f (none-empty _ _ (ap varint_in is)));
  bytes_are = λ k lt. ⊎_elim
      (λ e. ap (λ o. option_map (λ s. s.now) o) (ap (λ j. slice_index_or (slice_set ts f.number (Some s)) j None) (sym e) ∙ get_or-set_same ts f.number (Some s) None (omega (arith, noted.width)))
      ∙ sym (bytes_field-takes k before f s.now (one-same f.number k _ e ∙ ap bytes_of_value is)))
      (λ other. ap (λ o. option_map (λ s. s.now) o) (get_or-set_other ts f.number k (Some s) None (λ e. other (sym e))) ∙ noted.bytes_are k lt
      ∙ sym (bytes_field-keeps k before f (none-other f.number k _ other)))
      (cases_eq f.number k);
  width = length-set ts f.number (Some s) ∙ noted.width;
}
