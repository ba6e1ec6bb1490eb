-- A field is read as its number and value, and what is read is a field: both directions, for the
-- fault too. For the law `field_or_fault`, and for `Messages` and `NextField`.
use Rattle.std.proofs.Common.{◌≡◌, ◌≢◌, ℕ, zero, suc, ◌+◌, ◌*◌, ◌/◌, ◌%◌, ◌-◌, ◌^◌, ◌<◌, ◌≤◌, ◌⊎◌, Bool, true, false, cond, eqb, ltb, List, [], ◌++◌, length, take, drop, Result, Ok, Err, refl, sym, ap, subst, ◌∙◌, append_assoc, arith, inl, inr}
use Rattle.std.specs.Int.{w32, w64, from_le_bytes}
use Rattle.std.proofs.lemmas.Bool.{cases_lt, ltb-true, ltb-false, lt-ltb, le-ltb, ne_eqb}
use Rattle.std.proofs.Math.Seq.{take-add}
use Rattle.std.proofs.lemmas.List.{take_at, drop_at, take-append-drop, length-append, length-take-le, length-drop, get_or-drop}
use Rattle.pw_wire.specs.declared.error.WireError.{WireError}
use Rattle.pw_wire.specs.declared.error.WireError.TheVariants.{Truncated, LongVarint, BadField, GroupWire, BadWire}
use Rattle.pw_wire.specs.Decoding.{◌>>=◌, IsBytes}
use Rattle.pw_wire.specs.Varint.{IsVarint, BeginsWithVarint, varint_at}
use Rattle.pw_wire.specs.Field.{FieldValue, Varint, Fixed64, Bytes, Fixed32, FieldView, wire_type, IsValue, IsField, HasNumber, IsTagFault, IsValueFault, in_varint, in_fixed64, in_length, in_bytes, in_fixed32, IsFieldFault, in_tag, at_tag, in_value, BeginsWithField, HasFieldFault, fixed64_at, fixed32_at, bytes_at, number_at, value_at, field_behind, field_at}
use Rattle.pw_wire.proofs.Varints.{bind_ok, bind_err, ok_is, err_is, varint_again, within_took, varint_fault, varint_fault_again}

-- ---- the front

rest_fits : (n : ℕ) (bytes : List ℕ) → IsBytes bytes → IsBytes (drop n bytes)
rest_fits n bytes fits i = rw get_or-drop (fits (n + i))

-- a varint that was read is at the front of the bytes
pub record ReadVarint (bytes : List ℕ) (n k : ℕ) : Type 0 where
  pub begins : BeginsWithVarint bytes n (drop k bytes)
  pub is_front : IsVarint (take k bytes) n
  pub positive : 1 ≤ k
  pub within : k ≤ length bytes

pub read_varint_is : (bytes : List ℕ) (n k : ℕ) → IsBytes bytes → varint_at bytes ≡ Ok (n, k) → ReadVarint bytes n k
read_varint_is bytes n k fits e =
    let took = within_took 9 bytes (n, k) e in
    let is : IsVarint (take k bytes) n = record { encoded = took.encoded fits; short = omega (arith, length-take-le k bytes took.within, took.short); fits = took.fits fits } in
    record { begins = record { front = take k bytes; varint = is; parts = sym (take-append-drop k bytes) }; is_front = is; positive = took.positive; within = took.within }

-- bytes that begin with a varint are read as that varint
pub begins_again : (bytes : List ℕ) (n : ℕ) (rest : List ℕ) (begins : BeginsWithVarint bytes n rest) → (varint_at bytes ≡ Ok (n, length begins.front)) × (drop (length begins.front) bytes ≡ rest)
begins_again bytes n rest begins =
    (ap varint_at begins.parts ∙ varint_again begins.front rest n begins.varint, ap (drop (length begins.front)) begins.parts ∙ drop_at begins.front rest (length begins.front) refl)

-- ---- a value

-- a test that did not fail, and one that did
guard_ok : {A : Type 0} (b : Bool) (d : WireError) (x y : A) → cond b (Err d) (Ok x) ≡ Ok y → (b ≡ false) × (x ≡ y)
guard_ok true d x y e = absurd cc
guard_ok false d x y e = (refl, cc)

guard_err : {A : Type 0} (b : Bool) (c d : WireError) (x : A) → cond b (Err c) (Ok x) ≡ Err d → (b ≡ true) × (d ≡ c)
guard_err true c d x e = (refl, cc)
guard_err false c d x e = absurd cc

-- the reading of each wire type
value-0 : (bytes : List ℕ) → value_at 0 bytes ≡ number_at bytes
unfolding value_at
value-0 bytes = refl

value-1 : (bytes : List ℕ) → value_at 1 bytes ≡ fixed64_at bytes
unfolding value_at
value-1 bytes = refl

value-2 : (bytes : List ℕ) → value_at 2 bytes ≡ bytes_at bytes
unfolding value_at
value-2 bytes = refl

value-3 : (bytes : List ℕ) → value_at 3 bytes ≡ Err GroupWire
unfolding value_at
value-3 bytes = refl

value-4 : (bytes : List ℕ) → value_at 4 bytes ≡ Err GroupWire
unfolding value_at
value-4 bytes = refl

value-5 : (bytes : List ℕ) → value_at 5 bytes ≡ fixed32_at bytes
unfolding value_at
value-5 bytes = refl

value-unknown : (kind : ℕ) (bytes : List ℕ) → 6 ≤ kind → value_at kind bytes ≡ Err BadWire
unfolding value_at
value-unknown kind bytes le =
    let not-0 : eqb kind 0 ≡ false = ne_eqb kind 0 (λ e. omega arith) in
    let not-1 : eqb kind 1 ≡ false = ne_eqb kind 1 (λ e. omega arith) in
    let not-2 : eqb kind 2 ≡ false = ne_eqb kind 2 (λ e. omega arith) in
    let not_group : ltb kind 5 ≡ false = le-ltb kind 5 (omega arith) in
    let not-5 : eqb kind 5 ≡ false = ne_eqb kind 5 (λ e. omega arith) in
    rw (not-0, not-1, not-2, not_group, not-5) refl

-- a value is read
pub value_again : (value : FieldValue) (content rest : List ℕ) → IsValue content value → value_at (wire_type value) (content ++ rest) ≡ Ok (value, length content)
unfolding number_at bytes_at
value_again (Varint n) content rest is = value-0 (content ++ rest) ∙ rw (varint_again content rest n is) refl
value_again (Fixed64 n) content rest is =
    let long : ltb (length (content ++ rest)) 8 ≡ false = le-ltb _ _ (omega (arith, length-append content rest, is.0)) in
    value-1 (content ++ rest) ∙ rw (long, take_at content rest 8 is.0, ← is.1, is.0) refl
value_again (Bytes bytes_field) content rest is =
    let parts : content ++ rest ≡ is.front ++ (bytes_field ++ rest) = ap (λ bytes. bytes ++ rest) is.parts ∙ append_assoc is.front bytes_field rest in
    let len : length content ≡ length is.front + length bytes_field = ap length is.parts ∙ length-append is.front bytes_field in
    let long : ltb (length (bytes_field ++ rest)) (length bytes_field) ≡ false = le-ltb _ _ (omega (arith, length-append bytes_field rest)) in
    value-2 (content ++ rest) ∙ ap bytes_at parts
    ∙ rw (varint_again is.front (bytes_field ++ rest) (length bytes_field) is.varint, drop_at is.front (bytes_field ++ rest) (length is.front) refl, long, take_at bytes_field rest (length bytes_field) refl, len) refl
value_again (Fixed32 n) content rest is =
    let long : ltb (length (content ++ rest)) 4 ≡ false = le-ltb _ _ (omega (arith, length-append content rest, is.0)) in
    value-5 (content ++ rest) ∙ rw (long, take_at content rest 4 is.0, ← is.1, is.0) refl

-- a value that was read is at the front of the bytes
pub record TookValue (kind : ℕ) (bytes : List ℕ) (value : FieldValue) (len : ℕ) : Type 0 where
  pub is : IsBytes bytes → IsValue (take len bytes) value
  pub kind_is : kind ≡ wire_type value
  pub within : len ≤ length bytes

fixed64_took : (bytes : List ℕ) (found : FieldValue × ℕ) → fixed64_at bytes ≡ Ok found → TookValue 1 bytes found.0 found.1
fixed64_took bytes found e =
    let g = guard_ok (ltb (length bytes) 8) Truncated (Fixed64 (from_le_bytes w64 (take 8 bytes)), 8) found e in
    let within : 8 ≤ length bytes = ltb-false _ _ g.0 in
    subst (λ (p : FieldValue × ℕ). TookValue 1 bytes p.0 p.1) g.1 (record { is = λ fits. (length-take-le 8 bytes within, refl); kind_is = refl; within = within })

fixed32_took : (bytes : List ℕ) (found : FieldValue × ℕ) → fixed32_at bytes ≡ Ok found → TookValue 5 bytes found.0 found.1
fixed32_took bytes found e =
    let g = guard_ok (ltb (length bytes) 4) Truncated (Fixed32 (from_le_bytes w32 (take 4 bytes)), 4) found e in
    let within : 4 ≤ length bytes = ltb-false _ _ g.0 in
    subst (λ (p : FieldValue × ℕ). TookValue 5 bytes p.0 p.1) g.1 (record { is = λ fits. (length-take-le 4 bytes within, refl); kind_is = refl; within = within })

number_took : (bytes : List ℕ) (found : FieldValue × ℕ) → number_at bytes ≡ Ok found → TookValue 0 bytes found.0 found.1
unfolding number_at
number_took bytes found e =
    let h = bind_ok (varint_at bytes) (λ n. Ok (Varint n.0, n.1)) found e in
    subst (λ (p : FieldValue × ℕ). TookValue 0 bytes p.0 p.1) (ok_is (Varint h.0.0, h.0.1) found h.2)
    (record { is = λ fits. (read_varint_is bytes h.0.0 h.0.1 fits h.1).is_front; kind_is = refl; within = (within_took 9 bytes h.0 h.1).within })

bytes_took : (bytes : List ℕ) (found : FieldValue × ℕ) → bytes_at bytes ≡ Ok found → TookValue 2 bytes found.0 found.1
unfolding bytes_at
bytes_took bytes found e =
    let h = bind_ok (varint_at bytes) (λ len. cond (ltb (length (drop len.1 bytes)) len.0) (Err Truncated) (Ok (Bytes (take len.0 (drop len.1 bytes)), len.1 + len.0))) found e in
    let n = h.0.0 in
    let k = h.0.1 in
    let took = within_took 9 bytes h.0 h.1 in
    let g = guard_ok (ltb (length (drop k bytes)) n) Truncated (Bytes (take n (drop k bytes)), k + n) found h.2 in
    let room : n ≤ length (drop k bytes) = ltb-false _ _ g.0 in
    let len : length (take n (drop k bytes)) ≡ n = length-take-le n (drop k bytes) room in
    let rest : length (drop k bytes) ≡ length bytes - k = length-drop k bytes in
    let within : k ≤ length bytes = took.within in
    let positive : 1 ≤ k = took.positive in
    let is : IsBytes bytes → BeginsWithVarint (take (k + n) bytes) (length (take n (drop k bytes))) (take n (drop k bytes)) =
    λ fits. record { front = take k bytes; varint = subst (IsVarint (take k bytes)) (sym len) (read_varint_is bytes n k fits h.1).is_front; parts = take-add k n bytes } in
    subst (λ (p : FieldValue × ℕ). TookValue 2 bytes p.0 p.1) g.1 (record { is = is; kind_is = refl; within = omega arith })

pub value_took : (kind : ℕ) (bytes : List ℕ) (found : FieldValue × ℕ) → value_at kind bytes ≡ Ok found → TookValue kind bytes found.0 found.1
value_took zero bytes found e = number_took bytes found (sym (value-0 bytes) ∙ e)
value_took (suc zero) bytes found e = fixed64_took bytes found (sym (value-1 bytes) ∙ e)
value_took (suc (suc zero)) bytes found e = bytes_took bytes found (sym (value-2 bytes) ∙ e)
value_took (suc (suc (suc zero))) bytes found e = absurd (let bad = value-3 bytes in cc)
value_took (suc (suc (suc (suc zero)))) bytes found e = absurd (let bad = value-4 bytes in cc)
value_took (suc (suc (suc (suc (suc zero))))) bytes found e = fixed32_took bytes found (sym (value-5 bytes) ∙ e)
value_took (suc (suc (suc (suc (suc (suc k)))))) bytes found e = absurd (let bad = value-unknown (suc (suc (suc (suc (suc (suc k)))))) bytes (omega arith) in cc)

-- what is wrong with a kind that is neither a number nor bytes
abbrev pub IsKindFault : ℕ → WireError → Type 0
IsKindFault kind error = (((kind ≡ 3) ⊎ (kind ≡ 4)) × (error ≡ GroupWire)) ⊎ ((6 ≤ kind) × (error ≡ BadWire))

fixed64_fault : (bytes : List ℕ) (d : WireError) → fixed64_at bytes ≡ Err d → IsValueFault 1 bytes d
fixed64_fault bytes d e =
    let g = guard_err (ltb (length bytes) 8) Truncated d (Fixed64 (from_le_bytes w64 (take 8 bytes)), 8) e in
    in_fixed64 refl g.1 (ltb-true _ _ g.0)

fixed32_fault : (bytes : List ℕ) (d : WireError) → fixed32_at bytes ≡ Err d → IsValueFault 5 bytes d
fixed32_fault bytes d e =
    let g = guard_err (ltb (length bytes) 4) Truncated d (Fixed32 (from_le_bytes w32 (take 4 bytes)), 4) e in
    in_fixed32 refl g.1 (ltb-true _ _ g.0)

number_fault : (bytes : List ℕ) (d : WireError) → number_at bytes ≡ Err d → IsValueFault 0 bytes d
unfolding number_at
number_fault bytes d e =
    elim (bind_err (varint_at bytes) (λ n. Ok (Varint n.0, n.1)) d e) [
      | inl h ↦ in_varint refl (varint_fault bytes d h)
      | inr h ↦ absurd (let both = h.2 in cc)
    ]

bytes_fault : (bytes : List ℕ) (d : WireError) → IsBytes bytes → bytes_at bytes ≡ Err d → IsValueFault 2 bytes d
unfolding bytes_at
bytes_fault bytes d fits e =
    elim (bind_err (varint_at bytes) (λ len. cond (ltb (length (drop len.1 bytes)) len.0) (Err Truncated) (Ok (Bytes (take len.0 (drop len.1 bytes)), len.1 + len.0))) d e) [
      | inl h ↦ in_length refl (varint_fault bytes d h)
      | inr h ↦
          let n = h.0.0 in
          let k = h.0.1 in
          let read = read_varint_is bytes n k fits h.1 in
          let g = guard_err (ltb (length (drop k bytes)) n) Truncated d (Bytes (take n (drop k bytes)), k + n) h.2 in
          in_bytes refl g.1 n (drop k bytes) read.begins (ltb-true _ _ g.0)
    ]

pub value_fault : (kind : ℕ) (bytes : List ℕ) (d : WireError) → IsBytes bytes → value_at kind bytes ≡ Err d → IsValueFault kind bytes d ⊎ IsKindFault kind d
value_fault zero bytes d fits e = inl (number_fault bytes d (sym (value-0 bytes) ∙ e))
value_fault (suc zero) bytes d fits e = inl (fixed64_fault bytes d (sym (value-1 bytes) ∙ e))
value_fault (suc (suc zero)) bytes d fits e = inl (bytes_fault bytes d fits (sym (value-2 bytes) ∙ e))
value_fault (suc (suc (suc zero))) bytes d fits e = inr (inl (inl refl, err_is (FieldValue × ℕ) d GroupWire (sym e ∙ value-3 bytes)))
value_fault (suc (suc (suc (suc zero)))) bytes d fits e = inr (inl (inr refl, err_is (FieldValue × ℕ) d GroupWire (sym e ∙ value-4 bytes)))
value_fault (suc (suc (suc (suc (suc zero))))) bytes d fits e = inl (fixed32_fault bytes d (sym (value-5 bytes) ∙ e))
value_fault (suc (suc (suc (suc (suc (suc k)))))) bytes d fits e =
    let unknown : 6 ≤ suc (suc (suc (suc (suc (suc k))))) = omega arith in
    inr (inr (unknown, err_is (FieldValue × ℕ) d BadWire (sym e ∙ value-unknown (suc (suc (suc (suc (suc (suc k)))))) bytes unknown)))

-- the fault of a value is found
value_fails : (kind : ℕ) (bytes : List ℕ) (d : WireError) → IsValueFault kind bytes d → value_at kind bytes ≡ Err d
unfolding number_at bytes_at
value_fails kind bytes d (in_varint k h) =
    ap (λ k. value_at k bytes) k ∙ value-0 bytes ∙ ap (λ r. r >>= λ n. Ok (Varint n.0, n.1)) (varint_fault_again bytes d h)
value_fails kind bytes d (in_fixed64 k t short) = ap (λ k. value_at k bytes) k ∙ value-1 bytes ∙ rw (lt-ltb _ _ short, t) refl
value_fails kind bytes d (in_length k h) =
    ap (λ k. value_at k bytes) k ∙ value-2 bytes
    ∙ ap (λ r. r >>= λ len. cond (ltb (length (drop len.1 bytes)) len.0) (Err Truncated) (Ok (Bytes (take len.0 (drop len.1 bytes)), len.1 + len.0))) (varint_fault_again bytes d h)
value_fails kind bytes d (in_bytes k t len rest begins short) =
    let again = begins_again bytes len rest begins in
    ap (λ k. value_at k bytes) k ∙ value-2 bytes ∙ rw (again.0, again.1, lt-ltb _ _ short, t) refl
value_fails kind bytes d (in_fixed32 k t short) = ap (λ k. value_at k bytes) k ∙ value-5 bytes ∙ rw (lt-ltb _ _ short, t) refl

-- ---- a field

behind-low : (tag : ℕ × ℕ) (bytes : List ℕ) → tag.0 < 8 → field_behind tag bytes ≡ Err BadField
unfolding field_behind
behind-low tag bytes lt = rw (lt-ltb tag.0 8 lt) refl

behind-high : (tag : ℕ × ℕ) (bytes : List ℕ) → 2 ^ 32 ≤ tag.0 → field_behind tag bytes ≡ Err BadField
unfolding field_behind
behind-high tag bytes le = rw (le-ltb tag.0 8 (omega arith), le-ltb tag.0 (2 ^ 32) le) refl

-- a field's number and value, and how many bytes the tag and the value took
field_of : ℕ × ℕ → FieldValue × ℕ → Result (FieldView × ℕ) WireError
field_of tag value = Ok (record { number = tag.0 / 8; value = value.0 }, tag.1 + value.1)

behind-good : (tag : ℕ × ℕ) (bytes : List ℕ) → HasNumber tag.0 → field_behind tag bytes ≡ (value_at (tag.0 % 8) (drop tag.1 bytes) >>= field_of tag)
unfolding field_behind field_of
behind-good tag bytes good = rw (le-ltb tag.0 8 good.0, lt-ltb tag.0 (2 ^ 32) good.1) refl

-- a tag's number is 0 or too large, or it has one
tag_cases : (tag : ℕ) → IsTagFault tag BadField ⊎ HasNumber tag
tag_cases tag =
    elim (cases_lt tag 8) [
      | inl low ↦ inl (inl low)
      | inr le ↦ elim (cases_lt tag (2 ^ 32)) [ inl lt ↦ inr (le, lt) | inr high ↦ inl (inr high) ]
    ]

behind-bad : (tag : ℕ × ℕ) (bytes : List ℕ) → IsTagFault tag.0 BadField → field_behind tag bytes ≡ Err BadField
behind-bad tag bytes (inl low) = behind-low tag bytes low
behind-bad tag bytes (inr high) = behind-high tag bytes high

wire_type_small : (value : FieldValue) → wire_type value < 8
wire_type_small (Varint n) = omega arith
wire_type_small (Fixed64 n) = omega arith
wire_type_small (Bytes bytes) = omega arith
wire_type_small (Fixed32 n) = omega arith

-- a tag at the front of the bytes is read
tagged : (bytes : List ℕ) (tag : ℕ) (rest : List ℕ) (begins : BeginsWithVarint bytes tag rest) → field_at bytes ≡ field_behind (tag, length begins.front) bytes
unfolding field_at
tagged bytes tag rest begins = ap (λ r. r >>= λ t. field_behind t bytes) (begins_again bytes tag rest begins).0

-- the value after the tag is read
tagged_well : (bytes : List ℕ) (tag : ℕ) (rest : List ℕ) (begins : BeginsWithVarint bytes tag rest) → HasNumber tag → field_at bytes ≡ (value_at (tag % 8) rest >>= field_of (tag, length begins.front))
tagged_well bytes tag rest begins good =
    tagged bytes tag rest begins ∙ behind-good (tag, length begins.front) bytes good
    ∙ ap (λ bs. value_at (tag % 8) bs >>= field_of (tag, length begins.front)) (begins_again bytes tag rest begins).1

-- a tag and a value that are read make a field
field_of_parts : (bytes rest : List ℕ) (tag k number m : ℕ) (value : FieldValue) → field_at bytes ≡ (value_at (tag % 8) rest >>= field_of (tag, k)) → value_at (tag % 8) rest ≡ Ok (value, m) → tag / 8 ≡ number → field_at bytes ≡ Ok (record { number = number; value = value }, k + m)
unfolding field_of
field_of_parts bytes rest tag k number m value read value_is number_is =
    read ∙ ap (λ r. r >>= field_of (tag, k)) value_is ∙ ap (λ (n : ℕ). Ok (record { number = n; value = value }, k + m)) number_is

-- a field is read
pub field_again : (bytes : List ℕ) (number : ℕ) (value : FieldValue) (len : ℕ) → IsField bytes number value len → field_at bytes ≡ Ok (record { number = number; value = value }, len)
field_again bytes number value len is =
    let small = wire_type_small value in
    let good : HasNumber (number * 8 + wire_type value) = (omega (arith, is.positive), omega (arith, is.below)) in
    let read = tagged_well bytes (number * 8 + wire_type value) (is.content ++ is.rest) (record { front = is.tag; varint = is.tag_is; parts = is.parts }) good in
    let kind : (number * 8 + wire_type value) % 8 ≡ wire_type value = omega arith in
    let value_is : value_at ((number * 8 + wire_type value) % 8) (is.content ++ is.rest) ≡ Ok (value, length is.content) =
    subst (λ (k : ℕ). value_at k (is.content ++ is.rest) ≡ Ok (value, length is.content)) (sym kind) (value_again value is.content is.rest is.content_is) in
    subst (λ (l : ℕ). field_at bytes ≡ Ok (record { number = number; value = value }, l)) (sym is.len_is)
    (field_of_parts bytes (is.content ++ is.rest) (number * 8 + wire_type value) (length is.tag) number (length is.content) value read value_is (omega arith))

-- a tag and a value that were read make a field
made_field : (bytes : List ℕ) (tag k : ℕ) (value : FieldValue) (m : ℕ) → IsBytes bytes → ReadVarint bytes tag k → HasNumber tag → TookValue (tag % 8) (drop k bytes) value m → IsField bytes (tag / 8) value (k + m)
made_field bytes tag k value m fits read good took =
    let tag_is : tag ≡ tag / 8 * 8 + wire_type value = omega (arith, took.kind_is) in
    record {
      tag = take k bytes;
      content = take m (drop k bytes);
      rest = drop m (drop k bytes);
      parts = sym (take-append-drop k bytes) ∙ ap (λ rest. take k bytes ++ rest) (sym (take-append-drop m (drop k bytes)));
      len_is = omega (arith, length-take-le k bytes read.within, length-take-le m (drop k bytes) took.within);
      positive = omega (arith, good.0);
      below = omega (arith, good.1);
      tag_is = subst (IsVarint (take k bytes)) tag_is read.is_front;
      content_is = took.is (rest_fits k bytes fits);
    }

-- a field that was read is at the front of the bytes
pub record TookField (bytes : List ℕ) (found : FieldView × ℕ) : Type 0 where
  pub is : IsBytes bytes → IsField bytes found.0.number found.0.value found.1
  pub positive : 1 ≤ found.1
  pub within : found.1 ≤ length bytes

took_same : (bytes : List ℕ) (found result : FieldView × ℕ) → TookField bytes found → found ≡ result → TookField bytes result
took_same bytes found result took same = subst (TookField bytes) same took

-- what was read is a field
pub field_took : (bytes : List ℕ) (found : FieldView × ℕ) → field_at bytes ≡ Ok found → TookField bytes found
unfolding field_at field_of
field_took bytes found e =
    let h = bind_ok (varint_at bytes) (λ tag. field_behind tag bytes) found e in
    let tag = h.0.0 in
    let k = h.0.1 in
    let front = within_took 9 bytes h.0 h.1 in
    let positive : 1 ≤ k = front.positive in
    let within : k ≤ length bytes = front.within in
    elim (tag_cases tag) [
      | inl bad ↦ absurd (let wrong = behind-bad (tag, k) bytes bad in let found = h.2 in cc)
      | inr good ↦
          let b = bind_ok (value_at (tag % 8) (drop k bytes)) (field_of (tag, k)) found (sym (behind-good (tag, k) bytes good) ∙ h.2) in
          let value = value_took (tag % 8) (drop k bytes) b.0 b.1 in
          let rest : length (drop k bytes) ≡ length bytes - k = length-drop k bytes in
          let took : TookField bytes (record { number = tag / 8; value = b.0.0 }, k + b.0.1) = record {
            is = λ fits. made_field bytes tag k b.0.0 b.0.1 fits (read_varint_is bytes tag k fits h.1) good value;
            positive = omega arith;
            within = omega (arith, value.within);
          } in
          took_same bytes (record { number = tag / 8; value = b.0.0 }, k + b.0.1) found took (ok_is (record { number = tag / 8; value = b.0.0 }, k + b.0.1) found b.2)
    ]

-- a kind's fault is the tag's
kind_fault : (bytes : List ℕ) (tag : ℕ) (d : WireError) → HasNumber tag → IsKindFault (tag % 8) d → IsTagFault tag d
kind_fault bytes tag d good (inl h) = subst (IsTagFault tag) (sym h.1) (good, h.0)
kind_fault bytes tag d good (inr h) = subst (IsTagFault tag) (sym h.1) (good, h.0)

-- bytes that were refused have that fault
pub fault_is : (bytes : List ℕ) (d : WireError) → IsBytes bytes → bytes ≢ [] → field_at bytes ≡ Err d → IsFieldFault bytes d
unfolding field_at field_of
fault_is bytes d fits some e =
    elim (bind_err (varint_at bytes) (λ tag. field_behind tag bytes) d e) [
      | inl h ↦ in_tag some (varint_fault bytes d h)
      | inr h ↦
          let tag = h.0.0 in
          let k = h.0.1 in
          let read = read_varint_is bytes tag k fits h.1 in
          elim (tag_cases tag) [
            | inl bad ↦ at_tag tag (drop k bytes) read.begins (subst (IsTagFault tag) (err_is (FieldView × ℕ) BadField d (sym (behind-bad (tag, k) bytes bad) ∙ h.2)) bad)
            | inr good ↦ elim (bind_err (value_at (tag % 8) (drop k bytes)) (field_of (tag, k)) d (sym (behind-good (tag, k) bytes good) ∙ h.2)) [
              | inl v ↦ elim (value_fault (tag % 8) (drop k bytes) d (rest_fits k bytes fits) v) [
                | inl fault ↦ in_value tag (drop k bytes) read.begins good fault
                | inr fault ↦ at_tag tag (drop k bytes) read.begins (kind_fault bytes tag d good fault)
              ]
              | inr v ↦ absurd (let both = v.2 in cc)
            ]
          ]
    ]

-- the fault of bytes is found
pub fault_again : (bytes : List ℕ) (d : WireError) → IsFieldFault bytes d → field_at bytes ≡ Err d
unfolding field_at
fault_again bytes d (in_tag some h) = ap (λ r. r >>= λ tag. field_behind tag bytes) (varint_fault_again bytes d h)
fault_again bytes Truncated (at_tag tag rest begins h) = absurd h
fault_again bytes LongVarint (at_tag tag rest begins h) = absurd h
fault_again bytes BadField (at_tag tag rest begins h) = tagged bytes tag rest begins ∙ behind-bad (tag, length begins.front) bytes h
fault_again bytes GroupWire (at_tag tag rest begins h) =
    elim h.1 [
      | inl three ↦ tagged_well bytes tag rest begins h.0 ∙ ap (λ k. value_at k rest >>= field_of (tag, length begins.front)) three ∙ ap (λ r. r >>= field_of (tag, length begins.front)) (value-3 rest)
      | inr four ↦ tagged_well bytes tag rest begins h.0 ∙ ap (λ k. value_at k rest >>= field_of (tag, length begins.front)) four ∙ ap (λ r. r >>= field_of (tag, length begins.front)) (value-4 rest)
    ]
fault_again bytes BadWire (at_tag tag rest begins h) =
    tagged_well bytes tag rest begins h.0 ∙ ap (λ r. r >>= field_of (tag, length begins.front)) (value-unknown (tag % 8) rest h.1)
fault_again bytes d (in_value tag rest begins good h) =
    tagged_well bytes tag rest begins good ∙ ap (λ r. r >>= field_of (tag, length begins.front)) (value_fails (tag % 8) rest d h)

-- ---- exactly one

by_reading : (bytes : List ℕ) → IsBytes bytes → bytes ≢ [] → (r : Result (FieldView × ℕ) WireError) → field_at bytes ≡ r → BeginsWithField bytes ⊎ HasFieldFault bytes
by_reading bytes fits some (Ok found) e = inl (record { field_number = found.0.number; value = found.0.value; len = found.1; field = (field_took bytes found e).is fits })
by_reading bytes fits some (Err d) e = inr (d, fault_is bytes d fits some e)

-- bytes begin with a field, or a field's check fails there
pub one_of_both : (bytes : List ℕ) → IsBytes bytes → bytes ≢ [] → BeginsWithField bytes ⊎ HasFieldFault bytes
one_of_both bytes fits some = by_reading bytes fits some (field_at bytes) refl

pub not_both : (bytes : List ℕ) (number : ℕ) (value : FieldValue) (len : ℕ) (d : WireError) → IsField bytes number value len → IsFieldFault bytes d → ⊥
not_both bytes number value len d is fault =
    let found = field_again bytes number value len is in
    let failed = fault_again bytes d fault in
    cc

pub one_field : (bytes : List ℕ) (m n : ℕ) (v w : FieldValue) (k l : ℕ) → IsField bytes m v k → IsField bytes n w l → (m ≡ n) × (v ≡ w) × (k ≡ l)
one_field bytes m n v w k l is is' =
    let same = ok_is (record { number = m; value = v }, k) (record { number = n; value = w }, l) (sym (field_again bytes m v k is) ∙ field_again bytes n w l is') in
    (ap (λ (p : FieldView × ℕ). p.0.number) same, ap (λ (p : FieldView × ℕ). p.0.value) same, ap (λ (p : FieldView × ℕ). p.1) same)

pub one_fault : (bytes : List ℕ) (d e : WireError) → IsFieldFault bytes d → IsFieldFault bytes e → d ≡ e
one_fault bytes d e h h' = err_is (FieldView × ℕ) d e (sym (fault_again bytes d h) ∙ fault_again bytes e h')
