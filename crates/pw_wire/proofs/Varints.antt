-- A varint is read as its number, and what is read is a varint: both directions, for the fault too.
-- For the law `encoded_varint`, and for `FieldLemmas`.
use Rattle.std.proofs.Common.{◌≡◌, ℕ, zero, suc, ◌+◌, ◌*◌, ◌/◌, ◌%◌, ◌-◌, ◌^◌, ◌<◌, ◌≤◌, ◌⊎◌, List, [], ◌∷◌, ◌++◌, length, take, get_or, Result, Ok, Err, refl, sym, ap, subst, ◌∙◌, arith, inl, inr}
use Rattle.std.proofs.lemmas.Bool.{cases_lt}
use Rattle.pw_wire.specs.declared.error.WireError.{WireError}
use Rattle.pw_wire.specs.declared.error.WireError.TheVariants.{Truncated, LongVarint, BadField, GroupWire, BadWire}
use Rattle.pw_wire.specs.Decoding.{◌>>=◌, IsBytes}
use Rattle.pw_wire.specs.Varint.{EncodesNumber, IsVarint, AllGoOn, IsVarintFault, varint_within, varint_at, encoding_within, varint_encoding}
use Rattle.pw_wire.proofs.VarintReading.{within-nil, within-last, within-goes_on, within-tenth, within-too_long}
use Rattle.pw_wire.proofs.Encoding.{limit, encoding-last, encoding-goes_on}

-- ---- steps that may fail

-- the value of a step that did not fail
pub bind_ok : {A B : Type 0} (r : Result A WireError) (f : A → Result B WireError) (y : B) → (r >>= f) ≡ Ok y → (x : A) × (r ≡ Ok x) × (f x ≡ Ok y)
bind_ok (Ok x) f y e = (x, refl, e)
bind_ok (Err d) f y e = absurd cc

-- which of two steps failed
pub bind_err : {A B : Type 0} (r : Result A WireError) (f : A → Result B WireError) (d : WireError) → (r >>= f) ≡ Err d → (r ≡ Err d) ⊎ ((x : A) × (r ≡ Ok x) × (f x ≡ Err d))
bind_err (Ok x) f d e = inr (x, refl, e)
bind_err (Err c) f d e = inl cc

abbrev ok_of : {A : Type 0} → A → Result A WireError
ok_of x = Ok x

abbrev err_of : (A : Type 0) → WireError → Result A WireError
err_of A e = Err e

pub ok_is : {A : Type 0} (x y : A) → ok_of x ≡ ok_of y → x ≡ y
ok_is x y e = cc

pub err_is : (A : Type 0) (d e : WireError) → err_of A d ≡ err_of A e → d ≡ e
err_is A d e h = cc

-- ---- one number

-- bytes encode one number at most
pub one_number : (bytes : List ℕ) (m n : ℕ) → EncodesNumber bytes m → EncodesNumber bytes n → m ≡ n
one_number [] m n first second = absurd first
one_number (b ∷ []) m n first second = first.1 ∙ sym second.1
one_number (b ∷ c ∷ bytes) m n first second =
    let high : first.high ≡ second.high = one_number (c ∷ bytes) first.high second.high first.above second.above in
    omega (arith, first.byte_is, first.number_is, second.byte_is, second.number_is)

-- ---- a varint is read

-- a continuation byte is read with the bytes after it
goes_on_again : (left b : ℕ) (bytes : List ℕ) (n high k : ℕ) → 128 ≤ b → b - 128 + 128 * high ≡ n → varint_within left bytes ≡ Ok (high, k) → varint_within (suc left) (b ∷ bytes) ≡ Ok (n, suc k)
goes_on_again left b bytes n high k large number read =
    within-goes_on left b bytes large ∙ ap (λ r. r >>= λ h. Ok (b - 128 + 128 * h.0, suc h.1)) read ∙ ap (λ (m : ℕ). Ok (m, suc k)) number

-- a number with its bytes is read, where this number of bytes is allowed
pub within_again : (left : ℕ) (front rest : List ℕ) (n : ℕ) → EncodesNumber front n → length front ≤ suc left → n < limit left → varint_within left (front ++ rest) ≡ Ok (n, length front)
within_again left [] rest n encoded short fits = absurd encoded
within_again zero (b ∷ []) rest n encoded short fits = rw (encoded.1) (within-tenth b rest (omega arith))
within_again (suc left) (b ∷ []) rest n encoded short fits = rw (encoded.1) (within-last left b rest encoded.0)
within_again zero (b ∷ c ∷ front) rest n encoded short fits = absurd (omega arith)
within_again (suc left) (b ∷ c ∷ front) rest n encoded short fits =
    let large : 128 ≤ b = omega (arith, encoded.byte_is) in
    let number : b - 128 + 128 * encoded.high ≡ n = omega (arith, encoded.byte_is, encoded.number_is) in
    let fits' : encoded.high < limit left = omega arith in
    goes_on_again left b (c ∷ front ++ rest) n encoded.high (length (c ∷ front)) large number (within_again left (c ∷ front) rest encoded.high encoded.above (omega arith) fits')

pub varint_again : (front rest : List ℕ) (n : ℕ) → IsVarint front n → varint_at (front ++ rest) ≡ Ok (n, length front)
varint_again front rest n is = within_again 9 front rest n is.encoded is.short is.fits

-- ---- what is read is a varint

-- what was read took a varint from the front
pub record TookVarint (left : ℕ) (bytes : List ℕ) (found : ℕ × ℕ) : Type 0 where
  pub encoded : IsBytes bytes → EncodesNumber (take found.1 bytes) found.0
  pub positive : 1 ≤ found.1
  pub short : found.1 ≤ suc left
  pub within : found.1 ≤ length bytes
  pub fits : IsBytes bytes → found.0 < limit left

rest_bytes : (b : ℕ) (bytes : List ℕ) → IsBytes (b ∷ bytes) → IsBytes bytes
rest_bytes b bytes fits i = fits (suc i)

-- one byte more at the front
pub encodes_before : (b low : ℕ) (bytes : List ℕ) (n high : ℕ) → b ≡ 128 + low → low < 128 → n ≡ low + 128 * high → EncodesNumber bytes high → EncodesNumber (b ∷ bytes) n
encodes_before b low [] n high byte lt number encoded = absurd encoded
encodes_before b low (c ∷ bytes) n high byte lt number encoded = record { low = low; high = high; byte_is = byte; seven_bits = lt; number_is = number; above = encoded }

-- a continuation byte, before a varint
goes_before : (left b : ℕ) (bytes : List ℕ) (n k : ℕ) → 128 ≤ b → TookVarint left bytes (n, k) → TookVarint (suc left) (b ∷ bytes) (b - 128 + 128 * n, suc k)
goes_before left b bytes n k le took = record {
  encoded = λ fits. encodes_before b (b - 128) (take k bytes) (b - 128 + 128 * n) n (omega arith) (omega (arith, fits 0)) refl (took.encoded (rest_bytes b bytes fits));
  positive = omega arith;
  short = omega (arith, took.short);
  within = omega (arith, took.within);
  fits = λ fits. omega (arith, took.fits (rest_bytes b bytes fits), fits 0);
}

-- one byte alone
one_byte : (left b : ℕ) (bytes : List ℕ) → b < 128 → b < limit left → TookVarint left (b ∷ bytes) (b, 1)
one_byte left b bytes lt small = record { encoded = λ fits. (lt, refl); positive = omega arith; short = omega arith; within = omega arith; fits = λ fits. small }

-- each limit is above a byte's seven bits, but the last
limit_large : (left : ℕ) → 128 ≤ limit (suc left)
limit_large zero = omega arith
limit_large (suc left) = omega (arith, limit_large left)

pub within_took : (left : ℕ) (bytes : List ℕ) (found : ℕ × ℕ) → varint_within left bytes ≡ Ok found → TookVarint left bytes found
within_took left [] found e = absurd (let nil = within-nil left in cc)
within_took zero (b ∷ bytes) found e =
    elim (cases_lt b 2) [
      | inl lt ↦ subst (TookVarint 0 (b ∷ bytes)) (ok_is (b, 1) found (sym (within-tenth b bytes lt) ∙ e)) (one_byte 0 b bytes (omega arith) lt)
      | inr le ↦ absurd (let long = within-too_long b bytes le in cc)
    ]
within_took (suc left) (b ∷ bytes) found e =
    elim (cases_lt b 128) [
      | inl lt ↦ subst (TookVarint (suc left) (b ∷ bytes)) (ok_is (b, 1) found (sym (within-last left b bytes lt) ∙ e)) (one_byte (suc left) b bytes lt (omega (arith, limit_large left)))
      | inr le ↦
          let h = bind_ok (varint_within left bytes) (λ high. Ok (b - 128 + 128 * high.0, suc high.1)) found (sym (within-goes_on left b bytes le) ∙ e) in
          subst (TookVarint (suc left) (b ∷ bytes)) (ok_is (b - 128 + 128 * h.0.0, suc h.0.1) found h.2) (goes_before left b bytes h.0.0 h.0.1 le (within_took left bytes h.0 h.1))
    ]

-- ---- the fault

-- why the bytes begin with no varint that has at most this number of bytes before its last one
abbrev FaultWithin : ℕ → List ℕ → WireError → Type 0
FaultWithin left bytes Truncated = AllGoOn bytes × (length bytes < suc left)
FaultWithin left bytes LongVarint = AllGoOn (take left bytes) × (1 < get_or bytes left 0)
FaultWithin left bytes BadField = ⊥
FaultWithin left bytes GroupWire = ⊥
FaultWithin left bytes BadWire = ⊥

fault_from_within : (bytes : List ℕ) (e : WireError) → FaultWithin 9 bytes e → IsVarintFault bytes e
fault_from_within bytes Truncated h = h
fault_from_within bytes LongVarint h = h
fault_from_within bytes BadField h = h
fault_from_within bytes GroupWire h = h
fault_from_within bytes BadWire h = h

fault_to_within : (bytes : List ℕ) (e : WireError) → IsVarintFault bytes e → FaultWithin 9 bytes e
fault_to_within bytes Truncated h = h
fault_to_within bytes LongVarint h = h
fault_to_within bytes BadField h = h
fault_to_within bytes GroupWire h = h
fault_to_within bytes BadWire h = h

fault_before : (left b : ℕ) (bytes : List ℕ) (e : WireError) → 128 ≤ b → FaultWithin left bytes e → FaultWithin (suc left) (b ∷ bytes) e
fault_before left b bytes Truncated le h = ((le, h.0), omega (arith, h.1))
fault_before left b bytes LongVarint le h = ((le, h.0), h.1)
fault_before left b bytes BadField le h = h
fault_before left b bytes GroupWire le h = h
fault_before left b bytes BadWire le h = h

within_fault : (left : ℕ) (bytes : List ℕ) (d : WireError) → varint_within left bytes ≡ Err d → FaultWithin left bytes d
within_fault left [] d e = subst (FaultWithin left []) (err_is (ℕ × ℕ) Truncated d (sym (within-nil left) ∙ e)) (tt, omega arith)
within_fault zero (b ∷ bytes) d e =
    elim (cases_lt b 2) [
      | inl lt ↦ absurd (let last = within-tenth b bytes lt in cc)
      | inr le ↦ subst (FaultWithin 0 (b ∷ bytes)) (err_is (ℕ × ℕ) LongVarint d (sym (within-too_long b bytes le) ∙ e)) (tt, le)
    ]
within_fault (suc left) (b ∷ bytes) d e =
    elim (cases_lt b 128) [
      | inl lt ↦ absurd (let last = within-last left b bytes lt in cc)
      | inr le ↦ elim (bind_err (varint_within left bytes) (λ high. Ok (b - 128 + 128 * high.0, suc high.1)) d (sym (within-goes_on left b bytes le) ∙ e)) [
        | inl h ↦ fault_before left b bytes d le (within_fault left bytes d h)
        | inr h ↦ absurd (let both = h.2 in cc)
      ]
    ]

fault_again : (left : ℕ) (bytes : List ℕ) (d : WireError) → FaultWithin left bytes d → varint_within left bytes ≡ Err d
fault_again left [] Truncated h = within-nil left
fault_again zero (b ∷ bytes) Truncated h = absurd (omega (arith, h.1))
fault_again (suc left) (b ∷ bytes) Truncated h = within-goes_on left b bytes h.0.0 ∙ ap (λ r. r >>= λ high. Ok (b - 128 + 128 * high.0, suc high.1)) (fault_again left bytes Truncated (h.0.1, omega (arith, h.1)))
fault_again zero [] LongVarint h = absurd (omega (arith, h.1))
fault_again (suc left) [] LongVarint h = absurd (omega (arith, h.1))
fault_again zero (b ∷ bytes) LongVarint h = within-too_long b bytes h.1
fault_again (suc left) (b ∷ bytes) LongVarint h = within-goes_on left b bytes h.0.0 ∙ ap (λ r. r >>= λ high. Ok (b - 128 + 128 * high.0, suc high.1)) (fault_again left bytes LongVarint (h.0.1, h.1))
fault_again left bytes BadField h = absurd h
fault_again left bytes GroupWire h = absurd h
fault_again left bytes BadWire h = absurd h

pub varint_fault : (bytes : List ℕ) (d : WireError) → varint_at bytes ≡ Err d → IsVarintFault bytes d
varint_fault bytes d e = fault_from_within bytes d (within_fault 9 bytes d e)

pub varint_fault_again : (bytes : List ℕ) (d : WireError) → IsVarintFault bytes d → varint_at bytes ≡ Err d
varint_fault_again bytes d h = fault_again 9 bytes d (fault_to_within bytes d h)

-- ---- the shortest encoding

encoding_encodes : (left n : ℕ) → n < limit left → EncodesNumber (encoding_within left n) n × (length (encoding_within left n) ≤ suc left)
unfolding encoding_within
encoding_encodes zero n lt = ((omega arith, refl), omega arith)
encoding_encodes (suc left) n lt =
    elim (cases_lt n 128) [
      | inl small ↦ rw (encoding-last (suc left) n small) ((small, refl), omega arith)
      | inr le ↦
          let above = encoding_encodes left (n / 128) (omega arith) in
          rw (encoding-goes_on left n le) (encodes_before (n % 128 + 128) (n % 128) (encoding_within left (n / 128)) n (n / 128) (omega arith) (omega arith) (omega arith) above.0, omega (arith, above.1))
    ]

pub varint_encoding_is : (n : ℕ) → n < 2 ^ 64 → IsVarint (varint_encoding n) n
unfolding varint_encoding
varint_encoding_is n lt = let both = encoding_encodes 9 n lt in record { encoded = both.0; short = both.1; fits = lt }

not_empty : (bytes : List ℕ) (n : ℕ) → EncodesNumber bytes n → 1 ≤ length bytes
not_empty [] n encoded = absurd encoded
not_empty (b ∷ bytes) n encoded = omega arith

encoding_shortest : (left n : ℕ) (bytes : List ℕ) → n < limit left → EncodesNumber bytes n → length (encoding_within left n) ≤ length bytes
unfolding encoding_within
encoding_shortest left n [] lt encoded = absurd encoded
encoding_shortest zero n (b ∷ bytes) lt encoded = omega arith
encoding_shortest (suc left) n (b ∷ []) lt encoded = rw (encoding-last (suc left) n (omega arith)) (omega arith)
encoding_shortest (suc left) n (b ∷ c ∷ bytes) lt encoded =
    elim (cases_lt n 128) [
      | inl small ↦ rw (encoding-last (suc left) n small) (omega arith)
      | inr le ↦
          let high : n / 128 ≡ encoded.high = omega (arith, encoded.seven_bits, encoded.number_is) in
          rw (encoding-goes_on left n le, high) (omega (arith, encoding_shortest left encoded.high (c ∷ bytes) (omega (arith, encoded.number_is)) encoded.above))
    ]

pub varint_encoding_shortest : (n : ℕ) (bytes : List ℕ) → IsVarint bytes n → length (varint_encoding n) ≤ length bytes
unfolding varint_encoding
varint_encoding_shortest n bytes is = encoding_shortest 9 n bytes is.fits is.encoded
