-- Encoding a number from its low bits on: what was pushed until now, and what is left of the
-- number. For `push_varint`, and for functions of other crates that count the bytes of an encoding.
use Rattle.std.proofs.Common.{◌≡◌, ℕ, zero, suc, ◌+◌, ◌*◌, ◌/◌, ◌%◌, ◌-◌, ◌<◌, ◌≤◌, List, [], ◌∷◌, ◌++◌, length, refl, sym, ap, subst, ◌∙◌, append_assoc, arith, inl, inr}
use Rattle.std.proofs.lemmas.Bool.{cases_lt, lt-ltb, le-ltb}
use Rattle.pw_wire.specs.Varint.{encoding_within, varint_encoding}

-- the numbers that have a varint of `left` bytes before the last one
abbrev pub limit : ℕ → ℕ
limit zero = 2
limit (suc left) = 128 * limit left

-- after i continuation bytes
pub record EncodedSoFar (start out : List ℕ) (n rest i : ℕ) : Type 0 where
  pub so_far : out ++ encoding_within (9 - i) rest ≡ start ++ varint_encoding n
  pub small : rest < limit (9 - i)

-- one byte is enough
pub encoding-last : (left n : ℕ) → n < 128 → encoding_within left n ≡ n ∷ []
unfolding encoding_within
encoding-last zero n lt = refl
encoding-last (suc left) n lt = rw (lt-ltb n 128 lt) refl

-- seven bits, and the bytes for the bits above
pub encoding-goes_on : (left n : ℕ) → 128 ≤ n → encoding_within (suc left) n ≡ (n % 128 + 128) ∷ encoding_within left (n / 128)
unfolding encoding_within
encoding-goes_on left n le = rw (le-ltb n 128 le) refl

-- nothing is encoded yet
pub at_start : (start : List ℕ) (n : ℕ) → n < limit 9 → EncodedSoFar start start n n 0
unfolding varint_encoding
at_start start n lt = record { so_far = refl; small = lt }

-- another continuation byte
pub goes_on : (start out : List ℕ) (n rest i : ℕ) → EncodedSoFar start out n rest i → i < 9 → 128 ≤ rest → EncodedSoFar start (out ++ (rest % 128 + 128) ∷ []) n (rest / 128) (i + 1)
goes_on start out n rest i encoded lt le =
    let left : 9 - i ≡ suc (8 - i) = omega arith in
    let after : 9 - (i + 1) ≡ 8 - i = omega arith in
    let small : rest < limit (suc (8 - i)) = subst (λ (k : ℕ). rest < limit k) left encoded.small in
    record {
      so_far = rw (after, append_assoc out ((rest % 128 + 128) ∷ []) (encoding_within (8 - i) (rest / 128)))
          (ap (λ bytes. out ++ bytes) (sym (encoding-goes_on (8 - i) rest le)) ∙ ap (λ k. out ++ encoding_within k rest) (sym left) ∙ encoded.so_far);
      small = rw after (omega arith);
    }

-- after nine bytes one bit is left
pub is_small : (rest i : ℕ) → 9 ≤ i → rest < limit (9 - i) → rest < 128
is_small rest i ge small =
    let none : 9 - i ≡ 0 = omega arith in
    let two : rest < 2 = subst (λ (k : ℕ). rest < limit k) none small in
    omega arith

-- the last byte
pub ends : (start out : List ℕ) (n rest i : ℕ) → EncodedSoFar start out n rest i → rest < 128 → out ++ rest ∷ [] ≡ start ++ varint_encoding n
ends start out n rest i encoded lt = ap (λ bytes. out ++ bytes) (sym (encoding-last (9 - i) rest lt)) ∙ encoded.so_far

-- ---- how long an encoding is

encoding-mono : (left m n : ℕ) → m ≤ n → length (encoding_within left m) ≤ length (encoding_within left n)
unfolding encoding_within
encoding-mono zero m n le = omega arith
encoding-mono (suc left) m n le =
    elim (cases_lt n 128) [
      | inl lt ↦ let lt' : m < 128 = omega arith in rw (lt-ltb n 128 lt, lt-ltb m 128 lt') (omega arith)
      | inr ge ↦ elim (cases_lt m 128) [
        | inl lt ↦ rw (le-ltb n 128 ge, lt-ltb m 128 lt) (omega arith)
        | inr ge' ↦ rw (le-ltb n 128 ge, le-ltb m 128 ge') (omega (arith, encoding-mono left (m / 128) (n / 128) (omega arith)))
      ]
    ]

-- a larger number has no shorter varint
pub varint_encoding-mono : (m n : ℕ) → m ≤ n → length (varint_encoding m) ≤ length (varint_encoding n)
unfolding varint_encoding
varint_encoding-mono m n le = encoding-mono 9 m n le
