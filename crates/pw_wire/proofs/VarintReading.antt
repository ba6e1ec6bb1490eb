-- Reading a varint from its lowest byte on: what was read so far, and by how many bits the next
-- seven are shifted. For `long_varint`, and for `Varints`, which takes the steps of the reading
-- from here.
use Rattle.std.proofs.Common.{◌≡◌, ℕ, zero, suc, ◌+◌, ◌*◌, ◌%◌, ◌-◌, ◌^◌, ◌<◌, ◌≤◌, List, [], ◌∷◌, length, drop, get_or, Result, Ok, Err, refl, sym, ap, subst, ◌∙◌, arith, add-one, drop-cons}
use Rattle.std.proofs.Math.ListN.{drop_of_length-le}
use Rattle.std.proofs.Math.Nat.{mul-le-mul_right, pow-le-pow_right}
use Rattle.std.proofs.lemmas.Nat.{pow-add, shl_whole}
use Rattle.std.proofs.lemmas.Bool.{lt-ltb, le-ltb}
use Rattle.pw_wire.specs.declared.error.WireError.{WireError}
use Rattle.pw_wire.specs.declared.error.WireError.TheVariants.{Truncated, LongVarint}
use Rattle.pw_wire.specs.Decoding.{◌>>=◌}
use Rattle.pw_wire.specs.Varint.{varint_within, varint_at}

-- a number and its length, combined with what was read before
abbrev pub whole_varint : ℕ → ℕ → ℕ → Result (ℕ × ℕ) WireError → Result (ℕ × ℕ) WireError
whole_varint i low shift (Ok high) = Ok (low + high.0 * 2 ^ shift, i + high.1)
whole_varint i low shift (Err e) = Err e

-- after i continuation bytes
pub record ReadSoFar (bytes : List ℕ) (i low shift : ℕ) : Type 0 where
  pub small : low < 2 ^ shift
  pub shift_is : shift ≡ 7 * i
  pub so_far : varint_at bytes ≡ whole_varint i low shift (varint_within (9 - i) (drop i bytes))

-- no byte is left
pub within-nil : (left : ℕ) → varint_within left [] ≡ Err Truncated
unfolding varint_within
within-nil zero = refl
within-nil (suc left) = refl

-- one byte that ends the varint
pub within-last : (left b : ℕ) (bytes : List ℕ) → b < 128 → varint_within (suc left) (b ∷ bytes) ≡ Ok (b, 1)
unfolding varint_within
within-last left b bytes lt = rw (lt-ltb b 128 lt) refl

-- a continuation byte
pub within-goes_on : (left b : ℕ) (bytes : List ℕ) → 128 ≤ b → varint_within (suc left) (b ∷ bytes) ≡ (varint_within left bytes >>= λ high. Ok (b - 128 + 128 * high.0, suc high.1))
unfolding varint_within
within-goes_on left b bytes le = rw (le-ltb b 128 le) refl

-- the tenth byte
pub within-tenth : (b : ℕ) (bytes : List ℕ) → b < 2 → varint_within 0 (b ∷ bytes) ≡ Ok (b, 1)
unfolding varint_within
within-tenth b bytes lt = rw (lt-ltb b 2 lt) refl

pub within-too_long : (b : ℕ) (bytes : List ℕ) → 2 ≤ b → varint_within 0 (b ∷ bytes) ≡ Err LongVarint
unfolding varint_within
within-too_long b bytes le = rw (le-ltb b 2 le) refl

-- what is left at an index within the bytes
front_of : (bytes : List ℕ) (i : ℕ) → i < length bytes → drop i bytes ≡ get_or bytes i 0 ∷ drop (i + 1) bytes
front_of bytes i lt = rw (add-one i, drop-cons bytes i 0) refl

-- the varint so far reaches the end of the bytes
pub is_truncated : (bytes : List ℕ) (i low shift : ℕ) → ReadSoFar bytes i low shift → length bytes ≤ i → Err Truncated ≡ varint_at bytes
is_truncated bytes i low shift read le =
    sym (read.so_far ∙ ap (λ rest. whole_varint i low shift (varint_within (9 - i) rest)) (drop_of_length-le bytes le) ∙ ap (whole_varint i low shift) (within-nil (9 - i)))

-- what is left of the varint, when there is another byte
next_byte : (bytes : List ℕ) (i low shift : ℕ) → ReadSoFar bytes i low shift → i < 9 → i < length bytes
    → varint_at bytes ≡ whole_varint i low shift (varint_within (suc (8 - i)) (get_or bytes i 0 ∷ drop (i + 1) bytes))
next_byte bytes i low shift read lt within =
    let left : 9 - i ≡ suc (8 - i) = omega arith in
    read.so_far ∙ ap (λ rest. whole_varint i low shift (varint_within (9 - i) rest)) (front_of bytes i within)
    ∙ ap (λ k. whole_varint i low shift (varint_within k (get_or bytes i 0 ∷ drop (i + 1) bytes))) left

-- the next byte is the last
pub is_last : (bytes : List ℕ) (i low shift : ℕ) → ReadSoFar bytes i low shift → i < 9 → i < length bytes → get_or bytes i 0 < 128 → Ok (low + get_or bytes i 0 * 2 ^ shift, i + 1) ≡ varint_at bytes
is_last bytes i low shift read lt within small =
    sym (next_byte bytes i low shift read lt within ∙ ap (whole_varint i low shift) (within-last (8 - i) (get_or bytes i 0) (drop (i + 1) bytes) small))

-- ---- shifts

-- seven bits more are a factor of 128
seven_more : (shift : ℕ) → 2 ^ (shift + 7) ≡ 2 ^ shift * 128
seven_more shift = pow-add 2 shift 7

shifted : (low digit high weight : ℕ) → low + (digit + 128 * high) * weight ≡ low + digit * weight + high * (weight * 128)
shifted low digit high weight = omega arith

-- seven bits stay below the next ones
digit_fits : (low digit shift : ℕ) → low < 2 ^ shift → digit < 128 → low + digit * 2 ^ shift < 2 ^ (shift + 7)
digit_fits low digit shift small lt =
    let most : digit * 2 ^ shift ≤ 127 * 2 ^ shift = mul-le-mul_right (2 ^ shift) (omega arith) in
    rw (seven_more shift) (omega arith)

-- seven bits that are shifted within the 64 lose none
pub shift-seven : (b shift i : ℕ) → b < 128 → shift ≡ 7 * i → i < 9 → (b * 2 ^ shift) % 2 ^ 64 ≡ b * 2 ^ shift
shift-seven b shift i lt is less = shl_whole b 7 shift 64 lt (omega arith)

-- the last bit is not lost either
pub shift-last : (b shift : ℕ) → b < 2 → shift ≡ 7 * 9 → (b * 2 ^ shift) % 2 ^ 64 ≡ b * 2 ^ shift
shift-last b shift lt is = shl_whole b 1 shift 64 lt (omega arith)

-- the number stays within its 64 bits
pub low-fits : (b low shift i : ℕ) → low < 2 ^ shift → shift ≡ 7 * i → b < 128 → i < 9 → low + (b * 2 ^ shift) % 2 ^ 64 < 2 ^ 64
low-fits b low shift i small is lt less =
    let within : shift + 7 ≤ 64 = omega arith in
    let room : 2 ^ (shift + 7) ≤ 2 ^ 64 = pow-le-pow_right (omega arith) within in
    rw (shift-seven b shift i lt is less) (omega (arith, digit_fits low b shift small lt))

-- ---- a continuation byte

-- the value of a continuation byte, with its shift
shift_in : (i b low shift : ℕ) (high : Result (ℕ × ℕ) WireError) → 128 ≤ b
    → whole_varint i low shift (high >>= λ h. Ok (b - 128 + 128 * h.0, suc h.1)) ≡ whole_varint (i + 1) (low + (b - 128) * 2 ^ shift) (shift + 7) high
shift_in i b low shift (Ok h) le =
    let count : i + suc h.1 ≡ i + 1 + h.1 = omega arith in
    rw (seven_more shift, shifted low (b - 128) h.0 (2 ^ shift), count) refl
shift_in i b low shift (Err e) le = refl

-- the next byte is a continuation byte
pub goes_on : (bytes : List ℕ) (i low shift : ℕ) → ReadSoFar bytes i low shift → i < 9 → i < length bytes → 128 ≤ get_or bytes i 0 → get_or bytes i 0 < 256
    → ReadSoFar bytes (i + 1) (low + (get_or bytes i 0 - 128) * 2 ^ shift) (shift + 7)
goes_on bytes i low shift read lt within large fits = record {
  small = digit_fits low (get_or bytes i 0 - 128) shift read.small (omega arith);
  shift_is = omega (arith, read.shift_is);
  so_far =
      let left : 8 - i ≡ 9 - (i + 1) = omega arith in
      next_byte bytes i low shift read lt within
      ∙ ap (whole_varint i low shift) (within-goes_on (8 - i) (get_or bytes i 0) (drop (i + 1) bytes) large)
      ∙ shift_in i (get_or bytes i 0) low shift (varint_within (8 - i) (drop (i + 1) bytes)) large
      ∙ ap (λ k. whole_varint (i + 1) (low + (get_or bytes i 0 - 128) * 2 ^ shift) (shift + 7) (varint_within k (drop (i + 1) bytes))) left;
}

-- nine bytes were continuation bytes
pub after_nine : (bytes : List ℕ) (i low shift : ℕ) → ReadSoFar bytes i low shift → i ≤ 9 → 9 ≤ i → ReadSoFar bytes 9 low shift
after_nine bytes i low shift read le ge =
    let nine : i ≡ 9 = omega arith in
    subst (λ (k : ℕ). ReadSoFar bytes k low shift) nine read

-- the tenth byte is the last, or the varint is too long
tenth : (bytes : List ℕ) (low shift : ℕ) → ReadSoFar bytes 9 low shift → 9 < length bytes → varint_at bytes ≡ whole_varint 9 low shift (varint_within 0 (get_or bytes 9 0 ∷ drop 10 bytes))
tenth bytes low shift read within = read.so_far ∙ ap (λ rest. whole_varint 9 low shift (varint_within 0 rest)) (front_of bytes 9 within)

pub is_tenth : (bytes : List ℕ) (low shift : ℕ) → ReadSoFar bytes 9 low shift → 9 < length bytes → get_or bytes 9 0 < 2 → Ok (low + get_or bytes 9 0 * 2 ^ shift, 10) ≡ varint_at bytes
is_tenth bytes low shift read within lt = sym (tenth bytes low shift read within ∙ ap (whole_varint 9 low shift) (within-tenth (get_or bytes 9 0) (drop 10 bytes) lt))

pub is_too_long : (bytes : List ℕ) (low shift : ℕ) → ReadSoFar bytes 9 low shift → 9 < length bytes → 2 ≤ get_or bytes 9 0 → Err LongVarint ≡ varint_at bytes
is_too_long bytes low shift read within le = sym (tenth bytes low shift read within ∙ ap (whole_varint 9 low shift) (within-too_long (get_or bytes 9 0) (drop 10 bytes) le))
