-- Digits, and what they encode. For bytes_of, bytes_of_digits, encode_bytes and key_of.
use Rattle.std.proofs.Common.{◌≡◌, ℕ, ◌*◌, ◌%◌, ◌≤◌, ◌<◌, ◌⊎◌, inl, inr, Bool, List, [], ◌∷◌, length, Result, Ok, Err, refl, sym, subst, ◌∙◌, arith, tests}
use Rattle.std.specs.Prelude.{IsOk, IsErr, IsTrue, ◌↔◌}
use Rattle.std.specs.List.{list_all}
use Rattle.std.specs.Char.{is_ascii_hexdigit}
use Rattle.std.proofs.lemmas.List.Sums.{AllPass-from_list_all, list_all-from_AllPass}
use Rattle.hex.specs.Hex.{decode_of, is_hex_digit}
use Rattle.hex.specs.declared.error.FromHexError.{FromHexError}
use Rattle.hex.proofs.HexLemmas.{decode_of-ok, decode_of-digits}
use Rattle.seg_check.specs.declared.keyed.TheConstants.{MOST_KEY}
use Rattle.cli_once.specs.declared.error.SessionFault.{SessionFault}
use Rattle.cli_once.specs.declared.error.SessionFault.TheVariants as fault
use Rattle.cli_once.specs.HexInput.{RefusesDigits}
use Rattle.cli_once.specs.Key.{IsKeyText, IsKeyTooLong, RefusesKey}

-- std's test of a digit is hex's
digit_same : (c : ℕ) → is_ascii_hexdigit c ≡ is_hex_digit c
digit_same c = grind (arith, tests)

all_same : (s : List ℕ) → list_all is_ascii_hexdigit s ≡ list_all is_hex_digit s
all_same [] = refl
all_same (c ∷ s) = rw (digit_same c, all_same s) refl

-- a result with a value is Ok
ok_of : {A B : Type 0} (r : Result A B) (x : A) → r ≡ Ok x → IsOk r
ok_of r x is = subst IsOk (sym is) refl

-- an even number of digits encodes bytes, and nothing else does
pub digits_encode : (s : List ℕ) (test : Bool) → length s % 2 ≡ 0 → test ≡ list_all is_ascii_hexdigit s → IsTrue test ↔ IsOk (decode_of s)
digits_encode s test even is = (
  (λ true_test. let all = AllPass-from_list_all is_hex_digit s (sym (all_same s) ∙ sym is ∙ true_test) in
      let found = decode_of-digits s even all in
      ok_of (decode_of s) found.0 found.1),
  (λ ok. encoded_test s test is (decode_of s) refl ok),
)
  where
    encoded_test : (s : List ℕ) (test : Bool) → test ≡ list_all is_ascii_hexdigit s → (r : Result (List ℕ) FromHexError) → decode_of s ≡ r → IsOk r → IsTrue test
    encoded_test s test is (Ok bytes) d ok = is ∙ all_same s ∙ list_all-from_AllPass is_hex_digit s (decode_of-ok s bytes d).1
    encoded_test s test is (Err e) d ok = cc ok

-- this number of digits encodes no key, or too long a one
pub too_long : (s : List ℕ) → 2 * MOST_KEY < length s → IsErr (decode_of s) ⊎ IsKeyTooLong s
too_long s long = by_decoding (decode_of s) refl
  where
    by_decoding : (r : Result (List ℕ) FromHexError) → decode_of s ≡ r → IsErr (decode_of s) ⊎ IsKeyTooLong s
    by_decoding (Ok bytes) d =
        let size = (decode_of-ok s bytes d).2 in
        inr (record { key = bytes; encoded = d; long = omega (arith, size, long) })
    by_decoding (Err e) d = inl (subst IsErr (sym d) refl)

-- so few digits encode a short key
pub short_key : (s bytes : List ℕ) → length s ≤ 2 * MOST_KEY → decode_of s ≡ Ok bytes → length bytes ≤ MOST_KEY
short_key s bytes short d = let size = (decode_of-ok s bytes d).2 in omega (arith, size, short)

-- digits that are refused are refused as a key
pub refuses_key : (s : List ℕ) (e : SessionFault) → length s ≤ 2 * MOST_KEY → RefusesDigits s e → RefusesKey s e
refuses_key s fault.Hex short refuses = inl refuses
refuses_key s fault.Memory short ok = by_decoding (decode_of s) refl ok
  where
    by_decoding : (r : Result (List ℕ) FromHexError) → decode_of s ≡ r → IsOk r → IsKeyText s
    by_decoding (Ok bytes) d ok = record { key = bytes; encoded = d; short = short_key s bytes short d }
    by_decoding (Err e) d ok = cc ok
refuses_key s (fault.Text e) short refuses = refuses
refuses_key s (fault.Frame e) short refuses = refuses
refuses_key s fault.Output short refuses = refuses
