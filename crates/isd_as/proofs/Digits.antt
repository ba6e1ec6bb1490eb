-- What the tests of digits decide, and what std's parsing of a number gives for digits alone.
use Rattle.std.proofs.Common.{◌≡◌, ℕ, ◌<◌, ◌≤◌, ◌^◌, List, [], ◌∷◌, length, Decides, Result, Ok, Err, Option, IfNone, refl, sym, ap, ◌∙◌, subst, inl, inr, arith}
use Rattle.std.specs.Char.{digit_value, is_ascii_digit, is_ascii_hexdigit}
use Rattle.std.specs.List.{list_all}
use Rattle.std.specs.Result.{result_ok}
use Rattle.std.specs.Str.Parse.{AllDigits, IsNumeral, ParsesUnsigned, digits_value, without_leading_plus}
use Rattle.std.proofs.lemmas.Bool.{cases_lt}
use Rattle.std.proofs.lemmas.Bool.Decides.{Decides-and, nat_tests}
use Rattle.std.proofs.lemmas.Str.Parse.{without_leading_plus_none}
use Rattle.std.proofs.lemmas.Int.Digits.{digits_value-lt}
use Rattle.std.proofs.Math.Nat.{pow-le-pow_right}
use Rattle.isd_as.specs.Text.{IsHexGroup}
use Rattle.isd_as.proofs.Cuts.{digits_lack}

decimal_digit_decides : (c : ℕ) → Decides (is_ascii_digit c) (digit_value c < 10)
decimal_digit_decides c = grind (arith, nat_tests)

hex_digit_decides : (c : ℕ) → Decides (is_ascii_hexdigit c) (digit_value c < 16)
hex_digit_decides c = grind (arith, nat_tests)

pub decimal_digits_decide : (cs : List ℕ) → Decides (list_all is_ascii_digit cs) (AllDigits 10 cs)
decimal_digits_decide [] = (λ _. tt, λ _. refl)
decimal_digits_decide (c ∷ cs) = Decides-and _ _ (decimal_digit_decides c) (decimal_digits_decide cs)

pub hex_digits_decide : (cs : List ℕ) → Decides (list_all is_ascii_hexdigit cs) (AllDigits 16 cs)
hex_digits_decide [] = (λ _. tt, λ _. refl)
hex_digits_decide (c ∷ cs) = Decides-and _ _ (hex_digit_decides c) (hex_digits_decide cs)

-- digits have no plus sign in front
no_plus : (radix : ℕ) (text : List ℕ) → radix ≤ 36 → IsNumeral radix text → without_leading_plus text ≡ text
no_plus radix text low h = without_leading_plus_none text (digits_lack radix 43 text (omega arith) h.1 0 h.0)

-- a number that was parsed from digits alone is the number of those digits, and fits
pub number_read : (k radix : ℕ) (text : List ℕ) (n : ℕ) → radix ≤ 36 → IsNumeral radix text → ParsesUnsigned {E = ℕ} k radix text (Ok n) → (digits_value radix text ≡ n) × (n < 2 ^ k)
number_read k radix text n low h p =
    let same = no_plus radix text low h in
    let value : digits_value radix text ≡ n = ap (digits_value radix) (sym same) ∙ sym p.1 in
    (value, subst (λ v. v < 2 ^ k) (sym p.1) p.0.1)

-- digits alone that were refused are a number that does not fit
pub number_refused : (k radix : ℕ) (text : List ℕ) → radix ≤ 36 → IsNumeral radix text → ParsesUnsigned {E = ℕ} k radix text (Err 0) → 2 ^ k ≤ digits_value radix text
number_refused k radix text low h p =
    let same = no_plus radix text low h in
    elim (cases_lt (digits_value radix text) (2 ^ k)) [
      | inl small ↦ absurd (p (subst (IsNumeral radix) (sym same) h, subst (λ (bs : List ℕ). digits_value radix bs < 2 ^ k) (sym same) small))
      | inr large ↦ large
    ]

-- a group of hexadecimal digits fits 16 bits
pub hex_group_fits : (text : List ℕ) (n : ℕ) → IsHexGroup text n → n < 2 ^ 16
hex_group_fits text n h =
    let value : digits_value 16 text < 16 ^ length text = digits_value-lt 16 text h.numeral.1 in
    let most : 16 ^ length text ≤ 16 ^ 4 = pow-le-pow_right (omega arith) h.short in
    omega (arith, h.number_is)

-- each group of hexadecimal digits is parsed without an error
pub hex_group_read : {E : Type 0} (text : List ℕ) (r : Result ℕ E) (o : Option ℕ) → ParsesUnsigned 16 16 text r → o ≡ result_ok r → IfNone o ((n : ℕ) → ¬ IsHexGroup text n)
hex_group_read text (Ok x) o p e = subst (λ v. IfNone v ((n : ℕ) → ¬ IsHexGroup text n)) (sym e) tt
hex_group_read text (Err x) o p e =
    subst (λ v. IfNone v ((n : ℕ) → ¬ IsHexGroup text n)) (sym e)
    (λ n h.
    let large = number_refused 16 16 text (omega arith) h.numeral p in
    let small = hex_group_fits text n h in
    omega (arith, h.number_is))
