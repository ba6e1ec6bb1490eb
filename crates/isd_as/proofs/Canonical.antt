-- The canonical text of an ISD-AS is in the grammar, and denotes that ISD-AS.
use Rattle.std.proofs.Common.{◌≡◌, ℕ, zero, suc, ◌+◌, ◌*◌, ◌/◌, ◌%◌, ◌^◌, ◌<◌, ◌≤◌, false, eqb, ltb, List, [], ◌∷◌, length, refl, arith}
use Rattle.std.specs.Fmt.{decimal, digit_glyph, digits, digits_onto}
use Rattle.std.proofs.lemmas.Bool.{cond_both, eqb-false, ltb-true}
use Rattle.std.proofs.lemmas.Fmt.{decimal_is_IsNumeral, digits_is_IsNumeral}
use Rattle.isd_as.specs.declared.number.IsdAs.{IsdAs}
use Rattle.isd_as.specs.Text.{AsNumber, Decimal, Groups, FitsAs, IsAsText, IsHexGroup, IsIsdAsText, as_number, as_text, isd_as_text}

-- the least number with more than j + 1 hexadecimal digits
abbrev limit : ℕ → ℕ
limit zero = 16
limit (suc j) = limit j * 16

length-onto : (j k n : ℕ) (acc : List ℕ) → n < limit j → j ≤ k → length (digits_onto (suc k) 16 false n acc) ≤ suc j + length acc
length-onto zero k n acc h low = cond_both (eqb (n / 16) 0) _ _ (λ (ds : List ℕ). length ds ≤ 1 + length acc) (λ e. omega arith) (λ e. absurd (eqb-false (n / 16) 0 e (omega arith)))
length-onto (suc j) zero n acc h low = absurd (omega arith)
length-onto (suc j) (suc k) n acc h low =
    cond_both (eqb (n / 16) 0) _ _ (λ (ds : List ℕ). length ds ≤ suc (suc j) + length acc)
    (λ e. omega arith)
    (λ e. let rest = length-onto j k (n / 16) (digit_glyph false (n % 16) ∷ acc) (omega arith) (omega arith) in omega arith)

-- 16 bits have at most four hexadecimal digits
length-hex : (n : ℕ) → n < 2 ^ 16 → length (digits 16 false n) ≤ 4
unfolding digits
length-hex n h = length-onto 3 63 n [] h (omega arith)

group_says : (n : ℕ) → n < 2 ^ 16 → IsHexGroup (digits 16 false n) n
group_says n h = let says = digits_is_IsNumeral 16 false (omega arith) (omega arith) n (omega arith) in record { numeral = says.0; short = length-hex n h; number_is = says.1 }

-- the canonical text of an AS of 48 bits denotes that AS
as_says : (n : ℕ) → n < 2 ^ 48 → (number : AsNumber) × IsAsText (as_text n) number × FitsAs number × (n ≡ as_number number)
as_says n h =
    cond_both (ltb n (2 ^ 32)) _ _ (λ (text : List ℕ). (number : AsNumber) × IsAsText text number × FitsAs number × (n ≡ as_number number))
    (λ e. (Decimal n, decimal_is_IsNumeral n (omega arith), ltb-true n (2 ^ 32) e, refl))
    (λ e. (
      Groups (n / 2 ^ 32) (n / 2 ^ 16 % 2 ^ 16) (n % 2 ^ 16),
      record {
        first = digits 16 false (n / 2 ^ 32);
        second = digits 16 false (n / 2 ^ 16 % 2 ^ 16);
        third = digits 16 false (n % 2 ^ 16);
        joined = refl;
        first_says = group_says _ (omega arith);
        second_says = group_says _ (omega arith);
        third_says = group_says _ (omega arith);
      },
      tt,
      omega arith,
    ))

pub canonical_says : (ia : IsdAs) → ia.isd < 2 ^ 16 → IsIsdAsText (isd_as_text ia) ia
canonical_says ia h =
    let asn = as_says ia.asn ia.in_range in
    record {
      number = asn.0;
      says = record {
        front = decimal ia.isd;
        back = as_text ia.asn;
        joined = refl;
        front_says = decimal_is_IsNumeral ia.isd (omega arith);
        back_says = asn.1;
      };
      isd = h;
      fits = asn.2;
      asn = asn.3;
    }
