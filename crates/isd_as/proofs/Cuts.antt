-- A byte that is no digit cuts a text at one place only.
use Rattle.std.proofs.Common.{◌≡◌, ◌≢◌, ℕ, zero, suc, ◌<◌, ◌≤◌, List, [], ◌∷◌, ◌++◌, length, get_or, refl, ap, arith}
use Rattle.std.specs.Char.{digit_value}
use Rattle.std.specs.Str.Parse.{AllDigits}

-- digits hold no byte that is no digit
pub digits_lack : (radix c : ℕ) (ds : List ℕ) → radix ≤ digit_value c → AllDigits radix ds → (i : ℕ) → i < length ds → get_or ds i 0 ≢ c
digits_lack radix c [] h ds i low e = omega arith
digits_lack radix c (d ∷ ds) h all zero low e = let same : digit_value d ≡ digit_value c = ap digit_value e in omega (arith, all.0)
digits_lack radix c (d ∷ ds) h all (suc i) low e = digits_lack radix c ds h all.1 i (omega arith) e

-- a list with such a byte in it does not consist of digits
pub no_cut : (radix c : ℕ) (xs ys : List ℕ) → radix ≤ digit_value c → AllDigits radix (xs ++ c ∷ ys) → ⊥
no_cut radix c [] ys h all = omega (arith, all.0)
no_cut radix c (x ∷ xs) ys h all = no_cut radix c xs ys h all.1

-- two runs of digits, each before such a byte, are the same, and so are the parts after the bytes
pub cut_once : (radix c : ℕ) (xs ys us vs : List ℕ) → radix ≤ digit_value c → AllDigits radix xs → AllDigits radix us → xs ++ c ∷ ys ≡ us ++ c ∷ vs → (xs ≡ us) × (ys ≡ vs)
cut_once radix c [] ys [] vs h p q e = (refl, cc)
cut_once radix c [] ys (u ∷ us) vs h p q e = let head : c ≡ u = cc in let same : digit_value c ≡ digit_value u = ap digit_value head in absurd (omega (arith, q.0))
cut_once radix c (x ∷ xs) ys [] vs h p q e = let head : x ≡ c = cc in let same : digit_value x ≡ digit_value c = ap digit_value head in absurd (omega (arith, p.0))
cut_once radix c (x ∷ xs) ys (u ∷ us) vs h p q e =
    let rest = cut_once radix c xs ys us vs h p.1 q.1 cc in
    let head : x ≡ u = cc in
    (cc (rest.0, head), rest.1)
