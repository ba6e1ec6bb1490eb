-- The end of a loop over a list: for `totals`.
use Rattle.std.proofs.Common.{◌≡◌, ℕ, ◌≤◌, List, [], ◌∷◌, length, drop, refl, arith}
use Rattle.std.proofs.lemmas.List.{length-drop}

none_of : {X : Type 0} (l : List X) → length l ≡ 0 → l ≡ []
none_of [] e = refl
none_of (x ∷ l) e = absurd (omega (arith, e))

pub none_left_of : {X : Type 0} (n : ℕ) (l : List X) → length l ≤ n → drop n l ≡ []
none_left_of n l end = none_of (drop n l) (omega (arith, end, length-drop n l))
