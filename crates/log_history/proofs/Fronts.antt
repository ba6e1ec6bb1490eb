-- Fronts of lists.
use Rattle.std.proofs.Common.{◌≡◌, ℕ, ◌≤◌, ◌⊎◌, inl, inr, List, [], ◌∷◌, ◌++◌, length, refl, ap, sym, ◌∙◌, arith, append_assoc, length-append}
use mathlib.Core.List.{IsPrefix}

pub prefix_trans : {A : Type 0} (xs ys zs : List A) → IsPrefix xs ys → IsPrefix ys zs → IsPrefix xs zs
prefix_trans xs ys zs p q = (p.0 ++ q.0, sym (append_assoc xs p.0 q.0) ∙ (ap (λ w. w ++ q.0) p.1 ∙ q.1))

-- a front is no longer than the whole, and one as long as the whole is the whole
pub prefix_long : {A : Type 0} (xs ys : List A) → IsPrefix xs ys → length xs ≤ length ys
prefix_long xs ys p = let long = ap length p.1 in omega (arith, long, length-append xs p.0)

pub prefix_whole : {A : Type 0} (xs ys : List A) → IsPrefix xs ys → length ys ≤ length xs → xs ≡ ys
prefix_whole [] [] p le = refl
prefix_whole [] (y ∷ ys) p le = absurd (omega arith)
prefix_whole (x ∷ xs) [] p le = absurd (cc (p.1))
prefix_whole (x ∷ xs) (y ∷ ys) p le =
    let rest = prefix_whole xs ys (p.0, cc (p.1)) (omega arith) in cc (p.1, rest)

one_more : {A : Type 0} (x y : A) (xs ys : List A) → x ≡ y → IsPrefix xs ys ⊎ IsPrefix ys xs → IsPrefix (x ∷ xs) (y ∷ ys) ⊎ IsPrefix (y ∷ ys) (x ∷ xs)
one_more x y xs ys same (inl p) = inl (p.0, let rest = p.1 in cc (same, rest))
one_more x y xs ys same (inr p) = inr (p.0, let rest = p.1 in cc (same, rest))

-- of two fronts of a list, one begins with the other
pub either_front : {A : Type 0} (xs ys zs : List A) → IsPrefix xs zs → IsPrefix ys zs → IsPrefix xs ys ⊎ IsPrefix ys xs
either_front [] ys zs p q = inl (ys, refl)
either_front (x ∷ xs) [] zs p q = inr (x ∷ xs, refl)
either_front (x ∷ xs) (y ∷ ys) [] p q = absurd (cc (p.1))
either_front (x ∷ xs) (y ∷ ys) (z ∷ zs) p q =
    let same : x ≡ y = cc (p.1, q.1) in
    one_more x y xs ys same (either_front xs ys zs (p.0, cc (p.1)) (q.0, cc (q.1)))
