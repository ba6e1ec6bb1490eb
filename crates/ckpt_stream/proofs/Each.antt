-- What holds of each element of a list, one element after the other.
use Rattle.std.proofs.Common.{ℕ, zero, suc, ◌+◌, ◌<◌, List, [], ◌∷◌, length, take, get_or, subst, sym, arith, add-one}
use Rattle.std.specs.List.{AllByRecursion}

all_suc : {A : Type 0} (P : A → Type 0) (list : List A) (n : ℕ) (d : A) → n < length list → AllByRecursion P (take n list) → P (get_or list n d) → AllByRecursion P (take (suc n) list)
all_suc P [] n d inside all holds = absurd (omega (arith, inside))
all_suc P (x ∷ list) zero d inside all holds = (holds, tt)
all_suc P (x ∷ list) (suc n) d inside all holds = (all.0, all_suc P list n d (omega (arith, inside)) all.1 holds)

pub all_more : {A : Type 0} (P : A → Type 0) (list : List A) (n : ℕ) (d : A) → n < length list → AllByRecursion P (take n list) → P (get_or list n d) → AllByRecursion P (take (n + 1) list)
all_more P list n d inside all holds = subst (λ (k : ℕ). AllByRecursion P (take k list)) (sym (add-one n)) (all_suc P list n d inside all holds)
