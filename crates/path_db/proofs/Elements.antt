-- Membership in lists, and in what a test keeps of them.
use Rattle.std.proofs.Common.{◌≡◌, zero, suc, Bool, true, false, cond, List, [], ◌∷◌, refl, sym, ap, ◌∙◌, subst, arith}
use Rattle.std.specs.List.{Contains, filter}

pub Contains-head : {X : Type 0} (x : X) (xs : List X) → Contains (x ∷ xs) x
Contains-head x xs = (0, omega arith, refl)

pub Contains-later : {X : Type 0} (y x : X) (xs : List X) → Contains xs x → Contains (y ∷ xs) x
Contains-later y x xs found = (suc found.0, omega (arith, found.1), found.2)

-- a kept element is one that passes
module _ {X : Type 0} (p : X → Bool) where
  kept_later : (b : Bool) (x y : X) (kept xs : List X) → p x ≡ b → ((found : Contains kept y) → Contains xs y × (p y ≡ true)) → Contains (cond b (x ∷ kept) kept) y → Contains (x ∷ xs) y × (p y ≡ true)
  kept_later true x y kept xs e rest (zero, lt, same) = (subst (λ z. Contains (x ∷ xs) z) same (Contains-head x xs), ap p (sym same) ∙ e)
  kept_later true x y kept xs e rest (suc k, lt, same) =
      let found = rest (k, omega arith, same) in (Contains-later x y xs found.0, found.1)
  kept_later false x y kept xs e rest found = let now = rest found in (Contains-later x y xs now.0, now.1)

  pub kept_passes : (xs : List X) (y : X) → Contains (filter p xs) y → Contains xs y × (p y ≡ true)
  kept_passes [] y found = absurd (omega (arith, found.1))
  kept_passes (x ∷ xs) y found = kept_later (p x) x y (filter p xs) xs refl (kept_passes xs y) found

  first_kept : (x y : X) (kept : List X) → x ≡ y → p y ≡ true → Contains (cond (p x) (x ∷ kept) kept) y
  first_kept x y kept same passes = subst (λ b. Contains (cond b (x ∷ kept) kept) y) (sym (ap p same ∙ passes)) (subst (λ z. Contains (x ∷ kept) z) same (Contains-head x kept))

  still_kept : (b : Bool) (x y : X) (kept : List X) → Contains kept y → Contains (cond b (x ∷ kept) kept) y
  still_kept true x y kept found = Contains-later x y kept found
  still_kept false x y kept found = found

  pub passing_kept : (xs : List X) (y : X) → Contains xs y → p y ≡ true → Contains (filter p xs) y
  passing_kept [] y found passes = absurd (omega (arith, found.1))
  passing_kept (x ∷ xs) y (zero, lt, same) passes = first_kept x y (filter p xs) same passes
  passing_kept (x ∷ xs) y (suc k, lt, same) passes = still_kept (p x) x y (filter p xs) (passing_kept xs y (k, omega arith, same) passes)
