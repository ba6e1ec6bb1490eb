-- Members of lists, and of the rows of a list that pass a test.
use Rattle.std.proofs.Common.{◌≡◌, zero, suc, Bool, true, false, cond, List, [], ◌∷◌, refl, sym, ap, ◌∙◌, subst, arith}
use Rattle.std.specs.List.{AllByRecursion, Contains, filter}
use Rattle.row_map.specs.Database.{RowView}

pub contains_head : (x : RowView) (xs : List RowView) → Contains (x ∷ xs) x
contains_head x xs = (0, omega arith, refl)

pub contains_later : (y x : RowView) (xs : List RowView) → Contains xs x → Contains (y ∷ xs) x
contains_later y x xs found = (suc found.0, omega (arith, found.1), found.2)

pub contains_none : (x : RowView) → Contains [] x → ⊥
contains_none x found = omega (arith, found.1)

-- what holds for all rows of a list holds for a member
pub at_member : (P : RowView → Type 0) (xs : List RowView) (y : RowView) → AllByRecursion P xs → Contains xs y → P y
at_member P [] y all found = absurd (contains_none y found)
at_member P (x ∷ xs) y all (zero, lt, same) = subst P same all.0
at_member P (x ∷ xs) y all (suc k, lt, same) = at_member P xs y all.1 (k, omega arith, same)

-- a member is the first row, or one of the others
pub head_or_later : (P : Type 0) (x y : RowView) (xs : List RowView) → Contains (x ∷ xs) y → (x ≡ y → P) → (Contains xs y → P) → P
head_or_later P x y xs (zero, lt, same) first later = first same
head_or_later P x y xs (suc k, lt, same) first later = later (k, omega arith, same)

module _ (p : RowView → Bool) where
  kept_later : (b : Bool) (x y : RowView) (kept xs : List RowView) → p x ≡ b → ((found : Contains kept y) → Contains xs y × (p y ≡ true)) → Contains (cond b (x ∷ kept) kept) y → Contains (x ∷ xs) y × (p y ≡ true)
  kept_later true x y kept xs e rest (zero, lt, same) = (subst (λ z. Contains (x ∷ xs) z) same (contains_head x xs), ap p (sym same) ∙ e)
  kept_later true x y kept xs e rest (suc k, lt, same) =
      let found = rest (k, omega arith, same) in (contains_later x y xs found.0, found.1)
  kept_later false x y kept xs e rest found = let now = rest found in (contains_later x y xs now.0, now.1)

  -- a row that passed is a member, and passes the test
  pub passed : (xs : List RowView) (y : RowView) → Contains (filter p xs) y → Contains xs y × (p y ≡ true)
  passed [] y found = absurd (omega (arith, found.1))
  passed (x ∷ xs) y found = kept_later (p x) x y (filter p xs) xs refl (passed xs y) found

  first_kept : (x y : RowView) (kept : List RowView) → x ≡ y → p y ≡ true → Contains (cond (p x) (x ∷ kept) kept) y
  first_kept x y kept same passes = subst (λ b. Contains (cond b (x ∷ kept) kept) y) (sym (ap p same ∙ passes)) (subst (λ z. Contains (x ∷ kept) z) same (contains_head x kept))

  still_kept : (b : Bool) (x y : RowView) (kept : List RowView) → Contains kept y → Contains (cond b (x ∷ kept) kept) y
  still_kept true x y kept found = contains_later x y kept found
  still_kept false x y kept found = found

  -- a member that passes the test is among the rows that do
  pub passes_in : (xs : List RowView) (y : RowView) → Contains xs y → p y ≡ true → Contains (filter p xs) y
  passes_in [] y found passes = absurd (omega (arith, found.1))
  passes_in (x ∷ xs) y (zero, lt, same) passes = first_kept x y (filter p xs) same passes
  passes_in (x ∷ xs) y (suc k, lt, same) passes = still_kept (p x) x y (filter p xs) (passes_in xs y (k, omega arith, same) passes)
