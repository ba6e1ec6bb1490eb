-- Slots that rise: by their indices, in two parts, and with one slot more or another in the place
-- of one.
use Rattle.std.proofs.Common.{◌≡◌, ℕ, zero, suc, ◌<◌, List, [], ◌∷◌, ◌++◌, length, get_or, sym, subst, arith}
use Rattle.std.specs.List.{AllByRecursion}
use Rattle.rising_map.specs.declared.slots.Slot.{Slot}
use Rattle.rising_map.specs.Slots.{AreRisingSlots}

module _ {X : Type 0} (P : X → Type 0) where
  -- by each index
  pub all_from : (xs : List X) → ((k : ℕ) (d : X) → k < length xs → P (get_or xs k d)) → AllByRecursion P xs
  all_from [] each = tt
  all_from (x ∷ xs) each = (each 0 x (omega arith), all_from xs (λ k d inside. each (suc k) d (omega (arith, inside))))

  pub all_at : (xs : List X) → AllByRecursion P xs → (k : ℕ) (d : X) → k < length xs → P (get_or xs k d)
  all_at [] all k d inside = absurd (omega (arith, inside))
  all_at (x ∷ xs) all zero d inside = all.0
  all_at (x ∷ xs) all (suc k) d inside = all_at xs all.1 k d (omega (arith, inside))

  -- with one element more, and another in the place of one
  pub all_inserted : (xs ys : List X) (x : X) → AllByRecursion P (xs ++ ys) → P x → AllByRecursion P (xs ++ x ∷ ys)
  all_inserted [] ys x all one = (one, all)
  all_inserted (y ∷ xs) ys x all one = (all.0, all_inserted xs ys x all.1 one)

  pub all_replaced : (xs ys : List X) (x y : X) → AllByRecursion P (xs ++ x ∷ ys) → (P x → P y) → AllByRecursion P (xs ++ y ∷ ys)
  all_replaced [] ys x y all turn = (turn all.0, all.1)
  all_replaced (z ∷ xs) ys x y all turn = (all.0, all_replaced xs ys x y all.1 turn)

module _ {V : Type 0} where
  -- by two indices
  pub rises : (slots : List (Slot V)) → AreRisingSlots slots → (i j : ℕ) (d : Slot V) → i < j → j < length slots → (get_or slots i d).number < (get_or slots j d).number
  rises [] rising i j d before inside = absurd (omega (arith, inside))
  rises (s ∷ slots) rising i zero d before inside = absurd (omega (arith, before))
  rises (s ∷ slots) rising zero (suc j) d before inside = all_at (λ t. s.number < t.number) slots rising.0 j d (omega (arith, inside))
  rises (s ∷ slots) rising (suc i) (suc j) d before inside = rises slots rising.1 i j d (omega (arith, before)) (omega (arith, inside))

  pub rising_inserted : (below above : List (Slot V)) (s : Slot V) → AreRisingSlots (below ++ above) → AllByRecursion (λ t. t.number < s.number) below → AllByRecursion (λ t. s.number < t.number) above
      → AreRisingSlots (below ++ s ∷ above)
  rising_inserted [] above s rising before after = (after, rising)
  rising_inserted (t ∷ below) above s rising before after =
      (all_inserted (λ u. t.number < u.number) below above s rising.0 before.0, rising_inserted below above s rising.1 before.1 after)

  pub rising_replaced : (below above : List (Slot V)) (s t : Slot V) → t.number ≡ s.number → AreRisingSlots (below ++ s ∷ above) → AreRisingSlots (below ++ t ∷ above)
  rising_replaced [] above s t same rising = (subst (λ n. AllByRecursion (λ u. n < u.number) above) (sym same) rising.0, rising.1)
  rising_replaced (u ∷ below) above s t same rising =
      (all_replaced (λ v. u.number < v.number) below above s t rising.0 (λ less. omega (arith, less, same)), rising_replaced below above s t same rising.1)
