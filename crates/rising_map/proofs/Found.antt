-- Where a number is among slots that rise: for `find`.
use Rattle.std.proofs.Common.{◌≡◌, ℕ, zero, suc, ◌-◌, ◌<◌, ◌≤◌, List, [], ◌∷◌, length, get_or, sym, ap, subst, arith, Result, Ok, Err}
use Rattle.std.specs.declared.cmp.Ordering.{Ordering}
use Rattle.std.specs.declared.cmp.Ordering.TheVariants.{Less, Equal, Greater}
use Rattle.std.specs.Ordering.{nat_cmp, ordering_index, MatchOrdering}
use Rattle.std.specs.Cmp.{ranks, ranked}
use Rattle.std.specs.List.Sorted.{IsNonDecreasingBy, IsBinarySearchResult, IsSearchInRange, IsPartitionPoint}
use Rattle.std.proofs.lemmas.List.{get_or_read}
use Rattle.std.proofs.lemmas.Map.Lookups.{exact_unsigned}
use Rattle.rising_map.specs.declared.slots.Slot.{Slot}
use Rattle.rising_map.specs.Slots.{AreRisingSlots, IsFoundSlot}
use Rattle.rising_map.proofs.Rising.{all_at}

index_by : (o p : Ordering) (a b n : ℕ) → MatchOrdering o (a < n) (a ≡ n) (n < a) → MatchOrdering p (b < n) (b ≡ n) (n < b) → a ≤ b → ordering_index o ≤ ordering_index p
index_by Less p a b n one other order = omega arith
index_by Equal Less a b n one other order = absurd (omega (arith, one, other, order))
index_by Equal Equal a b n one other order = omega arith
index_by Equal Greater a b n one other order = omega arith
index_by Greater Less a b n one other order = absurd (omega (arith, one, other, order))
index_by Greater Equal a b n one other order = absurd (omega (arith, one, other, order))
index_by Greater Greater a b n one other order = omega arith

module _ {V : Type 0} where
  never_falls : (slots : List (Slot V)) → AreRisingSlots slots → (i j : ℕ) (d : Slot V) → i ≤ j → j < length slots → (get_or slots i d).number ≤ (get_or slots j d).number
  never_falls [] rising i j d order inside = absurd (omega (arith, inside))
  never_falls (s ∷ slots) rising zero zero d order inside = omega arith
  never_falls (s ∷ slots) rising zero (suc j) d order inside = let less = all_at (λ t. s.number < t.number) slots rising.0 j d (omega (arith, inside)) in omega (arith, less)
  never_falls (s ∷ slots) rising (suc i) zero d order inside = absurd (omega (arith, order))
  never_falls (s ∷ slots) rising (suc i) (suc j) d order inside = never_falls slots rising.1 i j d (omega (arith, order)) (omega (arith, inside))

  module _ (slots : List (Slot V)) (rising : AreRisingSlots slots) (number : ℕ) where
    -- all are below a number that is above the last one
    pub all_below : (x : Slot V) → 0 < length slots → x ≡ get_or slots (length slots - 1) x → x.number < number → (k : ℕ) (d : Slot V) → k < length slots → (get_or slots k d).number < number
    all_below x some is less k d inside =
        let last : x ≡ get_or slots (length slots - 1) d = get_or_read slots (length slots - 1) x (omega arith) is d in
        let up : (get_or slots k d).number ≤ (get_or slots (length slots - 1) d).number = never_falls slots rising k (length slots - 1) d (omega arith) (omega arith) in
        omega (arith, up, ap (λ (s : Slot V). s.number) last, less)

    index_rises : IsNonDecreasingBy (λ (s : Slot V). ordering_index (nat_cmp s.number number)) slots
    index_rises i j d order inside =
        index_by (nat_cmp (get_or slots i d).number number) (nat_cmp (get_or slots j d).number number) (get_or slots i d).number (get_or slots j d).number number
        (ranks (get_or slots i d).number number) (ranks (get_or slots j d).number number) (never_falls slots rising i j d order inside)

    -- what a search by halving finds
    pub found_so : (r : Result ℕ ℕ) → IsSearchInRange r (length slots) → IsBinarySearchResult (λ (s : Slot V). nat_cmp s.number number) slots r → IsFoundSlot slots number r
    found_so (Ok at) inside is = (inside, λ d. exact_unsigned (get_or slots at d).number number (is d))
    found_so (Err at) inside is =
        let parts = is index_rises in (
          inside,
          (
            λ k d low high. ranked (get_or slots k d).number number Less (sym (parts.0 k d low high)),
            λ k d low high. ranked (get_or slots k d).number number Greater (sym (parts.1 k d low high)),
          ),
        )

  -- a place among the slots that a call was passed
  pub found_at : (passed slots : List (Slot V)) (number at : ℕ) (r : Result ℕ ℕ) → passed ≡ slots → IsFoundSlot passed number r → r ≡ Ok at → (at < length slots) × ((d : Slot V) → (get_or slots at d).number ≡ number)
  found_at passed slots number at r same found is =
      subst (λ (q : Result ℕ ℕ). IsFoundSlot slots number q) is (subst (λ (l : List (Slot V)). IsFoundSlot l number r) same found)

  pub found_gap : (passed slots : List (Slot V)) (number at : ℕ) (r : Result ℕ ℕ) → passed ≡ slots → IsFoundSlot passed number r → r ≡ Err at
      → (at ≤ length slots) × IsPartitionPoint (λ (s : Slot V). s.number < number) (λ (s : Slot V). number < s.number) slots at
  found_gap passed slots number at r same found is =
      subst (λ (q : Result ℕ ℕ). IsFoundSlot slots number q) is (subst (λ (l : List (Slot V)). IsFoundSlot l number r) same found)
