-- Sorted ISD-ASes and the set of them: for `Roster::new` and `Roster::contains`.
use Rattle.std.proofs.Common.{◌≡◌, ℕ, ◌≤◌, Bool, true, false, ◌||◌, List, [], ◌∷◌, length, map, get_or, Result, Ok, Err, inl, inr, refl, sym, ap, ◌∙◌, arith}
use Rattle.std.specs.List.{list_any}
use Rattle.std.specs.List.Sorted.{IsPermutation, IsNonDecreasingBy, IsSearchInRange, IsBinarySearchResult, IsPartitionPoint}
use Rattle.std.specs.Ordering.{nat_cmp, is_eq, ordering_index, ordering_reverse}
use Rattle.std.specs.Result.{is_ok}
use Rattle.std.specs.declared.cmp.Ordering.{Ordering}
use Rattle.std.specs.declared.cmp.Ordering.TheVariants.{Less, Equal, Greater}
use Rattle.std.specs.FinSet as set
use Rattle.std.specs.FinSet.{nat_cmp-IsAntisymmetric, contains-from_list, same_set}
use Rattle.std.proofs.lemmas.Cmp.{nat_cmp_total, eq_by_cmp_equiv}
use Rattle.std.proofs.lemmas.Map.Views.{Contains-from_any, list_any-from_Contains}
use Rattle.std.proofs.lemmas.Bool.{cases_lt}
use Rattle.std.proofs.lemmas.Bool.Decides.{nat_tests}
use Rattle.std.proofs.lemmas.List.Folds.{list_any_at, list_any_none}
use Rattle.std.proofs.lemmas.List.Sorted.{list_any-IsPermutation}
use Rattle.isd_as.specs.declared.number.IsdAs.{IsdAs}
use Rattle.isd_as.specs.IsdAs.{isd_as_number}
use Rattle.seg_lookup.specs.Roster.{roster_of}
use Rattle.seg_lookup.specs.ClassificationLaws.{RostersHaveTheirCores}

list_any-map : {X Y : Type 0} (p : Y → Bool) (f : X → Y) (xs : List X) → list_any p (map f xs) ≡ list_any (λ x. p (f x)) xs
list_any-map p f [] = refl
list_any-map p f (x ∷ xs) = ap (λ b. p (f x) || b) (list_any-map p f xs)

-- whether one of them has the number
abbrev is_among : ℕ → List IsdAs → Bool
is_among n cores = list_any (λ core. is_eq (nat_cmp n (isd_as_number core))) cores

contains-roster_of : (cores : List IsdAs) (n : ℕ) → set.contains (roster_of cores) n ≡ is_among n cores
contains-roster_of cores n = contains-from_list nat_cmp_total (map isd_as_number cores) n ∙ list_any-map (λ k. is_eq (nat_cmp n k)) isd_as_number cores

-- a list and its permutation are the same set
pub same_roster : (cores sorted : List IsdAs) → IsPermutation cores sorted → roster_of sorted ≡ roster_of cores
same_roster cores sorted moved =
    same_set nat_cmp_total nat_cmp-IsAntisymmetric (roster_of sorted) (roster_of cores) (λ n.
    contains-roster_of sorted n
    ∙ sym (list_any-IsPermutation (λ core. is_eq (nat_cmp n (isd_as_number core))) cores sorted moved)
    ∙ sym (contains-roster_of cores n))

comparison_rises : (a b n : ℕ) → a ≤ b → ordering_index (nat_cmp a n) ≤ ordering_index (nat_cmp b n)
comparison_rises a b n le = grind (arith, nat_tests)

-- a comparison with its sides exchanged is equal exactly when the comparison is
turned : (a n : ℕ) (o : Ordering) → nat_cmp a n ≡ o → is_eq (nat_cmp n a) ≡ is_eq (ordering_reverse o)
turned a n o e = ap is_eq (nat_cmp_total.antisymm n a ∙ ap ordering_reverse e)

-- numbers that are all below or above are not among them
none_among : (cores : List IsdAs) (n i : ℕ) → IsPartitionPoint (λ core. nat_cmp (isd_as_number core) n ≡ Less) (λ core. nat_cmp (isd_as_number core) n ≡ Greater) cores i → is_among n cores ≡ false
none_among cores n i parted =
    list_any_none (λ core. is_eq (nat_cmp n (isd_as_number core))) cores (λ k d lt.
    elim (cases_lt k i) [
      | inl before ↦ turned (isd_as_number (get_or cores k d)) n Less (parted.0 k d (omega arith) before)
      | inr behind ↦ turned (isd_as_number (get_or cores k d)) n Greater (parted.1 k d behind lt)
    ])

-- a binary search by number among numbers that do not fall finds a number exactly when it is among
-- them
search_tells : (cores : List IsdAs) (n : ℕ) (r : Result ℕ ℕ) → IsNonDecreasingBy isd_as_number cores → IsSearchInRange r (length cores) → IsBinarySearchResult (λ core. nat_cmp (isd_as_number core) n) cores r → is_ok r ≡ is_among n cores
search_tells [] n (Ok at) rising in_range equal = absurd (omega arith)
search_tells (core ∷ cores) n (Ok at) rising in_range equal =
    sym (list_any_at (λ core. is_eq (nat_cmp n (isd_as_number core))) (core ∷ cores) at core in_range (turned (isd_as_number (get_or (core ∷ cores) at core)) n Equal (equal core)))
search_tells cores n (Err at) rising in_range parted =
    sym (none_among cores n at (parted (λ i j d le lt. comparison_rises (isd_as_number (get_or cores i d)) (isd_as_number (get_or cores j d)) n (rising i j d le lt))))

pub found_in_roster : (cores : List IsdAs) (n : ℕ) (r : Result ℕ ℕ) → IsNonDecreasingBy isd_as_number cores → IsSearchInRange r (length cores) → IsBinarySearchResult (λ core. nat_cmp (isd_as_number core) n) cores r → is_ok r ≡ set.contains (roster_of cores) n
found_in_roster cores n r rising in_range found = search_tells cores n r rising in_range found ∙ sym (contains-roster_of cores n)

pub rosters_have_their_cores : RostersHaveTheirCores
rosters_have_their_cores cores number =
    let numbers = map isd_as_number cores in
    let same = contains-from_list nat_cmp_total numbers number in (
      (λ has. Contains-from_any exact number numbers (sym same ∙ has)),
      (λ there. same ∙ list_any-from_Contains (eq_by_cmp_equiv nat_cmp_total) number numbers there),
    )
  where
    exact : (a b : ℕ) → is_eq (nat_cmp a b) ≡ true → a ≡ b
    exact a b e = grind (arith, nat_tests)
