-- What is known of the rows of a set after a row is added, replaced or removed: for `add`, `renew`
-- and `remove`.
use Rattle.std.proofs.Common.{◌≡◌, ◌⊎◌, inl, inr, Bool, true, false, not, cond, ◌&&◌, ◌||◌, List, [], ◌∷◌, Option, refl, sym, ap, ◌∙◌}
use Rattle.std.specs.List.{AllByRecursion}
use Rattle.std.specs.List.Sorted.{IsStrictlySortedBy}
use Rattle.std.specs.Ordering.{is_eq, ordering_reverse, match_ordering}
use Rattle.std.specs.Set.{remove_key}
use Rattle.std.specs.BTreeSet.{insert_key, replace_key}
use Rattle.std.specs.declared.cmp.Ordering.{Ordering}
use Rattle.std.specs.declared.cmp.Ordering.TheVariants.{Less, Equal, Greater}
use Rattle.std.proofs.lemmas.Bool.{false≢true}
use Rattle.seg_core.specs.declared.seg_type.SegType.{SegType}
use Rattle.seg_core.specs.SegmentView.{SegmentView}
use Rattle.row_map.specs.IndexKey.{IndexKey, AreKnown, index_key_cmp, is_same, has}
use Rattle.row_map.specs.Order.{index_key_total}

-- ---- the order of two index keys, turned round

turned_less : (p q : IndexKey) → index_key_cmp p q ≡ Less → is_same q p ≡ false
turned_less p q less = ap is_eq (index_key_total.antisymm q p ∙ ap ordering_reverse less)

turned_greater : (p q : IndexKey) → index_key_cmp p q ≡ Greater → is_same q p ≡ false
turned_greater p q greater = ap is_eq (index_key_total.antisymm q p ∙ ap ordering_reverse greater)

true_and : (a b : Bool) → a ≡ true → b ≡ false → (a && not b) ≡ true
true_and true b e f = ap not f
true_and false b e f = absurd (false≢true e)

module _ (known : IndexKey → Bool) (row : IndexKey → Option (SegType × SegmentView)) (k : IndexKey) where
  -- what is known of an index key, but for those at k
  abbrev but_it : IndexKey → Bool
  but_it q = known q && not (is_same q k)

  other_known : (q : IndexKey) → is_same q k ≡ false → (known q ≡ true) ⊎ (q.row ≡ row q) → (but_it q ≡ true) ⊎ (q.row ≡ row q)
  other_known q other (inl e) = inl (true_and (known q) (is_same q k) e other)
  other_known q other (inr e) = inr e

  -- ---- a row that is added

  insert_by : (o : Ordering) (x : IndexKey) (xs later : List IndexKey) → (known k ≡ true) ⊎ (k.row ≡ row k) → AreKnown known row (x ∷ xs) → AreKnown known row later → AreKnown known row (match_ordering o (k ∷ x ∷ xs) (x ∷ xs) (x ∷ later))
  insert_by Less x xs later one all more = (one, all)
  insert_by Equal x xs later one all more = all
  insert_by Greater x xs later one all more = (all.0, more)

  pub insert_known : (ks : List IndexKey) → (known k ≡ true) ⊎ (k.row ≡ row k) → AreKnown known row ks → AreKnown known row (insert_key index_key_cmp ks k)
  insert_known [] one all = (one, tt)
  insert_known (x ∷ xs) one all = insert_by (index_key_cmp k x) x xs (insert_key index_key_cmp xs k) one all (insert_known xs one all.1)

  -- ---- those after the place of k

  -- all of these index keys are above k
  abbrev AreAbove : List IndexKey → Type 0
  AreAbove xs = AllByRecursion (λ y. index_key_cmp k y ≡ Less) xs

  all_others : (xs : List IndexKey) → AreAbove xs → AreKnown known row xs → AreKnown but_it row xs
  all_others [] above all = tt
  all_others (y ∷ xs) above all = (other_known y (turned_less k y above.0) all.0, all_others xs above.1 all.1)

  none_above : (xs : List IndexKey) → AreAbove xs → has xs k ≡ false
  none_above [] above = refl
  none_above (y ∷ xs) above = ap (λ o. is_eq o || has xs k) above.0 ∙ none_above xs above.1

  above_equal : (x : IndexKey) → index_key_cmp k x ≡ Equal → (xs : List IndexKey) → AllByRecursion (λ y. index_key_cmp x y ≡ Less) xs → AreAbove xs
  above_equal x same [] above = tt
  above_equal x same (y ∷ xs) above = (index_key_total.congr k x y same ∙ above.0, above_equal x same xs above.1)

  above_less : (x : IndexKey) → index_key_cmp k x ≡ Less → (xs : List IndexKey) → AllByRecursion (λ y. index_key_cmp x y ≡ Less) xs → AreAbove xs
  above_less x less [] above = tt
  above_less x less (y ∷ xs) above = (index_key_total.trans k x y less above.0, above_less x less xs above.1)

  -- ---- a row that is replaced

  replace_by : (o : Ordering) (x : IndexKey) (xs later : List IndexKey) → index_key_cmp k x ≡ o → k.row ≡ row k → AllByRecursion (λ y. index_key_cmp x y ≡ Less) xs → has (x ∷ xs) k ≡ true → AreKnown known row (x ∷ xs)
      → (has xs k ≡ true → AreKnown but_it row later) → AreKnown but_it row (match_ordering o (k ∷ x ∷ xs) (k ∷ xs) (x ∷ later))
  replace_by Less x xs later e its above there all more = absurd (false≢true (sym (ap (λ o. is_eq o || has xs k) e ∙ none_above xs (above_less x e xs above)) ∙ there))
  replace_by Equal x xs later e its above there all more = (inr its, all_others xs (above_equal x e xs above) all.1)
  replace_by Greater x xs later e its above there all more = (other_known x (turned_greater k x e) all.0, more (sym (ap (λ o. is_eq o || has xs k) e) ∙ there))

  pub replace_known : k.row ≡ row k → (ks : List IndexKey) → IsStrictlySortedBy index_key_cmp ks → has ks k ≡ true → AreKnown known row ks → AreKnown but_it row (replace_key index_key_cmp ks k)
  unfolding IsStrictlySortedBy
  replace_known its [] sorted there all = absurd (false≢true there)
  replace_known its (x ∷ xs) sorted there all =
      replace_by (index_key_cmp k x) x xs (replace_key index_key_cmp xs k) refl its sorted.0 there all (λ later. replace_known its xs sorted.1 later all.1)

  renew_by : (o : Ordering) (x : IndexKey) (xs later : List IndexKey) → (known k ≡ true) ⊎ (k.row ≡ row k) → AreKnown known row (x ∷ xs) → AreKnown known row later → AreKnown known row (match_ordering o (k ∷ x ∷ xs) (k ∷ xs) (x ∷ later))
  renew_by Less x xs later one all more = (one, all)
  renew_by Equal x xs later one all more = (one, all.1)
  renew_by Greater x xs later one all more = (all.0, more)

  pub renew_known : (ks : List IndexKey) → (known k ≡ true) ⊎ (k.row ≡ row k) → AreKnown known row ks → AreKnown known row (replace_key index_key_cmp ks k)
  renew_known [] one all = (one, tt)
  renew_known (x ∷ xs) one all = renew_by (index_key_cmp k x) x xs (replace_key index_key_cmp xs k) one all (renew_known xs one all.1)

  -- ---- a row that is removed

  remove_by : (o : Ordering) (x : IndexKey) (xs later : List IndexKey) → index_key_cmp k x ≡ o → AllByRecursion (λ y. index_key_cmp x y ≡ Less) xs → AreKnown known row (x ∷ xs) → AreKnown but_it row later
      → AreKnown but_it row (cond (is_eq o) xs (x ∷ later))
  remove_by Less x xs later e above all more = (other_known x (turned_less k x e) all.0, more)
  remove_by Equal x xs later e above all more = all_others xs (above_equal x e xs above) all.1
  remove_by Greater x xs later e above all more = (other_known x (turned_greater k x e) all.0, more)

  pub remove_known : (ks : List IndexKey) → IsStrictlySortedBy index_key_cmp ks → AreKnown known row ks → AreKnown but_it row (remove_key (is_same k) ks)
  unfolding IsStrictlySortedBy
  remove_known [] sorted all = tt
  remove_known (x ∷ xs) sorted all = remove_by (index_key_cmp k x) x xs (remove_key (is_same k) xs) refl sorted.0 all (remove_known xs sorted.1 all.1)
