-- Tests of index keys as tables: for `add`, `renew` and `remove`.
use Rattle.std.proofs.Common.{◌≡◌, ◌⊎◌, inl, inr, Bool, true, false, cond, not, ◌&&◌, ◌||◌, List, [], ◌∷◌, Result, Ok, Err, OnOk, OnErr, refl, sym, ap, ◌∙◌}
use Rattle.std.proofs.lemmas.Bool.{false≢true}
use Rattle.std.specs.Ordering.{is_eq, ordering_reverse}
use Rattle.std.specs.declared.cmp.Ordering.{Ordering}
use Rattle.std.specs.declared.cmp.Ordering.TheVariants.{Less, Equal, Greater}
use Rattle.row_map.specs.IndexKey.{IndexKey, index_key_cmp, is_same, has}
use Rattle.row_map.specs.Order.{index_key_total}

turned : (o : Ordering) → is_eq (ordering_reverse o) ≡ is_eq o
turned Less = refl
turned Equal = refl
turned Greater = refl

pub same_both_ways : (p q : IndexKey) → is_same p q ≡ is_same q p
same_both_ways p q = ap is_eq (index_key_total.antisymm p q) ∙ turned (index_key_cmp q p)

pub cond-or : (b x : Bool) → cond b true x ≡ (b || x)
cond-or true x = refl
cond-or false x = refl

pub cond-and : (b x : Bool) → cond b false x ≡ (not b && x)
cond-and true x = refl
cond-and false x = refl

-- the same index keys are in a list or not
equal_from : (o : Ordering) → is_eq o ≡ true → o ≡ Equal
equal_from Less e = absurd (false≢true e)
equal_from Equal e = refl
equal_from Greater e = absurd (false≢true e)

same_has : (p q : IndexKey) → index_key_cmp p q ≡ Equal → (ks : List IndexKey) → has ks p ≡ has ks q
same_has p q same [] = refl
same_has p q same (x ∷ ks) = ap (λ o. is_eq o || has ks p) (index_key_total.congr p q x same) ∙ ap (λ b. is_same q x || b) (same_has p q same ks)

-- an index key that is there is not new
pub cond-there : (p q : IndexKey) (ks : List IndexKey) → has ks p ≡ true → cond (is_same p q) true (has ks q) ≡ has ks q
cond-there p q ks there = by (index_key_cmp p q) refl
  where
    by : (o : Ordering) → index_key_cmp p q ≡ o → cond (is_eq o) true (has ks q) ≡ has ks q
    by Less e = refl
    by Equal e = sym (sym (same_has p q e ks) ∙ there)
    by Greater e = refl

-- what holds of a result, unless an index key was absent
pub unless_absent : {A E P : Type 0} (r : Result A E) (b : Bool) → OnOk r P → OnErr r (b ≡ false) → b ≡ true → P
unless_absent (Ok x) b ok absent there = ok
unless_absent (Err e) b ok absent there = absurd (false≢true (sym absent ∙ there))

-- what holds after a result of either kind
pub by_result : {A E P Q : Type 0} (r : Result A E) → OnOk r P → OnErr r Q → Q ⊎ P
by_result (Ok x) ok err = inr ok
by_result (Err e) ok err = inl err
