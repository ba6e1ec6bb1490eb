-- A put by the row under its key: for `row_puts`.
use Rattle.std.proofs.Common.{◌≡◌, ℕ, Bool, true, false, not, ◌||◌, List, [], ◌∷◌, ◌++◌, length, arith, if◌then◌else◌, Option, Some, None, IsSome, Result, Ok, Err, refl, sym, ap, ◌∙◌, subst}
use Rattle.std.specs.Prelude.{IfOk, OnErr}
use Rattle.std.specs.List.{AllByRecursion}
use Rattle.std.proofs.lemmas.Cmp.{nat_list_cmp_total, tied_itself}
use Rattle.std.proofs.lemmas.List.Folds.{list_any-append}
use Rattle.std.specs.Ordering.{nat_cmp, is_eq}
use Rattle.std.specs.Cmp.Lexicographic.{slice_cmp}
use Rattle.std.specs.declared.cmp.Ordering.{Ordering}
use Rattle.std.specs.declared.cmp.Ordering.TheVariants.{Less, Equal, Greater}
use Rattle.std.proofs.lemmas.Bool.{false≢true}
use Rattle.std.proofs.lemmas.Map.Lookups.{exact_bytes}
use Rattle.row_map.specs.declared.row.Row.{Row}
use Rattle.row_map.specs.declared.change.Change.{Change}
use Rattle.row_map.specs.declared.change.Change.TheVariants.{Inserted, Updated, Kept}
use Rattle.row_map.specs.Database.{RowView, key_of, key_order, IsRising, is_under, row_under}
use Rattle.row_map.specs.Put.{is_newer, database_after_put, change_before, change_of}
use Rattle.row_map.specs.Drops.{database_after_removal}
use Rattle.row_map.specs.Left.{winner, kept_if}
use Rattle.row_map.specs.RowMap.{HasRowPut}
use Rattle.row_map.specs.Saved.{wins, is_key, Stood, is_saved, IsLeft, PutsBack}
use Rattle.row_map.proofs.Rising.{rising_put}
use Rattle.row_map.proofs.Found.{turned}
use Rattle.row_map.proofs.Keys.{its_key, equal_from, put_leaves, test_leaves, under_first}
use Rattle.row_map.proofs.Canon.{database_is_canonical, none_above}

-- ---- a put

kept_winner : (row : RowView) (found : Option RowView) → wins row found ≡ false → found ≡ Some (winner row found)
kept_winner row None e = absurd (false≢true (sym e))
kept_winner row (Some old) e = ap (λ b. Some (if b then row else old)) (sym e)

new_winner : (row : RowView) (found : Option RowView) → wins row found ≡ true → Some row ≡ Some (winner row found)
new_winner row None e = refl
new_winner row (Some old) e = ap (λ b. Some (if b then row else old)) (sym e)

-- the row under a key that is a row's key is the row under the row's own key
at_its_key : (k : List ℕ) (row : RowView) (rows : List RowView) (P : Option RowView → Type 0) → is_under k row ≡ true → P (row_under (key_of row) rows) → P (row_under k rows)
at_its_key k row rows P under so = subst (λ l. P (row_under l rows)) (sym (its_key k row under)) so

kept_under : (k : List ℕ) (row : RowView) (rows : List RowView) (b : Bool) → is_under k row ≡ b → wins row (row_under (key_of row) rows) ≡ false → row_under k rows ≡ (if b then Some (winner row (row_under k rows)) else row_under k rows)
kept_under k row rows true under e = kept_winner row (row_under k rows) (at_its_key k row rows (λ found. wins row found ≡ false) under e)
kept_under k row rows false under e = refl

new_under : (k : List ℕ) (row : RowView) (rows : List RowView) (b : Bool) → is_under k row ≡ b → wins row (row_under (key_of row) rows) ≡ true → (if b then Some row else row_under k rows) ≡ (if b then Some (winner row (row_under k rows)) else row_under k rows)
new_under k row rows true under e = new_winner row (row_under k rows) (at_its_key k row rows (λ found. wins row found ≡ true) under e)
new_under k row rows false under e = refl

pub kept_rows : (rows : List RowView) (row : RowView) → IsRising rows → wins row (row_under (key_of row) rows) ≡ false → rows ≡ database_after_put rows row
kept_rows rows row rising e =
    database_is_canonical rows (database_after_put rows row) rising (rising_put rows row rising)
    (λ k. kept_under k row rows (is_under k row) refl e ∙ sym (put_leaves k rows row rising))

pub new_rows : (rows new : List RowView) (row : RowView) → IsRising rows → IsRising new → wins row (row_under (key_of row) rows) ≡ true → HasRowPut rows row new → new ≡ database_after_put rows row
new_rows rows new row rising after e holds =
    database_is_canonical new (database_after_put rows row) after (rising_put rows row rising)
    (λ k. holds k ∙ new_under k row rows (is_under k row) refl e ∙ sym (put_leaves k rows row rising))

-- ---- what it does

abbrev change_found : RowView → Option RowView → Change
change_found row None = Inserted
change_found row (Some old) = if is_newer row old then Updated else Kept

change_first : (o : Ordering) (row old : RowView) (others : List RowView) → key_order row old ≡ o → IsRising (old ∷ others) → change_of others row ≡ change_found row (row_under (key_of row) others)
    → change_before o row old (change_of others row) ≡ change_found row (row_under (key_of row) (old ∷ others))
change_first Less row old others e rising later = ap (change_found row) (sym (none_above row old others e rising))
change_first Equal row old others e rising later = ap (change_found row) (sym (under_first (key_of row) old others true (ap is_eq e)))
change_first Greater row old others e rising later = later ∙ ap (change_found row) (sym (under_first (key_of row) old others false (ap is_eq e)))

change_is : (rows : List RowView) (row : RowView) → IsRising rows → change_of rows row ≡ change_found row (row_under (key_of row) rows)
unfolding change_of
change_is [] row rising = refl
change_is (old ∷ others) row rising = change_first (key_order row old) row old others refl rising (change_is others row rising.1)

told_kept : (row : RowView) (found : Option RowView) → wins row found ≡ false → Kept ≡ change_found row found
told_kept row None e = absurd (false≢true (sym e))
told_kept row (Some old) e = ap (λ b. if b then Updated else Kept) (sym e)

told_updated : (row : RowView) (found : Option RowView) → wins row found ≡ true → IsSome found → Updated ≡ change_found row found
told_updated row None e some = absurd (false≢true some)
told_updated row (Some old) e some = ap (λ b. if b then Updated else Kept) (sym e)

pub kept_change : (rows : List RowView) (row : RowView) → IsRising rows → wins row (row_under (key_of row) rows) ≡ false → Kept ≡ change_of rows row
kept_change rows row rising e = told_kept row (row_under (key_of row) rows) e ∙ sym (change_is rows row rising)

pub updated_change : (rows : List RowView) (row old : RowView) → IsRising rows → wins row (row_under (key_of row) rows) ≡ true → Some old ≡ row_under (key_of row) rows → Updated ≡ change_of rows row
updated_change rows row old rising e found = told_updated row (row_under (key_of row) rows) e (subst IsSome found refl) ∙ sym (change_is rows row rising)

pub inserted_change : (rows : List RowView) (row : RowView) → IsRising rows → None ≡ row_under (key_of row) rows → Inserted ≡ change_of rows row
inserted_change rows row rising found = ap (change_found row) found ∙ sym (change_is rows row rising)

-- ---- what is put back

-- a row that is found under a key has that key
first_found : (k : List ℕ) (row r : RowView) (later : Option RowView) (b : Bool) → is_under k row ≡ b → (if b then Some row else later) ≡ Some r → (later ≡ Some r → is_under k r ≡ true) → is_under k r ≡ true
first_found k row r later true under e more = let one : row ≡ r = cc in subst (λ x. is_under k x ≡ true) one under
first_found k row r later false under e more = more e

pub found_is_under : (k : List ℕ) (rows : List RowView) (r : RowView) → row_under k rows ≡ Some r → is_under k r ≡ true
found_is_under k [] r e = absurd (cc)
found_is_under k (row ∷ rows) r e = first_found k row r (row_under k rows) (is_under k row) refl e (found_is_under k rows r)

left_none : (k l : List ℕ) (found : Option RowView) (b : Bool) → is_key k l ≡ b → ((r : RowView) → found ≡ Some r → is_under k r ≡ true) → kept_if (λ row. not (is_under l row)) found ≡ (if b then None else found)
left_none k l None true e so = refl
left_none k l None false e so = refl
left_none k l (Some r) true e so =
    let same = equal_from (slice_cmp nat_cmp k l) e in
    ap (λ b. if not b then Some r else None) (subst (λ m. is_under m r ≡ true) (exact_bytes k l same) (so r refl))
left_none k l (Some r) false e so =
    let its = its_key k r (so r refl) in
    ap (λ b. if not b then Some r else None) (subst (λ m. is_eq (slice_cmp nat_cmp l m) ≡ false) its (turned k l (slice_cmp nat_cmp k l) refl e))

pub removal_leaves : (k l : List ℕ) (rows : List RowView) → IsRising rows → row_under k (database_after_removal rows l) ≡ (if is_key k l then None else row_under k rows)
removal_leaves k l rows rising = test_leaves k (λ row. not (is_under l row)) rows rising ∙ left_none k l (row_under k rows) (is_key k l) refl (found_is_under k rows)

pub set_holds : {E : Type 0} (r : Result (Option Row) E) (old new : List RowView) (row : RowView) → IfOk r (λ _. HasRowPut old row new) → OnErr r (row_under (key_of row) old ≡ None) → IsSome (row_under (key_of row) old) → HasRowPut old row new
set_holds (Ok before) old new row holds absent some = holds
set_holds (Err e) old new row holds absent some = absurd (false≢true (subst IsSome absent some))

pub back_leaves : (l : List ℕ) (orig old new : List RowView) (row : RowView) → Some row ≡ row_under l orig → IsSome (row_under l old) → (IsSome (row_under (key_of row) old) → HasRowPut old row new)
    → (k : List ℕ) → row_under k new ≡ (if is_key k l then Some row else row_under k old)
back_leaves l orig old new row e there holds k =
    let its = its_key l row (found_is_under l orig row (sym e)) in
    holds (subst (λ m. IsSome (row_under m old)) its there) k ∙ ap (λ m. if is_key k m then Some row else row_under k old) (sym its)

-- ---- what is left to put back

pub is_key_itself : (k : List ℕ) → is_key k k ≡ true
is_key_itself k = ap is_eq (tied_itself nat_list_cmp_total k)

abbrev AreStood : List RowView → List Stood → Type 0
AreStood orig saved = AllByRecursion (λ stood. stood.1 ≡ row_under stood.0 orig) saved

stood_first : (orig : List RowView) (saved : List Stood) (s : Stood) → AreStood orig (saved ++ s ∷ []) → AreStood orig saved × (s.1 ≡ row_under s.0 orig)
stood_first orig [] s all = (tt, all.0)
stood_first orig (x ∷ saved) s all = ((all.0, (stood_first orig saved s all.1).0), (stood_first orig saved s all.1).1)

-- what is left to put back after the last was put back
module _ (orig now after : List RowView) (saved : List Stood) (s : Stood) (left : IsLeft orig (saved ++ s ∷ []) now) (back : PutsBack s now after) where
  its : s.1 ≡ row_under s.0 orig
  its = (stood_first orig saved s left.stood).1

  leaves : (k : List ℕ) → row_under k after ≡ (if is_key k s.0 then s.1 else row_under k now)
  leaves = back orig its (λ some. left.there s.0 (subst IsSome its some))

  other_under : (k : List ℕ) (b : Bool) → is_key k s.0 ≡ b → is_saved saved k ≡ false → (if b then s.1 else row_under k now) ≡ row_under k orig
  other_under k true e none = its ∙ ap (λ l. row_under l orig) (sym (exact_bytes k s.0 (equal_from (slice_cmp nat_cmp k s.0) e)))
  other_under k false e none =
      left.others k (list_any-append (λ stood. is_key k stood.0) saved (s ∷ []) ∙ ap (λ b. b || (is_key k s.0 || false)) none ∙ ap (λ b. b || false) e)

  there_under : (k : List ℕ) (b : Bool) → is_key k s.0 ≡ b → IsSome (row_under k orig) → IsSome (if b then s.1 else row_under k now)
  there_under k true e some = subst IsSome (sym (its ∙ ap (λ l. row_under l orig) (sym (exact_bytes k s.0 (equal_from (slice_cmp nat_cmp k s.0) e))))) some
  there_under k false e some = left.there k some

  pub left_less : IsLeft orig saved after
  left_less = record {
    stood = (stood_first orig saved s left.stood).0;
    others = λ k none. leaves k ∙ other_under k (is_key k s.0) refl none;
    there = λ k some. subst IsSome (sym (leaves k)) (there_under k (is_key k s.0) refl some);
  }

pub nothing_left : (orig now : List RowView) → IsRising orig → IsRising now → IsLeft orig [] now → now ≡ orig
nothing_left orig now rising after left = database_is_canonical now orig after rising (λ k. left.others k refl)

pub no_items : {X : Type 0} (xs : List X) → length xs ≡ 0 → xs ≡ []
no_items [] e = refl
no_items (x ∷ xs) e = absurd (omega (arith, e))
