-- Rows whose keys rise are determined by the row under each key.
use Rattle.std.proofs.Common.{◌≡◌, ℕ, Bool, true, false, List, [], ◌∷◌, Some, None, refl, sym, ap, ◌∙◌}
use Rattle.std.specs.Ordering.{is_eq}
use Rattle.std.specs.declared.cmp.Ordering.{Ordering}
use Rattle.std.specs.declared.cmp.Ordering.TheVariants.{Less, Equal, Greater}
use Rattle.row_map.specs.Database.{RowView, key_of, key_order, IsRising, is_under, row_under}
use Rattle.row_map.proofs.Order.{turned_greater, above_less}
use Rattle.row_map.proofs.Found.{none_under, others_above, under_itself}
use Rattle.row_map.proofs.Keys.{under_first, none_behind}

abbrev SameUnderAll : List RowView → List RowView → Type 0
SameUnderAll rows others = (k : List ℕ) → row_under k rows ≡ row_under k others

-- the first of the rows is under its own key
first_stands : (row : RowView) (rows : List RowView) → row_under (key_of row) (row ∷ rows) ≡ Some row
first_stands row rows = under_first (key_of row) row rows true (under_itself row)

-- rows whose keys rise have no row under a key below the first one
pub none_above : (low row : RowView) (rows : List RowView) → key_order low row ≡ Less → IsRising (row ∷ rows) → row_under (key_of low) (row ∷ rows) ≡ None
none_above low row rows below rising = none_under (key_of low) (row ∷ rows) (others_above low (row ∷ rows) (below, above_less low row rows below rising.0))

one_first : (o : Ordering) (x y : RowView) (xs ys : List RowView) → key_order x y ≡ o → IsRising (x ∷ xs) → IsRising (y ∷ ys) → SameUnderAll (x ∷ xs) (y ∷ ys) → Some x ≡ Some y
one_first Less x y xs ys e rising others same =
    let at_x = same (key_of x) in let here = first_stands x xs in let there = none_above x y ys e others in absurd (cc)
one_first Equal x y xs ys e rising others same =
    sym (first_stands x xs) ∙ same (key_of x) ∙ under_first (key_of x) y ys true (ap is_eq e)
one_first Greater x y xs ys e rising others same =
    let at_y = same (key_of y) in let here = first_stands y ys in let there = none_above y x xs (turned_greater x y e) rising in absurd (cc)

rest_by : (k : List ℕ) (b : Bool) (x y : RowView) (xs ys : List RowView) → is_under k x ≡ b → is_under k y ≡ b → IsRising (x ∷ xs) → IsRising (y ∷ ys) → row_under k (x ∷ xs) ≡ row_under k (y ∷ ys) → row_under k xs ≡ row_under k ys
rest_by k true x y xs ys e f rising others same = none_behind k x xs e rising.0 ∙ sym (none_behind k y ys f others.0)
rest_by k false x y xs ys e f rising others same = sym (under_first k x xs false e) ∙ same ∙ under_first k y ys false f

rest_same : (x y : RowView) (xs ys : List RowView) → x ≡ y → IsRising (x ∷ xs) → IsRising (y ∷ ys) → SameUnderAll (x ∷ xs) (y ∷ ys) → SameUnderAll xs ys
rest_same x y xs ys one rising others same k = rest_by k (is_under k x) x y xs ys refl (ap (is_under k) (sym one)) rising others (same k)

pub database_is_canonical : (rows others : List RowView) → IsRising rows → IsRising others → SameUnderAll rows others → rows ≡ others
database_is_canonical [] [] rising others same = refl
database_is_canonical [] (y ∷ ys) rising others same = let at_y = same (key_of y) in let here = first_stands y ys in absurd (cc)
database_is_canonical (x ∷ xs) [] rising others same = let at_x = same (key_of x) in let here = first_stands x xs in absurd (cc)
database_is_canonical (x ∷ xs) (y ∷ ys) rising others same =
    let found = one_first (key_order x y) x y xs ys refl rising others same in
    let one : x ≡ y = cc in
    let rest = database_is_canonical xs ys rising.1 others.1 (rest_same x y xs ys one rising others same) in
    cc
