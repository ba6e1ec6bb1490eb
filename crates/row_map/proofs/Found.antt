-- The row under a key that a search found or did not find, and the rows after a removal: for `get`
-- and `remove`.
use Rattle.std.proofs.Common.{◌≡◌, ℕ, zero, suc, ◌<◌, true, false, not, cond, List, [], ◌∷◌, length, get_or, Some, None, if◌then◌else◌, refl, sym, ap, ◌∙◌, subst, arith}
use Rattle.std.specs.List.{AllByRecursion, remove}
use Rattle.std.specs.Ordering.{nat_cmp, is_eq, ordering_reverse}
use Rattle.std.specs.Cmp.Lexicographic.{slice_cmp}
use Rattle.std.specs.declared.cmp.Ordering.{Ordering}
use Rattle.std.specs.declared.cmp.Ordering.TheVariants.{Less, Equal, Greater}
use Rattle.std.proofs.lemmas.Cmp.{nat_list_cmp_total, tied_itself}
use Rattle.std.proofs.lemmas.List.{get_or-map, length-map, map-append, take-map, drop-map}
use Rattle.std.proofs.lemmas.List.Elements.{All-from_recursion}
use Rattle.std.proofs.lemmas.Map.Lookups.{exact_bytes}
use Rattle.std.proofs.lemmas.Bool.{false≢true}
use Rattle.row_map.specs.declared.row.Row.{Row}
use Rattle.row_map.specs.Database.{RowView, key_of, IsRising, is_under, row_under}
use Rattle.row_map.specs.Drops.{database_after_removal}
use Rattle.row_map.specs.Row.{row_view, row_views, IsIndexOfKey, IsGap}
use Rattle.row_map.proofs.Order.{AllAbove, turned_less}

-- ---- rows of other keys

abbrev pub AreOthers : List ℕ → List RowView → Type 0
AreOthers k rows = AllByRecursion (λ row. is_under k row ≡ false) rows

pub none_under : (k : List ℕ) (rows : List RowView) → AreOthers k rows → row_under k rows ≡ None
none_under k [] others = refl
none_under k (row ∷ rows) others = ap (λ b. if b then Some row else row_under k rows) others.0 ∙ none_under k rows others.1

pub none_removed : (k : List ℕ) (rows : List RowView) → AreOthers k rows → database_after_removal rows k ≡ rows
none_removed k [] others = refl
none_removed k (row ∷ rows) others =
    ap (λ b. cond (not b) (row ∷ database_after_removal rows k) (database_after_removal rows k)) others.0
    ∙ ap (λ l. row ∷ l) (none_removed k rows others.1)

-- rows above this row have other keys
pub others_above : (row : RowView) (rows : List RowView) → AllAbove row rows → AreOthers (key_of row) rows
others_above row [] above = tt
others_above row (r ∷ rows) above = (ap is_eq above.0, others_above row rows above.1)

pub turned : (a b : List ℕ) (o : Ordering) → slice_cmp nat_cmp a b ≡ o → is_eq o ≡ false → is_eq (slice_cmp nat_cmp b a) ≡ false
turned a b Less e other = ap is_eq (nat_list_cmp_total.antisymm b a ∙ ap ordering_reverse e)
turned a b Equal e other = absurd (false≢true (sym other))
turned a b Greater e other = ap is_eq (nat_list_cmp_total.antisymm b a ∙ ap ordering_reverse e)

-- ---- where a search found nothing

pub gap_others : (rows : List Row) (k : List ℕ) (at : ℕ) → IsGap rows k at → AreOthers k (row_views rows)
gap_others [] k at gap = tt
gap_others (row ∷ rows) k zero gap = (
  turned (key_of (row_view row)) k Greater (gap.1.1 0 row (omega arith) (omega arith)) refl,
  gap_others rows k zero (omega arith, ((λ j d lo lt. absurd (omega arith)), (λ j d lo lt. gap.1.1 (suc j) d (omega arith) (omega arith)))),
)
gap_others (row ∷ rows) k (suc i) gap = (
  turned (key_of (row_view row)) k Less (gap.1.0 0 row (omega arith) (omega arith)) refl,
  gap_others rows k i (omega (arith, gap.0), ((λ j d lo lt. gap.1.0 (suc j) d (omega arith) (omega arith)), (λ j d lo lt. gap.1.1 (suc j) d (omega arith) (omega arith)))),
)

-- ---- where a search found a row

-- a row is under its own key
pub under_itself : (row : RowView) → is_under (key_of row) row ≡ true
under_itself row = ap is_eq (tied_itself nat_list_cmp_total (key_of row))

-- the first row is below a later one
first_below : (row : RowView) (rows : List RowView) → IsRising (row ∷ rows) → (i : ℕ) (d : RowView) → i < length rows → is_under (key_of (get_or rows i d)) row ≡ false
first_below row rows rising i d lt = ap is_eq (turned_less row (get_or rows i d) (All-from_recursion _ rows rising.0 i d lt))

under_at : (rows : List RowView) → IsRising rows → (at : ℕ) (d : RowView) → at < length rows → row_under (key_of (get_or rows at d)) rows ≡ Some (get_or rows at d)
under_at [] rising at d lt = absurd (omega arith)
under_at (row ∷ rows) rising zero d lt = ap (λ b. if b then Some row else row_under (key_of row) rows) (under_itself row)
under_at (row ∷ rows) rising (suc i) d lt =
    ap (λ b. if b then Some row else row_under (key_of (get_or rows i d)) rows) (first_below row rows rising i d (omega arith))
    ∙ under_at rows rising.1 i d (omega arith)

removed_at : (rows : List RowView) → IsRising rows → (at : ℕ) (d : RowView) → at < length rows → database_after_removal rows (key_of (get_or rows at d)) ≡ remove rows at
removed_at [] rising at d lt = absurd (omega arith)
removed_at (row ∷ rows) rising zero d lt =
    ap (λ b. cond (not b) (row ∷ database_after_removal rows (key_of row)) (database_after_removal rows (key_of row))) (under_itself row)
    ∙ none_removed (key_of row) rows (others_above row rows rising.0)
removed_at (row ∷ rows) rising (suc i) d lt =
    let k = key_of (get_or rows i d) in
    ap (λ b. cond (not b) (row ∷ database_after_removal rows k) (database_after_removal rows k)) (first_below row rows rising i d (omega arith))
    ∙ ap (λ l. row ∷ l) (removed_at rows rising.1 i d (omega arith))

-- the row that a search found, by the views of the rows
module _ (rows : List Row) (rising : IsRising (row_views rows)) (k : List ℕ) (at : ℕ) (index : IsIndexOfKey rows k at) (d : Row) where
  in_views : at < length (row_views rows)
  in_views = rw (length-map rows row_view) index.0

  view_at : get_or (row_views rows) at (row_view d) ≡ row_view (get_or rows at d)
  view_at = get_or-map row_view rows at d (row_view d) index.0

  its_key : key_of (get_or (row_views rows) at (row_view d)) ≡ k
  its_key = ap key_of view_at ∙ exact_bytes (key_of (row_view (get_or rows at d))) k (index.1 d)

  pub found_under : row_under k (row_views rows) ≡ Some (row_view (get_or rows at d))
  found_under = subst (λ l. row_under l (row_views rows) ≡ Some (get_or (row_views rows) at (row_view d))) its_key (under_at (row_views rows) rising at (row_view d) in_views) ∙ ap Some view_at

  pub found_removed : database_after_removal (row_views rows) k ≡ row_views (remove rows at)
  found_removed =
      subst (λ l. database_after_removal (row_views rows) l ≡ remove (row_views rows) at) its_key (removed_at (row_views rows) rising at (row_view d) in_views)
      ∙ sym (rw (map-append, take-map, drop-map))
