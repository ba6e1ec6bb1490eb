-- The index at which a search among rising rows ends, and the rows after a put at that index: for
-- `index_of` and `put`.
use Rattle.std.proofs.Common.{◌≡◌, ℕ, zero, suc, ◌<◌, ◌≤◌, List, [], ◌∷◌, length, get_or, set, if◌then◌else◌, Result, Ok, Err, IfOk, IfErr, refl, sym, ap, ◌∙◌, subst, arith}
use Rattle.std.specs.List.{insert}
use Rattle.std.specs.List.Sorted.{IsSearchInRange, IsBinarySearchResult, IsNonDecreasingBy}
use Rattle.std.specs.Ordering.{nat_cmp, ordering_index}
use Rattle.std.specs.Cmp.Lexicographic.{slice_cmp}
use Rattle.std.specs.declared.cmp.Ordering.{Ordering}
use Rattle.std.specs.declared.cmp.Ordering.TheVariants.{Less, Equal, Greater}
use Rattle.std.proofs.lemmas.Cmp.{nat_list_cmp_total, alike_right, tied_back}
use Rattle.std.proofs.lemmas.List.Elements.{All-from_recursion}
use Rattle.std.proofs.lemmas.List.{get_or-map, map-set, length-map}
use Rattle.seg_core.specs.Digest.{segment_digest}
use Rattle.row_map.specs.declared.row.Row.{Row}
use Rattle.row_map.specs.declared.change.Change.TheVariants.{Inserted, Updated, Kept}
use Rattle.row_map.specs.Database.{RowView, key, key_of, key_order, IsRising}
use Rattle.row_map.specs.Put.{is_newer, database_after_put, change_of}
use Rattle.row_map.specs.Row.{row_view, row_views, IsIndexOfKey, IsGap}
use Rattle.row_map.proofs.Lens.{insert_views}
use Rattle.row_map.proofs.Order.{IsGapFor, put_at, change_at, put_in_gap, change_in_gap}

abbrev key_cmp : List ℕ → List ℕ → Ordering
key_cmp = slice_cmp nat_cmp

-- ---- the search

lower_index : (a b k : List ℕ) (o : Ordering) → key_cmp b k ≡ o → key_cmp a b ≡ Less → ordering_index (key_cmp a k) ≤ ordering_index o
lower_index a b k Less e below = subst (λ v. ordering_index v ≤ 0) (sym (nat_list_cmp_total.trans a b k below e)) (omega arith)
lower_index a b k Equal e below = subst (λ v. ordering_index v ≤ 1) (sym (sym (alike_right nat_list_cmp_total b k a e) ∙ below)) (omega arith)
lower_index a b k Greater e below = at_most_two (key_cmp a k)
  where
    at_most_two : (v : Ordering) → ordering_index v ≤ 2
    at_most_two Less = omega arith
    at_most_two Equal = omega arith
    at_most_two Greater = omega arith

-- the comparisons with a key rise along the rows, as a binary search requires
comparisons_rise : (rows : List Row) → IsRising (row_views rows) → (k : List ℕ) → IsNonDecreasingBy (λ row. ordering_index (key_cmp (key_of (row_view row)) k)) rows
comparisons_rise [] rising k i j d le lt = absurd (omega arith)
comparisons_rise (x ∷ rows) rising k zero zero d le lt = omega arith
comparisons_rise (x ∷ rows) rising k (suc i) zero d le lt = absurd (omega arith)
comparisons_rise (x ∷ rows) rising k (suc i) (suc j) d le lt = comparisons_rise rows rising.1 k i j d (omega arith) (omega arith)
comparisons_rise (x ∷ rows) rising k zero (suc j) d le lt =
    let later = get_or rows j d in
    let in_range : j < length rows = omega arith in
    let above = All-from_recursion _ (row_views rows) rising.0 j (row_view d) (rw (length-map rows row_view) in_range) in
    let lower : key_cmp (key_of (row_view x)) (key_of (row_view later)) ≡ Less = rw (get_or-map row_view rows j d (row_view d) in_range) at above in
    lower_index (key_of (row_view x)) (key_of (row_view later)) k (key_cmp (key_of (row_view later)) k) refl lower

-- a binary search by key ends at the key, or at the gap where the key would be
pub searched : (rows : List Row) → IsRising (row_views rows) → (k : List ℕ) (r : Result ℕ ℕ) → IsSearchInRange r (length rows) → IsBinarySearchResult (λ row. key_cmp (key_of (row_view row)) k) rows r → record { found : IfOk r (IsIndexOfKey rows k); absent : IfErr r (IsGap rows k) }
searched rows rising k (Ok at) in_range equal = record { found = (in_range, equal); absent = tt }
searched rows rising k (Err at) in_range parted = record { found = tt; absent = (in_range, parted (comparisons_rise rows rising k)) }

-- the key by which a row is searched is its own
pub key_is : (row : Row) (id : List ℕ) → id ≡ segment_digest row.segment → key row.kind id ≡ key_of (row_view row)
unfolding key_of
key_is row id its = ap (λ id. key row.kind id) its

-- ---- a put at the index

module _ (rows : List Row) (rising : IsRising (row_views rows)) (row : Row) (at : ℕ) (there : IsIndexOfKey rows (key_of (row_view row)) at) where
  -- the row at the index
  abbrev old_row : Row
  old_row = get_or rows at row

  old_view : get_or (row_views rows) at (row_view row) ≡ row_view old_row
  old_view = get_or-map row_view rows at row (row_view row) there.0

  same_key : key_order (row_view row) (row_view old_row) ≡ Equal
  same_key = tied_back nat_list_cmp_total (key_of (row_view old_row)) (key_of (row_view row)) (there.1 row)

  same_there : key_order (row_view row) (get_or (row_views rows) at (row_view row)) ≡ Equal
  same_there = rw old_view same_key

  in_views : at < length (row_views rows)
  in_views = rw (length-map rows row_view) there.0

  abbrev winner_there : RowView
  winner_there = if is_newer (row_view row) (row_view old_row) then row_view row else row_view old_row

  pub put_there : (new : Row) → row_view new ≡ winner_there → row_views (set rows at new) ≡ database_after_put (row_views rows) (row_view row)
  put_there new won =
      let put = rw old_view at (put_at (row_views rows) rising (row_view row) at (row_view row) in_views same_there) in
      map-set row_view rows at new ∙ ap (λ view. set (row_views rows) at view) won ∙ sym put

  pub change_there : (if is_newer (row_view row) (row_view old_row) then Updated else Kept) ≡ change_of (row_views rows) (row_view row)
  change_there = sym (rw old_view at (change_at (row_views rows) rising (row_view row) at (row_view row) in_views same_there))

-- ---- a put in the gap

module _ (rows : List Row) (row : Row) (at : ℕ) (gap : IsGap rows (key_of (row_view row)) at) where
  view_at : (j : ℕ) (d : RowView) → j < length rows → get_or (row_views rows) j d ≡ row_view (get_or rows j row)
  view_at j d lt = get_or-map row_view rows j row d lt

  views_gap : IsGapFor (row_views rows) (row_view row) at
  views_gap = record {
    in_range = rw (length-map rows row_view) gap.0;
    before = λ j d lt. let in_range : j < length rows = omega (arith, gap.0) in rw (view_at j d in_range) (gap.1.0 j row (omega arith) lt);
    after = λ j d le lt. let in_range : j < length rows = (rw (length-map rows row_view) at lt) in rw (view_at j d in_range) (gap.1.1 j row le in_range);
  }

  pub put_new : row_views (insert rows at row) ≡ database_after_put (row_views rows) (row_view row)
  put_new = insert_views rows at row ∙ sym (put_in_gap (row_views rows) (row_view row) at views_gap)

  pub change_new : Inserted ≡ change_of (row_views rows) (row_view row)
  change_new = sym (change_in_gap (row_views rows) (row_view row) at views_gap)
