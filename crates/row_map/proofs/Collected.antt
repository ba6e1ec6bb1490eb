-- Entries that are gathered one after the other, and the tree that is made of entries whose keys
-- rise: for `map_of` and `tree_of`.
use Rattle.std.proofs.Common.{◌≡◌, ℕ, ◌+◌, Bool, true, false, List, [], ◌∷◌, ◌++◌, Some, None, refl, sym, ap, ◌∙◌, subst, map}
use Rattle.std.specs.List.{AllByRecursion}
use Rattle.std.specs.List.Sorted.{IsStrictlySortedBy}
use Rattle.std.specs.Ordering.{nat_cmp, is_eq, eq_by_cmp, ordering_reverse}
use Rattle.std.specs.Cmp.Lexicographic.{slice_cmp}
use Rattle.std.specs.declared.cmp.Ordering.{Ordering}
use Rattle.std.specs.declared.cmp.Ordering.TheVariants.{Less, Equal, Greater}
use Rattle.std.specs.Option.{is_some}
use Rattle.std.specs.Map.{keys_of, lookup}
use Rattle.std.specs.BTreeMap.{BTreeMap, is_at, IsFromIterResult}
use Rattle.std.proofs.lemmas.Bool.{false≢true}
use Rattle.std.proofs.lemmas.Cmp.{eq_by_cmp_equiv, tied_itself}
use Rattle.std.proofs.lemmas.Map.{lookup-none}
use Rattle.std.proofs.lemmas.Map.Entries.{lookup_head, lookup_tail, none_past_head, none_below_head}
use Rattle.std.proofs.lemmas.Map.Keys.{IsDistinct-from_sorted, sorted_tail}
use Rattle.std.proofs.lemmas.Map.Lookups.{map_keys, exact_bytes}
use Rattle.std.proofs.lemmas.Map.Made.{update_all_none}
use Rattle.row_map.specs.declared.row.Row.{Row}
use Rattle.row_map.specs.declared.row_key.RowKey.{RowKey}
use Rattle.row_map.specs.Database.{RowView, key_of, IsRising}
use Rattle.row_map.specs.Row.{row_view}
use Rattle.row_map.specs.RowMap.{bytes_of, views_of, AreUnderTheirKeys}
use Rattle.row_map.proofs.Order.{AllAbove}
use Rattle.row_map.proofs.Keyed.{key_cmp, key_cmp_total}

-- ---- one entry more at the end

pub views_push : (es : List (RowKey × Row)) (k : RowKey) (row : Row) → views_of (es ++ (k, row) ∷ []) ≡ views_of es ++ row_view row ∷ []
views_push [] k row = refl
views_push (e ∷ es) k row = ap (λ l. row_view e.1 ∷ l) (views_push es k row)

pub own_push : (es : List (RowKey × Row)) (k : RowKey) (row : Row) → AreUnderTheirKeys es → bytes_of k ≡ key_of (row_view row) → AreUnderTheirKeys (es ++ (k, row) ∷ [])
own_push [] k row own its = (its, tt)
own_push (e ∷ es) k row own its = (own.0, own_push es k row own.1 its)

-- ---- the keys of entries whose rows rise

above_to : (k : RowKey) (row : Row) (es : List (RowKey × Row)) → bytes_of k ≡ key_of (row_view row) → AllAbove (row_view row) (views_of es) → AreUnderTheirKeys es → AllByRecursion (λ l. key_cmp k l ≡ Less) (keys_of es)
above_to k row [] its above own = tt
above_to k row (e ∷ es) its above own = (
  subst (λ b. slice_cmp nat_cmp (bytes_of k) b ≡ Less) (sym own.0) (subst (λ b. slice_cmp nat_cmp b (key_of (row_view e.1)) ≡ Less) (sym its) above.0),
  above_to k row es its above.1 own.1,
)

sorted_from : (es : List (RowKey × Row)) → IsRising (views_of es) → AreUnderTheirKeys es → IsStrictlySortedBy key_cmp (keys_of es)
unfolding IsStrictlySortedBy
sorted_from [] rising own = tt
sorted_from (e ∷ es) rising own = (above_to e.0 e.1 es own.0 rising.0 own.1, sorted_from es rising.1 own.1)

-- ---- entries by the bytes of their keys

abbrev by_bytes : List (RowKey × Row) → List (List ℕ × Row)
by_bytes es = map_keys bytes_of es

abbrev OwnBytes : List (List ℕ × Row) → Type 0
OwnBytes es = AllByRecursion (λ e. e.0 ≡ key_of (row_view e.1)) es

own_to_bytes : (es : List (RowKey × Row)) → AreUnderTheirKeys es → OwnBytes (by_bytes es)
own_to_bytes [] own = tt
own_to_bytes (e ∷ es) own = (own.0, own_to_bytes es own.1)

own_from_bytes : (es : List (RowKey × Row)) → OwnBytes (by_bytes es) → AreUnderTheirKeys es
own_from_bytes [] own = tt
own_from_bytes (e ∷ es) own = (own.0, own_from_bytes es own.1)

views_same : (es : List (RowKey × Row)) → map (λ e. row_view e.1) (by_bytes es) ≡ views_of es
views_same [] = refl
views_same (e ∷ es) = ap (λ l. row_view e.1 ∷ l) (views_same es)

-- ---- sorted entries are determined by the row at each key

abbrev AreSorted : List (RowKey × Row) → Type 0
AreSorted es = IsStrictlySortedBy key_cmp (keys_of es)

abbrev SameAtAll : List (RowKey × Row) → List (RowKey × Row) → Type 0
SameAtAll es fs = (q : RowKey) → lookup (is_at (key_cmp q)) es ≡ lookup (is_at (key_cmp q)) fs

found_first : (e : RowKey × Row) (es : List (RowKey × Row)) → lookup (is_at (key_cmp e.0)) (e ∷ es) ≡ Some e.1
found_first e es = lookup_head (is_at (key_cmp e.0)) e es (ap is_eq (tied_itself key_cmp_total e.0))

none_found : (q : RowKey) (e : RowKey × Row) (es : List (RowKey × Row)) → AreSorted (e ∷ es) → key_cmp q e.0 ≡ Less → lookup (is_at (key_cmp q)) (e ∷ es) ≡ None
none_found q e es sorted below = lookup-none (is_at (key_cmp q)) (e ∷ es) (none_below_head key_cmp_total q e es sorted below)

none_later : (q : RowKey) (e : RowKey × Row) (es : List (RowKey × Row)) → AreSorted (e ∷ es) → is_at (key_cmp q) e.0 ≡ true → lookup (is_at (key_cmp q)) es ≡ None
none_later q e es sorted at = lookup-none (is_at (key_cmp q)) es (none_past_head (eq_by_cmp_equiv key_cmp_total) q e es (IsDistinct-from_sorted key_cmp (keys_of (e ∷ es)) sorted) at)

module _ (e f : RowKey × Row) (es fs : List (RowKey × Row)) (left : AreSorted (e ∷ es)) (right : AreSorted (f ∷ fs)) (all : SameAtAll (e ∷ es) (f ∷ fs)) where
  rest_at : (q : RowKey) (b : Bool) → is_at (key_cmp q) e.0 ≡ b → is_at (key_cmp q) f.0 ≡ b → lookup (is_at (key_cmp q)) es ≡ lookup (is_at (key_cmp q)) fs
  rest_at q true here there = none_later q e es left here ∙ sym (none_later q f fs right there)
  rest_at q false here there = sym (lookup_tail (is_at (key_cmp q)) e es here) ∙ all q ∙ lookup_tail (is_at (key_cmp q)) f fs there

  both_first : (o : Ordering) → key_cmp e.0 f.0 ≡ o → (SameAtAll es fs → by_bytes es ≡ by_bytes fs) → by_bytes (e ∷ es) ≡ by_bytes (f ∷ fs)
  both_first Less order rest = absurd (false≢true (ap is_some (sym (none_found e.0 f fs right order) ∙ sym (all e.0) ∙ found_first e es)))
  both_first Greater order rest =
      absurd (false≢true (ap is_some (sym (none_found f.0 e es left (key_cmp_total.antisymm f.0 e.0 ∙ ap ordering_reverse order)) ∙ all f.0 ∙ found_first f fs)))
  both_first Equal order rest =
      let bytes : bytes_of e.0 ≡ bytes_of f.0 = exact_bytes (bytes_of e.0) (bytes_of f.0) order in
      let found : Some e.1 ≡ Some f.1 = sym (found_first e es) ∙ all e.0 ∙ lookup_head (is_at (key_cmp e.0)) f fs (ap is_eq order) in
      let row : e.1 ≡ f.1 = cc in
      let later = rest (λ q. rest_at q (is_at (key_cmp q) e.0) refl (ap (λ b. is_eq (slice_cmp nat_cmp (bytes_of q) b)) (sym bytes))) in
      ap (λ b. (b, e.1) ∷ by_bytes es) bytes ∙ ap (λ r. (bytes_of f.0, r) ∷ by_bytes es) row ∙ ap (λ l. (bytes_of f.0, f.1) ∷ l) later

same_by_bytes : (es fs : List (RowKey × Row)) → AreSorted es → AreSorted fs → SameAtAll es fs → by_bytes es ≡ by_bytes fs
same_by_bytes [] [] left right all = refl
same_by_bytes [] (f ∷ fs) left right all = absurd (false≢true (ap is_some (all f.0 ∙ found_first f fs)))
same_by_bytes (e ∷ es) [] left right all = absurd (false≢true (ap is_some (sym (all e.0) ∙ found_first e es)))
same_by_bytes (e ∷ es) (f ∷ fs) left right all =
    both_first e f es fs left right all (key_cmp e.0 f.0) refl (same_by_bytes es fs (sorted_tail key_cmp e.0 (keys_of es) left) (sorted_tail key_cmp f.0 (keys_of fs) right))

-- ---- the tree

module _ (es : List (RowKey × Row)) (tree : BTreeMap RowKey Row) (own : AreUnderTheirKeys es) (rising : IsRising (views_of es)) (made : IsFromIterResult key_cmp es tree) where
  tree_same : by_bytes tree.entries ≡ by_bytes es
  tree_same =
      let sorted = sorted_from es rising own in
      same_by_bytes tree.entries es made.1 sorted
      (λ q. made.0 q ∙ update_all_none (eq_by_cmp_equiv key_cmp_total) (eq_by_cmp key_cmp) (λ x y. refl) es q (IsDistinct-from_sorted key_cmp (keys_of es) sorted))

  pub collected_own : AreUnderTheirKeys tree.entries
  collected_own = own_from_bytes tree.entries (subst OwnBytes (sym tree_same) (own_to_bytes es own))

  pub collected_views : views_of tree.entries ≡ views_of es
  collected_views = sym (views_same tree.entries) ∙ ap (map (λ e. row_view e.1)) tree_same ∙ views_same es
