-- The rows of a map under its keys: for the calls of `RowMap`.
use Rattle.std.proofs.Common.{◌≡◌, ℕ, ◌+◌, arith, Bool, true, false, not, cond, List, [], ◌∷◌, if◌then◌else◌, Option, Some, None, refl, sym, ap, ◌∙◌, subst}
use Rattle.std.specs.List.{AllByRecursion, sum_by}
use Rattle.std.specs.List.Sorted.{IsStrictlySortedBy}
use Rattle.std.specs.Ordering.{nat_cmp, is_eq, match_ordering}
use Rattle.std.specs.Cmp.Lexicographic.{slice_cmp}
use Rattle.std.specs.declared.cmp.Ordering.{Ordering}
use Rattle.std.specs.declared.cmp.Ordering.TheVariants.{Less, Equal, Greater}
use Rattle.std.specs.Option.{option_map, option_copied, is_some}
use Rattle.std.specs.Borrow.{Bor}
use Rattle.std.specs.Map.{keys_of, lookup, remove_entry, set_value}
use Rattle.std.specs.BTreeMap.{insert_entry, is_at}
use Rattle.std.specs.Cmp.{IsTotalOrder}
use Rattle.std.proofs.lemmas.Bool.{false≢true}
use Rattle.std.proofs.lemmas.Cmp.{nat_list_cmp_total, on_total}
use Rattle.std.proofs.lemmas.List.Sums.{sum_by-cons}
use Rattle.std.proofs.lemmas.Map.{lookup-none}
use Rattle.std.proofs.lemmas.Map.Entries.{none_below_head}
use Rattle.std.proofs.lemmas.Map.Keys.{sorted_tail}
use Rattle.std.proofs.lemmas.Map.Lookups.{exact_bytes}
use Rattle.row_map.specs.declared.row.Row.{Row}
use Rattle.row_map.specs.declared.row_key.RowKey.{RowKey}
use Rattle.row_map.specs.Database.{RowView, key_of, key_order, IsRising, is_under, row_under}
use Rattle.row_map.specs.Drops.{database_after_removal}
use Rattle.row_map.specs.Row.{row_view}
use Rattle.row_map.specs.RowMap.{bytes_of, views_of, number_if_any, AreUnderTheirKeys}
use Rattle.row_map.proofs.Order.{AllAbove}
use Rattle.row_map.proofs.Found.{none_removed}
use Rattle.row_map.proofs.Keys.{others_behind, under_first, under_both, not_under}

-- keys are in the order of their bytes
abbrev pub key_cmp : RowKey → RowKey → Ordering
key_cmp k l = slice_cmp nat_cmp (bytes_of k) (bytes_of l)

-- ---- the order

above_from : (k : RowKey) (row : Row) (es : List (RowKey × Row)) → bytes_of k ≡ key_of (row_view row) → AllByRecursion (λ l. key_cmp k l ≡ Less) (keys_of es) → AreUnderTheirKeys es → AllAbove (row_view row) (views_of es)
above_from k row [] its below own = tt
above_from k row (e ∷ es) its below own = (
  subst (λ b. slice_cmp nat_cmp (key_of (row_view row)) b ≡ Less) own.0 (subst (λ b. slice_cmp nat_cmp b (bytes_of e.0) ≡ Less) its below.0),
  above_from k row es its below.1 own.1,
)

-- the keys of a map rise
pub rising_from : (es : List (RowKey × Row)) → IsStrictlySortedBy key_cmp (keys_of es) → AreUnderTheirKeys es → IsRising (views_of es)
unfolding IsStrictlySortedBy
rising_from [] sorted own = tt
rising_from (e ∷ es) sorted own = (above_from e.0 e.1 es own.0 sorted.0 own.1, rising_from es sorted.1 own.1)

-- ---- a look-up

found_first : (b : Bool) (row : Row) (found : Option Row) (later : Option RowView) → option_map row_view found ≡ later → option_map row_view (cond b (Some row) found) ≡ (if b then Some (row_view row) else later)
found_first true row found later e = refl
found_first false row found later e = e

pub found_by : (q : RowKey) (es : List (RowKey × Row)) → AreUnderTheirKeys es → option_map row_view (lookup (is_at (key_cmp q)) es) ≡ row_under (bytes_of q) (views_of es)
found_by q [] own = refl
found_by q (e ∷ es) own =
    found_first (is_at (key_cmp q) e.0) e.1 (lookup (is_at (key_cmp q)) es) (row_under (bytes_of q) (views_of es)) (found_by q es own.1)
    ∙ ap (λ k. if is_eq (slice_cmp nat_cmp (bytes_of q) k) then Some (row_view e.1) else row_under (bytes_of q) (views_of es)) own.0

-- ---- a removal

removed_first : (b : Bool) (k : List ℕ) (e : RowKey × Row) (es rest : List (RowKey × Row)) → is_under k (row_view e.1) ≡ b → AllAbove (row_view e.1) (views_of es) → views_of rest ≡ database_after_removal (views_of es) k
    → views_of (cond b es (e ∷ rest)) ≡ cond (not b) (row_view e.1 ∷ database_after_removal (views_of es) k) (database_after_removal (views_of es) k)
removed_first true k e es rest under above later = sym (none_removed k (views_of es) (others_behind k (row_view e.1) (views_of es) under above))
removed_first false k e es rest under above later = ap (λ l. row_view e.1 ∷ l) later

pub removed_by : (q : RowKey) (es : List (RowKey × Row)) → AreUnderTheirKeys es → IsRising (views_of es) → views_of (remove_entry (is_at (key_cmp q)) es) ≡ database_after_removal (views_of es) (bytes_of q)
removed_by q [] own rising = refl
removed_by q (e ∷ es) own rising =
    let same : is_at (key_cmp q) e.0 ≡ is_under (bytes_of q) (row_view e.1) = ap (λ k. is_eq (slice_cmp nat_cmp (bytes_of q) k)) own.0 in
    ap (λ b. views_of (cond b es (e ∷ remove_entry (is_at (key_cmp q)) es))) same
    ∙ removed_first (is_under (bytes_of q) (row_view e.1)) (bytes_of q) e es (remove_entry (is_at (key_cmp q)) es) refl rising.0 (removed_by q es own.1 rising.1)

own_tested : (b : Bool) (e : RowKey × Row) (es rest : List (RowKey × Row)) → bytes_of e.0 ≡ key_of (row_view e.1) → AreUnderTheirKeys es → AreUnderTheirKeys rest → AreUnderTheirKeys (cond b es (e ∷ rest))
own_tested true e es rest one own left = own
own_tested false e es rest one own left = (one, left)

pub own_removed : (test : RowKey → Bool) (es : List (RowKey × Row)) → AreUnderTheirKeys es → AreUnderTheirKeys (remove_entry test es)
own_removed test [] own = tt
own_removed test (e ∷ es) own = own_tested (test e.0) e es (remove_entry test es) own.0 own.1 (own_removed test es own.1)

-- ---- a test

pub passed_first : (b : Bool) (e : RowKey × Row) (rest : List (RowKey × Row)) (later : List RowView) → views_of rest ≡ later → views_of (cond b (e ∷ rest) rest) ≡ cond b (row_view e.1 ∷ later) later
passed_first true e rest later same = ap (λ l. row_view e.1 ∷ l) same
passed_first false e rest later same = same

-- ---- a row under its key

module _ (k : List ℕ) (q : RowKey) (row : Row) (its : bytes_of q ≡ key_of (row_view row)) where
  set_first : (o : Ordering) (b : Bool) (old : RowView) (others later : List RowView) → key_order (row_view row) old ≡ o → is_under k (row_view row) ≡ b
      → row_under k later ≡ (if b then Some (row_view row) else row_under k others)
      → row_under k (match_ordering o (row_view row ∷ old ∷ others) (row_view row ∷ others) (old ∷ later)) ≡ (if b then Some (row_view row) else row_under k (old ∷ others))
  set_first Less b old others later order under more = under_first k (row_view row) (old ∷ others) b under
  set_first Equal true old others later order under more = under_first k (row_view row) others true under
  set_first Equal false old others later order under more =
      under_first k (row_view row) others false under ∙ sym (under_first k old others false (under_both k (row_view row) old false order under))
  set_first Greater true old others later order under more =
      under_first k old later false (not_under k (row_view row) old Greater order refl under) ∙ more
  set_first Greater false old others later order under more = ap (λ found. if is_under k old then Some old else found) more

  views_match : (o : Ordering) (e : RowKey × Row) (es later : List (RowKey × Row)) → views_of (match_ordering o ((q, row) ∷ e ∷ es) ((e.0, row) ∷ es) (e ∷ later)) ≡ match_ordering o (row_view row ∷ row_view e.1 ∷ views_of es) (row_view row ∷ views_of es) (row_view e.1 ∷ views_of later)
  views_match Less e es later = refl
  views_match Equal e es later = refl
  views_match Greater e es later = refl

  order_is : (e : RowKey × Row) → bytes_of e.0 ≡ key_of (row_view e.1) → key_order (row_view row) (row_view e.1) ≡ key_cmp q e.0
  order_is e own = ap (λ b. slice_cmp nat_cmp b (key_of (row_view e.1))) (sym its) ∙ ap (slice_cmp nat_cmp (bytes_of q)) (sym own)

  pub set_by : (es : List (RowKey × Row)) → AreUnderTheirKeys es → row_under k (views_of (insert_entry key_cmp es q row)) ≡ (if is_under k (row_view row) then Some (row_view row) else row_under k (views_of es))
  set_by [] own = refl
  set_by (e ∷ es) own =
      ap (row_under k) (views_match (key_cmp q e.0) e es (insert_entry key_cmp es q row))
      ∙ set_first (key_cmp q e.0) (is_under k (row_view row)) (row_view e.1) (views_of es) (views_of (insert_entry key_cmp es q row)) (order_is e own.0) refl (set_by es own.1)

module _ (q : RowKey) (row : Row) (its : bytes_of q ≡ key_of (row_view row)) where
  own_match : (o : Ordering) (e : RowKey × Row) (es later : List (RowKey × Row)) → key_cmp q e.0 ≡ o → bytes_of e.0 ≡ key_of (row_view e.1) → AreUnderTheirKeys es → AreUnderTheirKeys later
      → AreUnderTheirKeys (match_ordering o ((q, row) ∷ e ∷ es) ((e.0, row) ∷ es) (e ∷ later))
  own_match Less e es later order one own more = (its, (one, own))
  own_match Equal e es later order one own more = (sym (exact_bytes (bytes_of q) (bytes_of e.0) order) ∙ its, own)
  own_match Greater e es later order one own more = (one, more)

  pub own_set : (es : List (RowKey × Row)) → AreUnderTheirKeys es → AreUnderTheirKeys (insert_entry key_cmp es q row)
  own_set [] own = (its, tt)
  own_set (e ∷ es) own = own_match (key_cmp q e.0) e es (insert_entry key_cmp es q row) refl own.0 own.1 (own_set es own.1)

-- ---- in the terms of the calls

pub copied_view : (found : Option (Bor Row)) → option_map (λ row. row_view row.now) found ≡ option_map row_view (option_copied found)
copied_view None = refl
copied_view (Some row) = refl

pub key_cmp_total : IsTotalOrder key_cmp
key_cmp_total = on_total bytes_of nat_list_cmp_total

-- ---- sums over the rows

module _ (of : RowView → ℕ) where
  taken_first : (b : Bool) (e : RowKey × Row) (es rest : List (RowKey × Row)) (found : Option Row) → sum_by of (views_of rest) + number_if_any of (option_map row_view found) ≡ sum_by of (views_of es)
      → sum_by of (views_of (cond b es (e ∷ rest))) + number_if_any of (option_map row_view (cond b (Some e.1) found)) ≡ sum_by of (views_of (e ∷ es))
  taken_first true e es rest found later = omega (arith, sum_by-cons of (row_view e.1) (views_of es))
  taken_first false e es rest found later = omega (arith, later, sum_by-cons of (row_view e.1) (views_of es), sum_by-cons of (row_view e.1) (views_of rest))

  pub removed_sum : (q : RowKey) (es : List (RowKey × Row))
      → sum_by of (views_of (remove_entry (is_at (key_cmp q)) es)) + number_if_any of (option_map row_view (lookup (is_at (key_cmp q)) es)) ≡ sum_by of (views_of es)
  removed_sum q [] = refl
  removed_sum q (e ∷ es) =
      taken_first (is_at (key_cmp q) e.0) e es (remove_entry (is_at (key_cmp q)) es) (lookup (is_at (key_cmp q)) es) (removed_sum q es)

  put_first : (o : Ordering) (q : RowKey) (row : Row) (e : RowKey × Row) (es later : List (RowKey × Row)) (found : Option Row) → key_cmp q e.0 ≡ o → (o ≡ Less → found ≡ None)
      → sum_by of (views_of later) + number_if_any of (option_map row_view found) ≡ sum_by of (views_of es) + of (row_view row)
      → sum_by of (views_of (match_ordering o ((q, row) ∷ e ∷ es) ((e.0, row) ∷ es) (e ∷ later))) + number_if_any of (option_map row_view (cond (is_eq o) (Some e.1) found)) ≡ sum_by of (views_of (e ∷ es)) + of (row_view row)
  put_first Less q row e es later found order none more =
      rw (none refl) (omega (arith, sum_by-cons of (row_view row) (views_of (e ∷ es))))
  put_first Equal q row e es later found order none more =
      omega (arith, sum_by-cons of (row_view e.1) (views_of es), sum_by-cons of (row_view row) (views_of es))
  put_first Greater q row e es later found order none more =
      omega (arith, more, sum_by-cons of (row_view e.1) (views_of es), sum_by-cons of (row_view e.1) (views_of later))

  pub set_sum : (q : RowKey) (row : Row) (es : List (RowKey × Row)) → IsStrictlySortedBy key_cmp (keys_of es)
      → sum_by of (views_of (insert_entry key_cmp es q row)) + number_if_any of (option_map row_view (lookup (is_at (key_cmp q)) es)) ≡ sum_by of (views_of es) + of (row_view row)
  set_sum q row [] sorted = omega (arith, sum_by-cons of (row_view row) [])
  set_sum q row (e ∷ es) sorted =
      put_first (key_cmp q e.0) q row e es (insert_entry key_cmp es q row) (lookup (is_at (key_cmp q)) es) refl
      (λ below. lookup-none (is_at (key_cmp q)) es (none_below_head key_cmp_total q e es sorted below).1)
      (set_sum q row es (sorted_tail key_cmp e.0 (keys_of es) sorted))

-- ---- a value that replaces another

placed_first : (o : Ordering) (q : RowKey) (row old : Row) (e : RowKey × Row) (es later after : List (RowKey × Row)) (found : Option Row) → (o ≡ Less → found ≡ None)
    → cond (is_eq o) (Some e.1) found ≡ Some old → (found ≡ Some old → later ≡ after)
    → cond (is_eq o) ((e.0, row) ∷ es) (e ∷ later) ≡ match_ordering o ((q, row) ∷ e ∷ es) ((e.0, row) ∷ es) (e ∷ after)
placed_first Less q row old e es later after found none is more = absurd (false≢true (ap is_some (sym (none refl) ∙ is)))
placed_first Equal q row old e es later after found none is more = refl
placed_first Greater q row old e es later after found none is more = ap (λ rest. e ∷ rest) (more is)

-- where a row is under the key, to set its value is to insert it
pub placed_is_set : (q : RowKey) (row old : Row) (es : List (RowKey × Row)) → IsStrictlySortedBy key_cmp (keys_of es) → lookup (is_at (key_cmp q)) es ≡ Some old
    → set_value (is_at (key_cmp q)) es row ≡ insert_entry key_cmp es q row
placed_is_set q row old [] sorted is = absurd (false≢true (ap is_some is))
placed_is_set q row old (e ∷ es) sorted is =
    placed_first (key_cmp q e.0) q row old e es (set_value (is_at (key_cmp q)) es row) (insert_entry key_cmp es q row) (lookup (is_at (key_cmp q)) es)
    (λ below. lookup-none (is_at (key_cmp q)) es (none_below_head key_cmp_total q e es sorted below).1) is
    (placed_is_set q row old es (sorted_tail key_cmp e.0 (keys_of es) sorted))

same_first : (b : Bool) (old : Row) (e : RowKey × Row) (es later : List (RowKey × Row)) (found : Option Row) → cond b (Some e.1) found ≡ Some old → (found ≡ Some old → later ≡ es)
    → cond b ((e.0, old) ∷ es) (e ∷ later) ≡ e ∷ es
same_first true old e es later found is more = let one : e.1 ≡ old = cc in ap (λ row. (e.0, row) ∷ es) (sym one)
same_first false old e es later found is more = ap (λ rest. e ∷ rest) (more is)

-- to set the value that is there already changes nothing
pub placed_same : (q : RowKey) (old : Row) (es : List (RowKey × Row)) → lookup (is_at (key_cmp q)) es ≡ Some old → set_value (is_at (key_cmp q)) es old ≡ es
placed_same q old [] is = refl
placed_same q old (e ∷ es) is = same_first (is_at (key_cmp q) e.0) old e es (set_value (is_at (key_cmp q)) es old) (lookup (is_at (key_cmp q)) es) is (placed_same q old es)

-- the row under the key of a row
pub found_at : (q : RowKey) (row old : Row) (es : List (RowKey × Row)) → bytes_of q ≡ key_of (row_view row) → AreUnderTheirKeys es → lookup (is_at (key_cmp q)) es ≡ Some old
    → row_under (key_of (row_view row)) (views_of es) ≡ Some (row_view old)
found_at q row old es its own is = ap (λ k. row_under k (views_of es)) (sym its) ∙ sym (found_by q es own) ∙ ap (option_map row_view) is

-- there is none where the map has no entry of it
pub none_at : (q : RowKey) (row : Row) (es : List (RowKey × Row)) → bytes_of q ≡ key_of (row_view row) → AreUnderTheirKeys es → lookup (is_at (key_cmp q)) es ≡ None
    → row_under (key_of (row_view row)) (views_of es) ≡ None
none_at q row es its own is = ap (λ k. row_under k (views_of es)) (sym its) ∙ sym (found_by q es own) ∙ ap (option_map row_view) is
