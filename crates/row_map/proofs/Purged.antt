-- The walk of a purge: for `PurgeWalk`, the calls of `RowMap` and `purge`.
use Rattle.std.proofs.Common.{rules, ◌≡◌, ℕ, ◌<◌, ◌≤◌, Bool, true, false, not, ◌&&◌, cond, List, [], ◌∷◌, ◌++◌, if◌then◌else◌, Some, refl, sym, ap, ◌∙◌, subst, arith}
use Rattle.std.specs.List.{AllByRecursion, filter}
use Rattle.std.specs.Ordering.{nat_cmp, is_eq, is_le, is_lt, match_ordering, ordering_reverse}
use Rattle.std.specs.Cmp.Lexicographic.{slice_cmp}
use Rattle.std.specs.declared.cmp.Ordering.{Ordering}
use Rattle.std.specs.declared.cmp.Ordering.TheVariants.{Less, Equal, Greater}
use Rattle.std.specs.BTreeMap.{insert_entry}
use Rattle.std.specs.Map.{remove_entry}
use Rattle.std.proofs.lemmas.Bool.{false≢true}
use Rattle.std.proofs.lemmas.Cmp.{nat_list_cmp_total}
use Rattle.std.proofs.lemmas.List.{append_assoc}
use Rattle.seg_check.specs.Expiry.{expiry_of}
use Rattle.row_map.specs.declared.row.Row.{Row}
use Rattle.row_map.specs.declared.row_key.RowKey.{RowKey}
use Rattle.row_map.specs.Database.{RowView, key_of, key_order, IsRising, is_under, row_under}
use Rattle.row_map.specs.Drops.{is_valid_beyond, database_after_purge, database_after_removal}
use Rattle.row_map.specs.Row.{row_view}
use Rattle.row_map.specs.RowMap.{bytes_of, views_of, AreUnderTheirKeys, NoneExpiresBefore}
use Rattle.row_map.specs.Purge.{is_below, Outlasts}
use Rattle.row_map.proofs.Order.{AllAbove, turned_less}
use Rattle.row_map.proofs.Rising.{above_filtered}
use Rattle.row_map.proofs.Found.{none_removed, under_itself}
use Rattle.row_map.proofs.Keys.{others_behind, under_first}
use Rattle.row_map.proofs.Keyed.{key_cmp, passed_first}

-- ---- what holds of each row

-- what holds of each row holds of each that a test keeps
kept_tested : (P : RowView → Type 0) (b : Bool) (row : RowView) (rows : List RowView) → P row → AllByRecursion P rows → AllByRecursion P (cond b (row ∷ rows) rows)
kept_tested P true row rows one all = (one, all)
kept_tested P false row rows one all = all

pub all_filtered : (P : RowView → Type 0) (p : RowView → Bool) (rows : List RowView) → AllByRecursion P rows → AllByRecursion P (filter p rows)
all_filtered P p [] all = tt
all_filtered P p (row ∷ rows) all = kept_tested P (p row) row (filter p rows) all.0 (all_filtered P p rows all.1)

module _ (P : RowView → Type 0) where
  set_matched : (o : Ordering) (q : RowKey) (row : Row) (e : RowKey × Row) (es later : List (RowKey × Row)) → P (row_view row) → AllByRecursion P (views_of (e ∷ es)) → AllByRecursion P (views_of later)
      → AllByRecursion P (views_of (match_ordering o ((q, row) ∷ e ∷ es) ((e.0, row) ∷ es) (e ∷ later)))
  set_matched Less q row e es later one all more = (one, all)
  set_matched Equal q row e es later one all more = (one, all.1)
  set_matched Greater q row e es later one all more = (all.0, more)

  -- what holds of each row, after a row is put of which it holds
  pub all_set : (q : RowKey) (row : Row) (es : List (RowKey × Row)) → P (row_view row) → AllByRecursion P (views_of es) → AllByRecursion P (views_of (insert_entry key_cmp es q row))
  all_set q row [] one all = (one, tt)
  all_set q row (e ∷ es) one all = set_matched (key_cmp q e.0) q row e es (insert_entry key_cmp es q row) one all (all_set q row es one all.1)

  removed_tested : (b : Bool) (e : RowKey × Row) (es rest : List (RowKey × Row)) → AllByRecursion P (views_of (e ∷ es)) → AllByRecursion P (views_of rest) → AllByRecursion P (views_of (cond b es (e ∷ rest)))
  removed_tested true e es rest all left = all.1
  removed_tested false e es rest all left = (all.0, left)

  -- what holds of each row, after a row is removed
  pub all_removed : (test : RowKey → Bool) (es : List (RowKey × Row)) → AllByRecursion P (views_of es) → AllByRecursion P (views_of (remove_entry test es))
  all_removed test [] all = tt
  all_removed test (e ∷ es) all = removed_tested (test e.0) e es (remove_entry test es) all (all_removed test es all.1)

-- rows that all pass a test are those that it keeps
pub all_kept : (p : RowView → Bool) (rows : List RowView) → AllByRecursion (λ row. p row ≡ true) rows → filter p rows ≡ rows
all_kept p [] all = refl
all_kept p (row ∷ rows) all = ap (λ b. cond b (row ∷ filter p rows) (filter p rows)) all.0 ∙ ap (λ l. row ∷ l) (all_kept p rows all.1)

-- before the bound all rows are valid
valid_before : (moment least : ℕ) (rows : List RowView) → moment < least → NoneExpiresBefore least rows → AllByRecursion (λ row. is_valid_beyond moment row ≡ true) rows
valid_before moment least [] before all = tt
valid_before moment least (row ∷ rows) before all =
    let later : moment < expiry_of row.1 = omega (arith, before, all.0) in
    (search (rules, later), valid_before moment least rows before all.1)

pub none_dropped : (moment least : ℕ) (rows : List RowView) → moment < least → NoneExpiresBefore least rows → database_after_purge rows moment ≡ rows
none_dropped moment least rows before all = all_kept (is_valid_beyond moment) rows (valid_before moment least rows before all)

-- ---- the rows from a key on

from_order : (o p : Ordering) → p ≡ ordering_reverse o → (is_le o && true) ≡ not (is_lt p)
from_order Less p e = ap (λ o. not (is_lt o)) (sym e)
from_order Equal p e = ap (λ o. not (is_lt o)) (sym e)
from_order Greater p e = ap (λ o. not (is_lt o)) (sym e)

from_one : (q : RowKey) (e : RowKey × Row) → bytes_of e.0 ≡ key_of (row_view e.1) → (is_le (key_cmp q e.0) && true) ≡ not (is_below q (row_view e.1))
from_one q e own =
    from_order (key_cmp q e.0) (slice_cmp nat_cmp (key_of (row_view e.1)) (bytes_of q))
    (ap (λ b. slice_cmp nat_cmp b (bytes_of q)) (sym own) ∙ nat_list_cmp_total.antisymm (bytes_of e.0) (bytes_of q))

pub rows_from : (q : RowKey) (es : List (RowKey × Row)) → AreUnderTheirKeys es → views_of (filter (λ (e : RowKey × Row). is_le (key_cmp q e.0) && true) es) ≡ filter (λ row. not (is_below q row)) (views_of es)
rows_from q [] own = refl
rows_from q (e ∷ es) own =
    let left = filter (λ row. not (is_below q row)) (views_of es) in
    passed_first (is_le (key_cmp q e.0) && true) e (filter (λ (e : RowKey × Row). is_le (key_cmp q e.0) && true) es) left (rows_from q es own.1)
    ∙ ap (λ b. cond b (row_view e.1 ∷ left) left) (from_one q e own.0)

-- ---- the rows under lower keys

module _ (P : RowView → Type 0) where
  pub all_passed : (q : RowKey) (rows : List RowView) → AllByRecursion P rows → AllByRecursion (λ row. is_below q row ≡ true → P row) rows
  all_passed q [] all = tt
  all_passed q (row ∷ rows) all = ((λ below. all.0), all_passed q rows all.1)

  lower_order : (o : Ordering) → is_lt o ≡ true → o ≡ Less
  lower_order Less e = refl
  lower_order Equal e = absurd (false≢true e)
  lower_order Greater e = absurd (false≢true e)

  -- the rows under keys lower than that of a row
  pub passed_under : (q : RowKey) (row : RowView) (rows : List RowView) → bytes_of q ≡ key_of row → AllByRecursion (λ r. key_order r row ≡ Less → P r) rows → AllByRecursion (λ r. is_below q r ≡ true → P r) rows
  passed_under q row [] its all = tt
  passed_under q row (r ∷ rows) its all =
      ((λ below. all.0 (ap (slice_cmp nat_cmp (key_of r)) (sym its) ∙ lower_order (slice_cmp nat_cmp (key_of r) (bytes_of q)) below)), passed_under q row rows its all.1)

-- ---- the rows that a walk has passed

-- the first ones of the rows outlast the walk, and the others are left
pub record HasWalked (all left : List RowView) (moment least : ℕ) : Type 0 where
  pub front : List RowView
  pub split : all ≡ front ++ left
  pub good : AllByRecursion (Outlasts moment least) front

pub walk_begins : (all : List RowView) (moment least : ℕ) → HasWalked all all moment least
walk_begins all moment least = record { front = []; split = refl; good = tt }

outlast_lowered : (moment least lower : ℕ) (rows : List RowView) → lower ≤ least → AllByRecursion (Outlasts moment least) rows → AllByRecursion (Outlasts moment lower) rows
outlast_lowered moment least lower [] le all = tt
outlast_lowered moment least lower (row ∷ rows) le all = ((all.0.0, omega (arith, le, all.0.1)), outlast_lowered moment least lower rows le all.1)

pub last_good : {X : Type 0} (P : X → Type 0) (front : List X) (row : X) → AllByRecursion P front → P row → AllByRecursion P (front ++ row ∷ [])
last_good P [] row all one = (one, tt)
last_good P (r ∷ front) row all one = (all.0, last_good P front row all.1 one)

pub walk_goes_on : (all left : List RowView) (row : RowView) (moment least lower : ℕ) → lower ≤ least → lower ≤ expiry_of row.1 → is_valid_beyond moment row ≡ true → HasWalked all (row ∷ left) moment least → HasWalked all left moment lower
walk_goes_on all left row moment least lower le one valid walked = record {
  front = walked.front ++ row ∷ [];
  split = walked.split ∙ sym (append_assoc walked.front (row ∷ []) left);
  good = last_good (Outlasts moment lower) walked.front row (outlast_lowered moment least lower walked.front le walked.good) (valid, one);
}

pub append_none : {X : Type 0} (xs : List X) → xs ++ [] ≡ xs
append_none [] = refl
append_none (x ∷ xs) = ap (λ l. x ∷ l) (append_none xs)

-- all rows that it has to pass were passed
pub walk_ends : (all left : List RowView) (moment least : ℕ) → left ≡ [] → HasWalked all left moment least → AllByRecursion (Outlasts moment least) all
walk_ends all left moment least none walked =
    subst (AllByRecursion (Outlasts moment least)) (sym (walked.split ∙ ap (λ l. walked.front ++ l) none ∙ append_none walked.front)) walked.good

-- ---- where it stops

module _ (p : RowView → Bool) where
  front_above : (low row : RowView) (front left : List RowView) → AllAbove low (front ++ row ∷ left) → key_order low row ≡ Less
  front_above low row [] left above = above.0
  front_above low row (r ∷ front) left above = front_above low row front left above.1

  -- the first of the rows is below the one at which the walk stops, unless it is that one
  stops_above : (low row : RowView) (rows front left : List RowView) → AllAbove low rows → filter p rows ≡ front ++ row ∷ left → key_order low row ≡ Less
  stops_above low row rows front left above split = front_above low row front left (subst (AllAbove low) split (above_filtered p low rows above))

  found_first : (b : Bool) (r row : RowView) (rows front left : List RowView) → p r ≡ b → IsRising (r ∷ rows) → cond b (r ∷ filter p rows) (filter p rows) ≡ front ++ row ∷ left
      → ((f : List RowView) → filter p rows ≡ f ++ row ∷ left → row_under (key_of row) rows ≡ Some row) → row_under (key_of row) (r ∷ rows) ≡ Some row
  found_first true r row rows [] left passes rising split later = let one : r ≡ row = cc in subst (λ x. row_under (key_of x) (r ∷ rows) ≡ Some x) one (under_first (key_of r) r rows true (under_itself r))
  found_first true r row rows (f ∷ front) left passes rising split later =
      let rest : filter p rows ≡ front ++ row ∷ left = cc in
      under_first (key_of row) r rows false (ap is_eq (turned_less r row (stops_above r row rows front left rising.0 rest))) ∙ later front rest
  found_first false r row rows front left fails rising split later =
      under_first (key_of row) r rows false (ap is_eq (turned_less r row (stops_above r row rows front left rising.0 split))) ∙ later front split

  -- the row at which the walk stops is under its own key
  pub found_in : (rows front left : List RowView) (row : RowView) → IsRising rows → filter p rows ≡ front ++ row ∷ left → row_under (key_of row) rows ≡ Some row
  found_in [] [] left row rising split = absurd (cc)
  found_in [] (f ∷ front) left row rising split = absurd (cc)
  found_in (r ∷ rows) front left row rising split = found_first (p r) r row rows front left refl rising split (λ f s. found_in rows f left row rising.1 s)

  module _ (P : RowView → Type 0) where
    none_lower : (row : RowView) (rows : List RowView) → AllAbove row rows → AllByRecursion (λ r. key_order r row ≡ Less → P r) rows
    none_lower row [] above = tt
    none_lower row (r ∷ rows) above = ((λ e. let back = turned_less row r above.0 in absurd (cc)), none_lower row rows above.1)

    passed_first_one : (b : Bool) (r row : RowView) (rows front left : List RowView) → p r ≡ b → IsRising (r ∷ rows) → cond b (r ∷ filter p rows) (filter p rows) ≡ front ++ row ∷ left
        → (p r ≡ false → P r) → AllByRecursion P front
        → ((f : List RowView) → filter p rows ≡ f ++ row ∷ left → AllByRecursion P f → AllByRecursion (λ x. key_order x row ≡ Less → P x) rows) → AllByRecursion (λ x. key_order x row ≡ Less → P x) (r ∷ rows)
    passed_first_one true r row rows [] left passes rising split before good later =
        let one : r ≡ row = cc in
        subst (λ x. AllByRecursion (λ y. key_order y x ≡ Less → P y) (r ∷ rows)) one ((λ e. let same = under_itself r in let less = ap is_eq e in absurd (false≢true (sym less ∙ same))), none_lower r rows rising.0)
    passed_first_one true r row rows (f ∷ front) left passes rising split before good later =
        let one : f ≡ r = cc in
        let rest : filter p rows ≡ front ++ row ∷ left = cc in
        ((λ e. subst P one good.0), later front rest good.1)
    passed_first_one false r row rows front left fails rising split before good later = ((λ e. before fails), later front split good)

    -- the rows under lower keys than the one at which the walk stops
    pub passed_before : (rows front left : List RowView) (row : RowView) → IsRising rows → filter p rows ≡ front ++ row ∷ left → AllByRecursion (λ r. p r ≡ false → P r) rows → AllByRecursion P front
        → AllByRecursion (λ r. key_order r row ≡ Less → P r) rows
    passed_before [] front left row rising split before good = tt
    passed_before (r ∷ rows) front left row rising split before good =
        passed_first_one (p r) r row rows front left refl rising split before.0 good (λ f s g. passed_before rows f left row rising.1 s before.1 g)

    all_first : (b : Bool) (r : RowView) (rows : List RowView) → p r ≡ b → (p r ≡ false → P r) → AllByRecursion P (cond b (r ∷ filter p rows) (filter p rows)) → (AllByRecursion P (filter p rows) → AllByRecursion P rows) → AllByRecursion P (r ∷ rows)
    all_first true r rows passes before good later = (good.0, later good.1)
    all_first false r rows fails before good later = (before fails, later good)

    -- the rows after a walk that stops nowhere
    pub passed_all : (rows : List RowView) → AllByRecursion (λ r. p r ≡ false → P r) rows → AllByRecursion P (filter p rows) → AllByRecursion P rows
    passed_all [] before good = tt
    passed_all (r ∷ rows) before good = all_first (p r) r rows refl before.0 good (passed_all rows before.1)

-- ---- a row that is dropped

dropped_first : (b : Bool) (k : List ℕ) (moment : ℕ) (r row : RowView) (rows : List RowView) → is_under k r ≡ b → IsRising (r ∷ rows) → (if b then Some r else row_under k rows) ≡ Some row → is_valid_beyond moment row ≡ false
    → (row_under k rows ≡ Some row → database_after_purge (database_after_removal rows k) moment ≡ database_after_purge rows moment)
    → database_after_purge (cond (not b) (r ∷ database_after_removal rows k) (database_after_removal rows k)) moment ≡ database_after_purge (r ∷ rows) moment
dropped_first true k moment r row rows under rising found expired later =
    let one : r ≡ row = cc in
    ap (λ l. database_after_purge l moment) (none_removed k rows (others_behind k r rows under rising.0))
    ∙ sym (ap (λ b. cond b (r ∷ database_after_purge rows moment) (database_after_purge rows moment)) (subst (λ x. is_valid_beyond moment x ≡ false) (sym one) expired))
dropped_first false k moment r row rows under rising found expired later = ap (λ l. cond (is_valid_beyond moment r) (r ∷ l) l) (later found)

-- a purge that has dropped an expired row leaves the same
pub dropped_one : (k : List ℕ) (moment : ℕ) (row : RowView) (rows : List RowView) → IsRising rows → row_under k rows ≡ Some row → is_valid_beyond moment row ≡ false
    → database_after_purge (database_after_removal rows k) moment ≡ database_after_purge rows moment
dropped_one k moment row [] rising found expired = refl
dropped_one k moment row (r ∷ rows) rising found expired =
    dropped_first (is_under k r) k moment r row rows refl rising found expired (λ f. dropped_one k moment row rows rising.1 f expired)

-- where the rows that are left all outlast the walk, a purge drops none of them
outlast_valid : (moment least : ℕ) (rows : List RowView) → AllByRecursion (Outlasts moment least) rows → AllByRecursion (λ row. is_valid_beyond moment row ≡ true) rows
outlast_valid moment least [] all = tt
outlast_valid moment least (row ∷ rows) all = (all.0.0, outlast_valid moment least rows all.1)

pub none_left : (moment least : ℕ) (rows : List RowView) → AllByRecursion (Outlasts moment least) rows → database_after_purge rows moment ≡ rows
none_left moment least rows all = all_kept (is_valid_beyond moment) rows (outlast_valid moment least rows all)

pub outlast_bounded : (moment least : ℕ) (rows : List RowView) → AllByRecursion (Outlasts moment least) rows → NoneExpiresBefore least rows
outlast_bounded moment least [] all = tt
outlast_bounded moment least (row ∷ rows) all = (all.0.1, outlast_bounded moment least rows all.1)
