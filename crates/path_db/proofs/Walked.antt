-- The rows at the index keys of one type and one ISD-AS: for `shown_along`.
use Rattle.std.proofs.Common.{◌≡◌, ◌/◌, ◌%◌, ◌^◌, arith, inl, inr, ℕ, Bool, true, false, cond, ◌&&◌, ◌||◌, ◌==◌, List, [], ◌∷◌, ◌++◌, if◌then◌else◌, Option, Some, None, refl, sym, ap, ◌∙◌, subst}
use Rattle.std.specs.List.{AllByRecursion, filter}
use Rattle.std.specs.List.Sorted.{IsStrictlySortedBy}
use Rattle.std.specs.Ordering.{nat_cmp, is_eq, ordering_then}
use Rattle.std.specs.Cmp.Lexicographic.{slice_cmp}
use Rattle.std.specs.Option.{option_to_list}
use Rattle.std.specs.declared.cmp.Ordering.TheVariants.{Less, Equal}
use Rattle.std.proofs.lemmas.Bool.{false≢true}
use Rattle.std.proofs.lemmas.Bool.Decides.{eqb_tells}
use Rattle.std.specs.Cmp.{both_ways}
use Rattle.std.specs.BTreeSet.{BTreeSet}
use Rattle.std.proofs.lemmas.Cmp.{nat_cmp_total, tied_itself}
use Rattle.std.proofs.lemmas.List.Elements.{recursion_from_All}
use Rattle.std.proofs.lemmas.Map.Views.{All-set_contains}
use Rattle.std.proofs.lemmas.Map.Lookups.{exact_bytes}
use Rattle.isd_as.specs.IsdAs.{part_covers, covers_number}
use Rattle.std.specs.Option.{option_map}
use Rattle.seg_core.specs.SegmentView.{EntryView}
use Rattle.seg_core.specs.Registration.{type_number}
use Rattle.seg_core.specs.Digest.{segment_digest}
use Rattle.row_map.specs.IndexKey.{IndexKey, index_key_cmp, is_same, has, stands_at}
use Rattle.row_map.specs.Order.{index_key_total}
use Rattle.row_map.specs.Database.{RowView, key_of, IsRising, is_under, row_under}
use Rattle.row_map.specs.Left.{kept_if}
use Rattle.row_map.specs.RowMap.{indexed_key}
use Rattle.row_map.specs.Saved.{is_key}
use Rattle.row_map.specs.EndKeys.{is_of, ends_at, IsEndIndex}
use Rattle.path_db.specs.Answer.{covers_entry}
use Rattle.path_db.specs.Walk.{IsExact, rows_at, has_key}
use Rattle.row_map.proofs.Exports.{AllAbove, rising_filtered, its_key, equal_from, test_leaves, database_is_canonical, found_is_under, is_key_itself, EndOf, AreSame, same_from, both_from, first_from, second_from, either_from, or_first, or_second, number_itself}

pub equal_number : (a b : ℕ) → (a == b) ≡ true → a ≡ b
equal_number a b e = elim (eqb_tells a b) [
  | inl same ↦ same.1
  | inr other ↦ absurd (false≢true (sym other.0 ∙ e))
]

-- index keys of one type and one ISD-AS are in the order of their keys
key_less : (kind number : ℕ) (p q : IndexKey) → stands_at kind number p ≡ true → stands_at kind number q ≡ true → index_key_cmp p q ≡ Less → slice_cmp nat_cmp (indexed_key p) (indexed_key q) ≡ Less
key_less kind number p q at_p at_q less =
    let p_kind = equal_number p.kind kind (first_from (p.kind == kind) (p.isd_as == number) at_p) in
    let q_kind = equal_number q.kind kind (first_from (q.kind == kind) (q.isd_as == number) at_q) in
    let p_number = equal_number p.isd_as number (second_from (p.kind == kind) (p.isd_as == number) at_p) in
    let q_number = equal_number q.isd_as number (second_from (q.kind == kind) (q.isd_as == number) at_q) in
    let kinds : nat_cmp p.kind q.kind ≡ Equal = subst (λ n. nat_cmp p.kind n ≡ Equal) (p_kind ∙ sym q_kind) (tied_itself nat_cmp_total p.kind) in
    let numbers : nat_cmp p.isd_as q.isd_as ≡ Equal = subst (λ n. nat_cmp p.isd_as n ≡ Equal) (p_number ∙ sym q_number) (tied_itself nat_cmp_total p.isd_as) in
    let ids : slice_cmp nat_cmp p.id q.id ≡ Less =
    sym (ap (λ o. ordering_then o (ordering_then (nat_cmp p.isd_as q.isd_as) (slice_cmp nat_cmp p.id q.id))) kinds ∙ ap (λ o. ordering_then o (slice_cmp nat_cmp p.id q.id)) numbers) ∙ less in
    ap (λ o. ordering_then o (slice_cmp nat_cmp p.id q.id)) kinds ∙ ids

-- ---- the rows rise

module _ (rows : List RowView) (kind number : ℕ) where
  found_key : (q : IndexKey) (r : RowView) → row_under (indexed_key q) rows ≡ Some r → indexed_key q ≡ key_of r
  found_key q r e = its_key (indexed_key q) r (found_is_under (indexed_key q) rows r e)

  above_found : (p q : IndexKey) (row : RowView) (found : Option RowView) (later : List RowView) → key_of row ≡ indexed_key p → row_under (indexed_key q) rows ≡ found → slice_cmp nat_cmp (indexed_key p) (indexed_key q) ≡ Less → AllAbove row later → AllAbove row (option_to_list found ++ later)
  above_found p q row None later its e less above = above
  above_found p q row (Some r) later its e less above =
      (subst (λ k. slice_cmp nat_cmp (key_of row) k ≡ Less) (found_key q r e) (subst (λ k. slice_cmp nat_cmp k (indexed_key q) ≡ Less) (sym its) less), above)

  above_tested : (p q : IndexKey) (row : RowView) (b : Bool) (later : List IndexKey) → stands_at kind number q ≡ b → key_of row ≡ indexed_key p → stands_at kind number p ≡ true → index_key_cmp p q ≡ Less → AllAbove row (rows_at rows later) → AllAbove row (rows_at rows (cond b (q ∷ later) later))
  above_tested p q row true later at_q its at_p less above = above_found p q row (row_under (indexed_key q) rows) (rows_at rows later) its refl (key_less kind number p q at_p at_q less) above
  above_tested p q row false later at_q its at_p less above = above

  above_at : (p : IndexKey) (row : RowView) (index_keys : List IndexKey) → key_of row ≡ indexed_key p → stands_at kind number p ≡ true → AllByRecursion (λ q. index_key_cmp p q ≡ Less) index_keys → AllAbove row (rows_at rows (filter (stands_at kind number) index_keys))
  above_at p row [] its at_p below = tt
  above_at p row (q ∷ index_keys) its at_p below = above_tested p q row (stands_at kind number q) (filter (stands_at kind number) index_keys) refl its at_p below.0 (above_at p row index_keys its at_p below.1)

  rising_found : (q : IndexKey) (found : Option RowView) (later : List RowView) → row_under (indexed_key q) rows ≡ found → ((row : RowView) → key_of row ≡ indexed_key q → AllAbove row later) → IsRising later → IsRising (option_to_list found ++ later)
  rising_found q None later e above rising = rising
  rising_found q (Some r) later e above rising = (above r (sym (found_key q r e)), rising)

  rising_tested : (q : IndexKey) (b : Bool) (later : List IndexKey) → stands_at kind number q ≡ b → (stands_at kind number q ≡ true → (row : RowView) → key_of row ≡ indexed_key q → AllAbove row (rows_at rows later)) → IsRising (rows_at rows later) → IsRising (rows_at rows (cond b (q ∷ later) later))
  rising_tested q true later at_q above rising = rising_found q (row_under (indexed_key q) rows) (rows_at rows later) refl (above at_q) rising
  rising_tested q false later at_q above rising = rising

  rising_at : (index_keys : List IndexKey) → IsStrictlySortedBy index_key_cmp index_keys → IsRising (rows_at rows (filter (stands_at kind number) index_keys))
  unfolding IsStrictlySortedBy
  rising_at [] sorted = tt
  rising_at (q ∷ index_keys) sorted =
      rising_tested q (stands_at kind number q) (filter (stands_at kind number) index_keys) refl (λ at_q row its. above_at q row index_keys its at_q sorted.0) (rising_at index_keys sorted.1)

-- ---- the row under a key

module _ (rows : List RowView) (k : List ℕ) where
  none_else : (b : Bool) (found : Option RowView) → found ≡ None → None ≡ (if b then found else None)
  none_else true found e = sym e
  none_else false found e = refl

  under_found : (q : IndexKey) (found : Option RowView) (later : List RowView) (b c : Bool) → row_under (indexed_key q) rows ≡ found → is_key k (indexed_key q) ≡ b → row_under k later ≡ (if c then row_under k rows else None)
      → row_under k (option_to_list found ++ later) ≡ (if b || c then row_under k rows else None)
  under_found q None later true c e same more =
      let none = ap (λ l. row_under l rows) (exact_bytes k (indexed_key q) (equal_from (slice_cmp nat_cmp k (indexed_key q)) same)) ∙ e in
      more ∙ ap (λ found. if c then found else None) none ∙ sym (none_else c None refl) ∙ sym none
  under_found q None later false c e same more = more
  under_found q (Some r) later b c e same more =
      let its = its_key (indexed_key q) r (found_is_under (indexed_key q) rows r e) in
      let under : is_under k r ≡ b = subst (λ l. is_eq (slice_cmp nat_cmp k l) ≡ b) its same in
      first_under b under same
    where
      first_under : (b : Bool) → is_under k r ≡ b → is_key k (indexed_key q) ≡ b → (if is_under k r then Some r else row_under k later) ≡ (if b || c then row_under k rows else None)
      first_under true under same =
          ap (λ b. if b then Some r else row_under k later) under ∙ sym (ap (λ l. row_under l rows) (exact_bytes k (indexed_key q) (equal_from (slice_cmp nat_cmp k (indexed_key q)) same)) ∙ e)
      first_under false under same = ap (λ b. if b then Some r else row_under k later) under ∙ more

  under_at : (index_keys : List IndexKey) → row_under k (rows_at rows index_keys) ≡ (if has_key k index_keys then row_under k rows else None)
  under_at [] = refl
  under_at (q ∷ index_keys) = under_found q (row_under (indexed_key q) rows) (rows_at rows index_keys) (is_key k (indexed_key q)) (has_key k index_keys) refl refl (under_at index_keys)

-- ---- the rows at the index keys

-- each of the index keys is in the list
pub all_there : (index_keys : List IndexKey) → AllByRecursion (λ x. has index_keys x ≡ true) index_keys
all_there index_keys =
    let set : BTreeSet IndexKey = record { keys = index_keys } in
    recursion_from_All (λ x. has index_keys x ≡ true) index_keys (All-set_contains index_key_total set)

-- the index keys that pass a test have the key of an index key that passes it
module _ (k : List ℕ) (test : IndexKey → Bool) (moves : (q x : IndexKey) → AreSame q x → test q ≡ true → test x ≡ true) where
  same_tested : (q x : IndexKey) (b : Bool) (later : List IndexKey) → AreSame q x → test q ≡ true → is_key k (indexed_key q) ≡ true → test x ≡ b → has_key k (cond b (x ∷ later) later) ≡ true
  same_tested q x true later same at key e = or_first (is_key k (indexed_key x)) (has_key k later) (rw (← same.kind, ← same.id) key)
  same_tested q x false later same at key e = absurd (false≢true (sym e ∙ moves q x same at))

  later_tested : (x : IndexKey) (b : Bool) (later : List IndexKey) → has_key k later ≡ true → has_key k (cond b (x ∷ later) later) ≡ true
  later_tested x true later e = or_second (is_key k (indexed_key x)) (has_key k later) e
  later_tested x false later e = e

  pub key_there : (q : IndexKey) (xs : List IndexKey) → has xs q ≡ true → test q ≡ true → is_key k (indexed_key q) ≡ true → has_key k (filter test xs) ≡ true
  key_there q [] e at key = absurd (false≢true e)
  key_there q (x ∷ xs) e at key = elim (either_from (is_same q x) (has xs q) e) [
    | inl same ↦ same_tested q x (test x) (filter test xs) (same_from q x same) at key refl
    | inr later ↦ later_tested x (test x) (filter test xs) (key_there q xs later at key)
  ]

module _ (end : EndOf) (rows : List RowView) (index_keys : List IndexKey) (kind number : ℕ) (index : IsEndIndex end rows index_keys) where
  -- a row of the type, with this ISD-AS at its end
  abbrev is_there : RowView → Bool
  is_there row = (type_number row.0 == kind) && is_of (end row.1.entries) number

  module _ (k : List ℕ) (r : RowView) (there : row_under k rows ≡ Some r) where
    key_is_its : k ≡ key_of r
    key_is_its = its_key k r (found_is_under k rows r there)

    its_index_key : IndexKey
    its_index_key = record { kind = type_number r.0; isd_as = number; id = segment_digest r.1; row = Some r }

    from_row : is_there r ≡ true → has_key k (filter (stands_at kind number) index_keys) ≡ true
    unfolding key_of its_index_key
    from_row e =
        let kinds = first_from (type_number r.0 == kind) (is_of (end r.1.entries) number) e in
        let of = second_from (type_number r.0 == kind) (is_of (end r.1.entries) number) e in
        let found = subst (λ l. row_under l rows ≡ Some r) key_is_its there in
        key_there k (stands_at kind number) (λ q x same at. rw (← same.kind, ← same.isd_as) at) its_index_key index_keys (index its_index_key ∙ ap (ends_at end number) found ∙ of) (both_from (type_number r.0 == kind) (number == number) kinds (number_itself number))
        (subst (λ l. is_key k l ≡ true) key_is_its (is_key_itself k))

    of_index_key : (x : IndexKey) → has index_keys x ≡ true → stands_at kind number x ≡ true → is_key k (indexed_key x) ≡ true → is_there r ≡ true
    unfolding key_of
    of_index_key x among at key =
        let same : k ≡ indexed_key x = exact_bytes k (indexed_key x) (equal_from (slice_cmp nat_cmp k (indexed_key x)) key) in
        let x_kind = equal_number x.kind kind (first_from (x.kind == kind) (x.isd_as == number) at) in
        let x_number = equal_number x.isd_as number (second_from (x.kind == kind) (x.isd_as == number) at) in
        let stands_so = sym (index x) ∙ among in
        let found = subst (λ l. row_under l rows ≡ Some r) same there in
        let of : is_of (end r.1.entries) x.isd_as ≡ true = subst (λ o. ends_at end x.isd_as o ≡ true) found stands_so in
        let keys : x.kind ∷ x.id ≡ type_number r.0 ∷ segment_digest r.1 = sym same ∙ key_is_its in
        let kinds : x.kind ≡ type_number r.0 = cc in
        both_from (type_number r.0 == kind) (is_of (end r.1.entries) number) (subst (λ n. (n == kind) ≡ true) (sym x_kind ∙ kinds) (number_itself kind)) (subst (λ n. is_of (end r.1.entries) n ≡ true) x_number of)

    tested_row : (x : IndexKey) (b : Bool) (later : List IndexKey) → has index_keys x ≡ true → stands_at kind number x ≡ b → (has_key k later ≡ true → is_there r ≡ true) → has_key k (cond b (x ∷ later) later) ≡ true → is_there r ≡ true
    tested_row x true later among at more e = elim (either_from (is_key k (indexed_key x)) (has_key k later) e) [
      | inl key ↦ of_index_key x among at key
      | inr so ↦ more so
    ]
    tested_row x false later among at more e = more e

    to_row : (xs : List IndexKey) → AllByRecursion (λ x. has index_keys x ≡ true) xs → has_key k (filter (stands_at kind number) xs) ≡ true → is_there r ≡ true
    to_row [] all e = absurd (false≢true e)
    to_row (x ∷ xs) all e = tested_row x (stands_at kind number x) (filter (stands_at kind number) xs) all.0 refl (to_row xs all.1) e

  neither : (b : Bool) → if◌then◌else◌ {A = Option RowView} b None None ≡ None
  neither true = refl
  neither false = refl

  kept_at : (k : List ℕ) (found : Option RowView) → row_under k rows ≡ found → (if has_key k (filter (stands_at kind number) index_keys) then found else None) ≡ kept_if is_there found
  kept_at k None e = neither (has_key k (filter (stands_at kind number) index_keys))
  kept_at k (Some r) e =
      ap (λ b. if b then Some r else None) (both_ways (has_key k (filter (stands_at kind number) index_keys)) (is_there r) (to_row k r e index_keys (all_there index_keys)) (from_row k r e))

  pub walked : IsRising rows → IsStrictlySortedBy index_key_cmp index_keys → rows_at rows (filter (stands_at kind number) index_keys) ≡ filter (λ row. (type_number row.0 == kind) && is_of (end row.1.entries) number) rows
  walked rising sorted =
      database_is_canonical (rows_at rows (filter (stands_at kind number) index_keys)) (filter is_there rows) (rising_at rows kind number index_keys sorted) (rising_filtered is_there rows rising)
      (λ k. under_at rows k (filter (stands_at kind number) index_keys) ∙ kept_at k (row_under k rows) refl ∙ sym (test_leaves k is_there rows rising))

-- ---- the rows among them that a lookup asks for

pub part_exact : (p n : ℕ) (b : Bool) → (p == 0) ≡ b → b ≡ false → part_covers p n ≡ true → p ≡ n
part_exact p n true e none covers = absurd (false≢true (sym none))
part_exact p n false e none covers = equal_number p n (sym (ap (λ b. b || (p == n)) e) ∙ covers)

or_false_first : (a b : Bool) → (a || b) ≡ false → a ≡ false
or_false_first true b e = e
or_false_first false b e = refl

or_false_second : (a b : Bool) → (a || b) ≡ false → b ≡ false
or_false_second true b e = absurd (false≢true (sym e))
or_false_second false b e = e

-- an exact pattern covers one number alone
exact_number : (pattern number : ℕ) → IsExact pattern → covers_number pattern number ≡ true → number ≡ pattern
exact_number pattern number exact covers =
    let high = part_exact (pattern / 2 ^ 48) (number / 2 ^ 48) (pattern / 2 ^ 48 == 0) refl (or_false_first (pattern / 2 ^ 48 == 0) (pattern % 2 ^ 48 == 0) exact.parts) (first_from (part_covers (pattern / 2 ^ 48) (number / 2 ^ 48)) (part_covers (pattern % 2 ^ 48) (number % 2 ^ 48)) covers) in
    let low = part_exact (pattern % 2 ^ 48) (number % 2 ^ 48) (pattern % 2 ^ 48 == 0) refl (or_false_second (pattern / 2 ^ 48 == 0) (pattern % 2 ^ 48 == 0) exact.parts) (second_from (part_covers (pattern / 2 ^ 48) (number / 2 ^ 48)) (part_covers (pattern % 2 ^ 48) (number % 2 ^ 48)) covers) in
    omega (arith, high, low)

pub exact_entry : (pattern : ℕ) (o : Option EntryView) → IsExact pattern → covers_entry pattern o ≡ true → is_of (option_map (λ e. e.ia) o) pattern ≡ true
exact_entry pattern None exact covers = absurd (false≢true covers)
exact_entry pattern (Some e) exact covers = subst (λ n. (n == pattern) ≡ true) (sym (exact_number pattern e.ia exact covers)) (number_itself pattern)

-- a test that implies another selects the same rows after the other
module _ (w p : RowView → Bool) (implied : (row : RowView) → w row ≡ true → p row ≡ true) where
  implied_tested : (row : RowView) (b c : Bool) (left all : List RowView) → p row ≡ b → w row ≡ c → filter w left ≡ filter w all → filter w (cond b (row ∷ left) left) ≡ cond c (row ∷ filter w all) (filter w all)
  implied_tested row true c left all e f same = ap (λ b. cond b (row ∷ filter w left) (filter w left)) f ∙ ap (λ l. cond c (row ∷ l) l) same
  implied_tested row false true left all e f same = absurd (false≢true (sym e ∙ implied row f))
  implied_tested row false false left all e f same = same

  pub implied_kept : (rows : List RowView) → filter w (filter p rows) ≡ filter w rows
  implied_kept [] = refl
  implied_kept (row ∷ rows) = implied_tested row (p row) (w row) (filter p rows) rows refl refl (implied_kept rows)
