-- Pages that follow each other: for `laws`.
use Rattle.std.proofs.Common.{◌≡◌, inl, inr, ◌==◌, ℕ, zero, suc, ◌*◌, ◌≤◌, ◌<◌, Bool, true, false, cond, List, [], ◌∷◌, ◌++◌, length, take, drop, Option, Some, None, if◌then◌else◌, refl, sym, ap, ◌∙◌, subst, ltb-true, arith}
use Rattle.std.specs.List.{AllByRecursion, filter, last_or}
use Rattle.std.specs.Option.{option_map}
use Rattle.std.specs.Ordering.{nat_cmp, is_lt, ordering_reverse}
use Rattle.std.specs.Cmp.{IsTotalOrder}
use Rattle.std.specs.Cmp.Lexicographic.{slice_cmp}
use Rattle.std.specs.declared.cmp.Ordering.{Ordering}
use Rattle.std.specs.declared.cmp.Ordering.TheVariants.{Less, Equal, Greater}
use Rattle.std.proofs.lemmas.Bool.{false≢true, and_parts, ltb-false}
use Rattle.std.proofs.lemmas.Bool.Decides.{eqb_tells}
use Rattle.std.proofs.lemmas.Cmp.{nat_list_cmp_total, on_total, tied_itself}
use Rattle.std.proofs.lemmas.List.{length-take, length-append, take-append-drop, append-nil}
use Rattle.std.proofs.lemmas.List.Elements.{filter_agree, filter_passes, recursion_from_All}
use Rattle.seg_core.specs.Registration.{type_number}
use Rattle.seg_core.specs.Digest.{segment_digest}
use Rattle.row_map.specs.Database.{RowView, key, key_of, key_order, IsRising}
use Rattle.row_map.specs.Drops.{is_valid_beyond}
use Rattle.path_db.specs.Answer.{matches, is_shown, answer_of}
use Rattle.row_map.specs.Ranges.{is_after}
use Rattle.seg_lookup.specs.Query.{QueryView}
use Rattle.seg_lookup.specs.Page.{rows_after, wanted_after, has_more}
use Rattle.seg_lookup.specs.PageLaws.{FirstPageIsTheAnswer, PagesFollowEachOther, pages_after, last_id, PagesAreComplete}
use Rattle.seg_lookup.proofs.Shown.{all_kept, all_taken, kept_rise}

-- ---- the last one of a list

last_holds : {X : Type 0} (P : X → Type 0) (x last : X) (xs : List X) → P x → AllByRecursion P xs → last_or (Some x) xs ≡ Some last → P last
last_holds P x last [] one all e = let same : x ≡ last = cc in subst P same one
last_holds P x last (y ∷ xs) one all e = last_holds P y last xs all.0 all.1 e

-- what holds of each one holds of the last one
last_among : {X : Type 0} (P : X → Type 0) (last : X) (xs : List X) → AllByRecursion P xs → last_or None xs ≡ Some last → P last
last_among P last [] all e = absurd (cc)
last_among P last (x ∷ xs) all e = last_holds P x last xs all.0 all.1 e

-- a list that is not empty has a last one
pub record HasLast {X : Type 0} (xs : List X) : Type 0 where
  pub last : X
  pub is : last_or None xs ≡ Some last

last_there : {X : Type 0} (x : X) (xs : List X) → HasLast (x ∷ xs)
last_there x [] = record { last = x; is = refl }
last_there x (y ∷ xs) = let later = last_there y xs in record { last = later.last; is = later.is }

some_last : {X : Type 0} (xs : List X) → 0 < length xs → HasLast xs
some_last [] some = absurd (omega (arith, some))
some_last (x ∷ xs) some = last_there x xs

-- ---- the rows above the last one of the first rows

row_order : IsTotalOrder key_order
row_order = on_total key_of nat_list_cmp_total

-- a row is above this one
abbrev above : RowView → RowView → Bool
above row later = is_lt (key_order row later)

above_first : (p : RowView → Bool) (b : Bool) (row : RowView) (rows : List RowView) → p row ≡ b → filter p (row ∷ rows) ≡ cond b (row ∷ filter p rows) (filter p rows)
above_first p b row rows e = ap (λ b. cond b (row ∷ filter p rows) (filter p rows)) e

all_above : (row : RowView) (rows : List RowView) → AllByRecursion (λ later. key_order row later ≡ Less) rows → filter (above row) rows ≡ rows
all_above row [] all = refl
all_above row (r ∷ rows) all = above_first (above row) true r rows (ap is_lt all.0) ∙ ap (λ l. r ∷ l) (all_above row rows all.1)

above_itself : (row : RowView) → above row row ≡ false
above_itself row = ap is_lt (tied_itself row_order row)

above_lower : (low row : RowView) → key_order low row ≡ Less → above row low ≡ false
above_lower low row less = ap is_lt (row_order.antisymm row low ∙ ap ordering_reverse less)

split_behind : (n : ℕ) (row last : RowView) (rows : List RowView) → IsRising (row ∷ rows) → last_or (Some row) (take n rows) ≡ Some last → filter (above last) (row ∷ rows) ≡ drop n rows
split_behind zero row last rows rising e =
    let same : row ≡ last = cc in
    subst (λ r. filter (above r) (row ∷ rows) ≡ rows) same (above_first (above row) false row rows (above_itself row) ∙ all_above row rows rising.0)
split_behind (suc n) row last [] rising e =
    let same : row ≡ last = cc in
    subst (λ r. filter (above r) (row ∷ []) ≡ []) same (above_first (above row) false row [] (above_itself row))
split_behind (suc n) row last (next ∷ rows) rising e =
    let lower = last_holds (λ later. key_order row later ≡ Less) next last (take n rows) rising.0.0 (all_taken (λ later. key_order row later ≡ Less) n rows rising.0.1) e in
    above_first (above last) false row (next ∷ rows) (above_lower row last lower) ∙ split_behind n next last rows rising.1 e

split_at_last : (n : ℕ) (last : RowView) (rows : List RowView) → IsRising rows → last_or None (take n rows) ≡ Some last → filter (above last) rows ≡ drop n rows
split_at_last zero last rows rising e = absurd (cc)
split_at_last (suc n) last [] rising e = absurd (cc)
split_at_last (suc n) last (row ∷ rows) rising e = split_behind n row last rows rising e

-- ---- three tests, of which the first implies the last

module _ (p w q : RowView → Bool) (implied : (row : RowView) → p row ≡ true → q row ≡ true) where
  kept_step : (a b c : Bool) (row : RowView) (some all : List RowView) → p row ≡ a → w row ≡ b → q row ≡ c → filter p (filter w some) ≡ filter w all
      → filter p (filter w (cond c (row ∷ some) some)) ≡ filter w (cond a (row ∷ all) all)
  kept_step true true true row some all is_p is_w is_q same =
      ap (filter p) (above_first w true row some is_w) ∙ above_first p true row (filter w some) is_p ∙ ap (λ l. row ∷ l) same ∙ sym (above_first w true row all is_w)
  kept_step true false true row some all is_p is_w is_q same = ap (filter p) (above_first w false row some is_w) ∙ same ∙ sym (above_first w false row all is_w)
  kept_step true b false row some all is_p is_w is_q same = absurd (false≢true (sym is_q ∙ implied row is_p))
  kept_step false true true row some all is_p is_w is_q same = ap (filter p) (above_first w true row some is_w) ∙ above_first p false row (filter w some) is_p ∙ same
  kept_step false false true row some all is_p is_w is_q same = ap (filter p) (above_first w false row some is_w) ∙ same
  kept_step false b false row some all is_p is_w is_q same = same

  kept_again : (rows : List RowView) → filter p (filter w (filter q rows)) ≡ filter w (filter p rows)
  kept_again [] = refl
  kept_again (row ∷ rows) = kept_step (p row) (w row) (q row) row (filter q rows) (filter p rows) refl refl refl (kept_again rows)

all_pass : (rows : List RowView) → filter (λ row. true) rows ≡ rows
all_pass [] = refl
all_pass (row ∷ rows) = ap (λ l. row ∷ l) (all_pass rows)

-- ---- the rows after the last one

equal_number : (a b : ℕ) → (a == b) ≡ true → a ≡ b
equal_number a b e = elim (eqb_tells a b) [
  | inl same ↦ same.1
  | inr other ↦ absurd (false≢true (sym other.0 ∙ e))
]

is_less : (o : Ordering) → is_lt o ≡ true → o ≡ Less
is_less Less e = refl
is_less Equal e = absurd (false≢true e)
is_less Greater e = absurd (false≢true e)

module _ (query : QueryView) (now : ℕ) (last : RowView) where
  abbrev wanted : RowView → Bool
  wanted = is_shown query.kind query.start query.end now

  -- a row of the query's type has the key of that type and its id
  typed : wanted last ≡ true → key_of last ≡ key query.kind (segment_digest last.1)
  unfolding key_of
  typed shown =
      let matched = (and_parts (matches query.kind query.start query.end last) (is_valid_beyond now last) shown).0 in
      let kinds = equal_number (type_number last.0) (type_number query.kind) ((and_parts (type_number last.0 == type_number query.kind) _ matched).0) in
      ap (λ n. n ∷ segment_digest last.1) kinds

  after_last : (rows : List RowView) → wanted last ≡ true → filter (above last) rows ≡ filter (is_after query.kind (segment_digest last.1)) rows
  after_last rows shown = filter_agree _ (is_after query.kind (segment_digest last.1)) (λ row. ap (λ k. is_lt (slice_cmp nat_cmp k (key_of row))) (typed shown)) rows

  above_is_after : (id : List ℕ) → is_after query.kind id last ≡ true → (row : RowView) → above last row ≡ true → is_after query.kind id row ≡ true
  above_is_after id after row higher =
      ap is_lt (nat_list_cmp_total.trans (key query.kind id) (key_of last) (key_of row) (is_less (slice_cmp nat_cmp (key query.kind id) (key_of last)) after) (is_less (key_order last row) higher))

  above_wanted : (rows : List RowView) (after : Option (List ℕ)) → IsRising rows → last_or None (take 64 (wanted_after rows query after now)) ≡ Some last → filter (above last) (wanted_after rows query after now) ≡ filter wanted (filter (above last) rows)
  above_wanted rows None rising e = ap (λ l. filter (above last) (filter wanted l)) (sym (all_pass rows)) ∙ kept_again (above last) wanted (λ row. true) (λ row higher. refl) rows
  above_wanted rows (Some id) rising e =
      let later : RowView → Bool = is_after query.kind id in
      let passes = recursion_from_All (λ row. later row ≡ true) (filter later rows) (filter_passes later rows) in
      let after = last_among (λ row. later row ≡ true) last (take 64 (filter wanted (filter later rows))) (all_taken (λ row. later row ≡ true) 64 (filter wanted (filter later rows)) (all_kept (λ row. later row ≡ true) wanted (filter later rows) passes)) e in
      kept_again (above last) wanted later (above_is_after id after) rows

rising_after : (rows : List RowView) (query : QueryView) (after : Option (List ℕ)) → IsRising rows → IsRising (rows_after rows query after)
rising_after rows query None rising = rising
rising_after rows query (Some id) rising = kept_rise (is_after query.kind id) rows rising

-- ---- the laws

pub first_page_is_the_answer : FirstPageIsTheAnswer
first_page_is_the_answer rows query now = refl

pub pages_follow_each_other : PagesFollowEachOther
unfolding answer_of
pages_follow_each_other rows query after now last rising e =
    let wanted : RowView → Bool = is_shown query.kind query.start query.end now in
    let all = wanted_after rows query after now in
    let passes = recursion_from_All (λ row. wanted row ≡ true) all (filter_passes wanted (rows_after rows query after)) in
    let shown = last_among (λ row. wanted row ≡ true) last (take 64 all) (all_taken (λ row. wanted row ≡ true) 64 all passes) e in
    sym (take-append-drop 64 all)
    ∙ ap (λ l. take 64 all ++ l)
    (sym (split_at_last 64 last all (kept_rise wanted (rows_after rows query after) (rising_after rows query after rising)) e)
    ∙ above_wanted query now last rows after rising e ∙ ap (filter wanted) (after_last query now last rows shown))

none_left : (rows : List RowView) → length rows ≤ 0 → [] ≡ rows
none_left [] few = refl
none_left (row ∷ rows) few = absurd (omega (arith, few))

take_few : {X : Type 0} (n : ℕ) (xs : List X) → length xs ≤ n → take n xs ≡ xs
take_few zero [] e = refl
take_few zero (x ∷ xs) e = absurd (omega (arith, e))
take_few (suc n) [] e = refl
take_few (suc n) (x ∷ xs) e = ap (λ l. x ∷ l) (take_few n xs (omega (arith, e)))

module _ (count : ℕ) (rows : List RowView) (query : QueryView) (after : Option (List ℕ)) (now : ℕ) (rising : IsRising rows) (few : length (wanted_after rows query after now) ≤ 64 * suc count)
    (later : (id : Option (List ℕ)) → length (wanted_after rows query id now) ≤ 64 * count → pages_after count rows query id now ≡ wanted_after rows query id now) where
  abbrev all : List RowView
  all = wanted_after rows query after now

  by_more : (b : Bool) → has_more rows query after now ≡ b → take 64 all ++ (if b then pages_after count rows query (last_id (take 64 all)) now else []) ≡ all
  unfolding answer_of
  by_more false e = append-nil (take 64 all) ∙ take_few 64 all (ltb-false 64 (length all) e)
  by_more true e =
      let many = ltb-true 64 (length all) e in
      let there = some_last (take 64 all) (omega (arith, many, length-take 64 all)) in
      let id = segment_digest there.last.1 in
      let follows = pages_follow_each_other rows query after now there.last rising there.is in
      let left : length (wanted_after rows query (Some id) now) ≤ 64 * count = omega (arith, few, many, ap length follows, length-append (take 64 all) (wanted_after rows query (Some id) now), length-take 64 all) in
      ap (λ o. take 64 all ++ pages_after count rows query (option_map (λ (row : RowView). segment_digest row.1) o) now) there.is
      ∙ ap (λ l. take 64 all ++ l) (later (Some id) left) ∙ sym follows

pub pages_are_complete : PagesAreComplete
unfolding pages_after answer_of
pages_are_complete zero rows query after now rising few = none_left (wanted_after rows query after now) (omega (arith, few))
pages_are_complete (suc count) rows query after now rising few =
    by_more count rows query after now rising few (λ id less. pages_are_complete count rows query id now rising less) (has_more rows query after now) refl
