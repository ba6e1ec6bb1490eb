-- The index keys of rows: for `end_keys`.
use Rattle.std.proofs.Common.{◌≡◌, ◌-◌, ◌+◌, zero, length, get_or, take, drop, arith, ◌⊎◌, inl, inr, ℕ, suc, ◌<◌, Bool, true, false, not, ◌&&◌, ◌||◌, ◌==◌, List, [], ◌∷◌, ◌++◌, Option, Some, None, refl, sym, ap, ◌∙◌, subst, if◌then◌else◌}
use Rattle.std.specs.Ordering.{nat_cmp, is_eq, ordering_then}
use Rattle.std.specs.Cmp.Lexicographic.{slice_cmp}
use Rattle.std.specs.Cmp.{tied_then}
use Rattle.std.specs.List.{AllByRecursion}
use Rattle.std.specs.Option.{option_map}
use Rattle.std.proofs.lemmas.Bool.{false≢true}
use Rattle.std.proofs.lemmas.Bool.Decides.{eqb_tells}
use Rattle.std.proofs.lemmas.Map.Lookups.{exact_bytes, exact_unsigned}
use Rattle.std.proofs.lemmas.Option.{slice_get-get_or}
use Rattle.isd_as.specs.IsdAs.{isd_as_number}
use Rattle.seg_core.specs.declared.entry.Entry.{Entry}
use Rattle.seg_core.specs.EntryView.{entry_view, entry_views}
use Rattle.seg_core.specs.Digest.{segment_digest}
use Rattle.seg_core.specs.Registration.{type_number}
use Rattle.seg_core.specs.Message.{last_of}
use Rattle.std.proofs.lemmas.Cmp.{nat_cmp_total, nat_list_cmp_total, tied_itself}
use Rattle.std.proofs.lemmas.List.{map-append}
use Rattle.std.proofs.lemmas.List.Folds.{list_any-append}
use Rattle.std.proofs.Math.Seq.{take-suc, drop-cons}
use Rattle.seg_core.specs.SegmentView.{EntryView}
use Rattle.row_map.specs.IndexKey.{IndexKey, is_same, has, AreKnown}
use Rattle.row_map.specs.declared.row.Row.{Row}
use Rattle.row_map.specs.Database.{RowView, key_of, is_under, row_under}
use Rattle.row_map.specs.Row.{row_view, row_views}
use Rattle.row_map.specs.RowMap.{indexed_key}
use Rattle.row_map.specs.declared.end.By.{By}
use Rattle.row_map.specs.declared.end.By.TheVariants.{OneEnd, BothEnds}
use Rattle.row_map.specs.declared.end.End.TheVariants.{First, Last}
use Rattle.row_map.specs.Ends.{first_entry_of}
use Rattle.row_map.specs.EndKeys.{index_number, isds_number, isds_of, is_of, is_index_key, ends_at, stands, row_of_key, EndAlike, IsSeenTo, AreSeenTo, IsRowOf, IsCovered, IsRowIndex, IsIndexGrown, IsAlike}
use Rattle.row_map.specs.Saved.{Stood}
use Rattle.row_map.proofs.Found.{under_itself}
use Rattle.row_map.proofs.Keys.{its_key, equal_from}
use Rattle.row_map.proofs.Ends.{last_seen}
use Rattle.row_map.proofs.PutRow.{found_is_under}

-- the type of what an index has rows by: a number of a list of entries
abbrev pub EndOf : Type 0
EndOf = List EntryView → Option ℕ

-- ---- tests

pub both_from : (a b : Bool) → a ≡ true → b ≡ true → (a && b) ≡ true
both_from a b e f = ap (λ a. a && b) e ∙ f

pub first_from : (a b : Bool) → (a && b) ≡ true → a ≡ true
first_from true b e = refl
first_from false b e = e

pub second_from : (a b : Bool) → (a && b) ≡ true → b ≡ true
second_from true b e = e
second_from false b e = absurd (false≢true e)

pub either_from : (a b : Bool) → (a || b) ≡ true → (a ≡ true) ⊎ (b ≡ true)
either_from true b e = inl refl
either_from false b e = inr e

pub or_second : (a b : Bool) → b ≡ true → (a || b) ≡ true
or_second true b e = refl
or_second false b e = e

pub or_first : (a b : Bool) → a ≡ true → (a || b) ≡ true
or_first a b e = ap (λ a. a || b) e

-- two tests that pass for the same are the same
pub both_ways : (a b : Bool) → (a ≡ true → b ≡ true) → (b ≡ true → a ≡ true) → a ≡ b
both_ways true b there back = sym (there refl)
both_ways false true there back = back refl
both_ways false false there back = refl

-- ---- one index key

-- the index key that is made of a row is the row's index key
pub index_key_is : (end : EndOf) (number : ℕ) (row : Row) → is_of (end row.segment.entries) number ≡ true
    → is_index_key end (record { kind = type_number row.kind; isd_as = number; id = segment_digest row.segment; row = Some (row_view row) }) (row_view row) ≡ true
unfolding key_of
index_key_is end number row says =
    both_from (is_under (key_of (row_view row)) (row_view row)) (is_of (end row.segment.entries) number) (under_itself (row_view row)) says

-- the parts of two index keys that are the same
pub record AreSame (p q : IndexKey) : Type 0 where
  pub kind : p.kind ≡ q.kind
  pub isd_as : p.isd_as ≡ q.isd_as
  pub id : p.id ≡ q.id

equal_numbers : (m n : ℕ) → m ≡ n → is_eq (nat_cmp m n) ≡ true
equal_numbers m n e = subst (λ k. is_eq (nat_cmp m k) ≡ true) e (ap is_eq (tied_itself nat_cmp_total m))

equal_ids : (l k : List ℕ) → l ≡ k → is_eq (slice_cmp nat_cmp l k) ≡ true
equal_ids l k e = subst (λ m. is_eq (slice_cmp nat_cmp l m) ≡ true) e (ap is_eq (tied_itself nat_list_cmp_total l))

-- the test by its three parts
parts : (p q : IndexKey) → is_same p q ≡ (is_eq (nat_cmp p.kind q.kind) && (is_eq (nat_cmp p.isd_as q.isd_as) && is_eq (slice_cmp nat_cmp p.id q.id)))
parts p q =
    sym (tied_then (nat_cmp p.kind q.kind) (ordering_then (nat_cmp p.isd_as q.isd_as) (slice_cmp nat_cmp p.id q.id)))
    ∙ ap (λ b. is_eq (nat_cmp p.kind q.kind) && b) (sym (tied_then (nat_cmp p.isd_as q.isd_as) (slice_cmp nat_cmp p.id q.id)))

pub same_if : (p q : IndexKey) → AreSame p q → is_same p q ≡ true
same_if p q same =
    parts p q
    ∙ both_from (is_eq (nat_cmp p.kind q.kind)) (is_eq (nat_cmp p.isd_as q.isd_as) && is_eq (slice_cmp nat_cmp p.id q.id)) (equal_numbers p.kind q.kind same.kind)
    (both_from (is_eq (nat_cmp p.isd_as q.isd_as)) (is_eq (slice_cmp nat_cmp p.id q.id)) (equal_numbers p.isd_as q.isd_as same.isd_as) (equal_ids p.id q.id same.id))

pub same_from : (p q : IndexKey) → is_same p q ≡ true → AreSame p q
same_from p q e =
    let all = sym (parts p q) ∙ e in
    let more = second_from (is_eq (nat_cmp p.kind q.kind)) (is_eq (nat_cmp p.isd_as q.isd_as) && is_eq (slice_cmp nat_cmp p.id q.id)) all in
    record {
      kind = exact_unsigned p.kind q.kind (equal_from (nat_cmp p.kind q.kind) (first_from (is_eq (nat_cmp p.kind q.kind)) (is_eq (nat_cmp p.isd_as q.isd_as) && is_eq (slice_cmp nat_cmp p.id q.id)) all));
      isd_as = exact_unsigned p.isd_as q.isd_as (equal_from (nat_cmp p.isd_as q.isd_as) (first_from (is_eq (nat_cmp p.isd_as q.isd_as)) (is_eq (slice_cmp nat_cmp p.id q.id)) more));
      id = exact_bytes p.id q.id (equal_from (slice_cmp nat_cmp p.id q.id) (second_from (is_eq (nat_cmp p.isd_as q.isd_as)) (is_eq (slice_cmp nat_cmp p.id q.id)) more));
    }

same_itself : (p : IndexKey) → is_same p p ≡ true
same_itself p = same_if p p (record { kind = refl; isd_as = refl; id = refl })

joined : (p q r : IndexKey) → AreSame p q → AreSame q r → AreSame p r
joined p q r one other = record { kind = one.kind ∙ other.kind; isd_as = one.isd_as ∙ other.isd_as; id = one.id ∙ other.id }

-- ---- the number by which an index has a row

number_from : (m n : ℕ) → (m == n) ≡ true → m ≡ n
number_from m n e = elim (eqb_tells m n) [
  | inl same ↦ same.1
  | inr other ↦ absurd (false≢true (sym other.0 ∙ e))
]

same_entry : (o : Option ℕ) (m n : ℕ) → is_of o m ≡ true → is_of o n ≡ true → m ≡ n
same_entry None m n e f = absurd (false≢true e)
same_entry (Some x) m n e f = sym (number_from x m e) ∙ number_from x n f

pub number_itself : (n : ℕ) → (n == n) ≡ true
number_itself n = elim (eqb_tells n n) [
  | inl same ↦ same.0
  | inr other ↦ absurd (other.1 refl)
]

-- the ISD-AS of an entry
abbrev ia_of : Option EntryView → Option ℕ
ia_of entry = option_map (λ e. e.ia) entry

pub last_is : (entries : List Entry) (d : Entry) → 0 < length entries → is_of (ia_of (last_of (entry_views entries))) (isd_as_number (get_or entries (length entries - 1) d).ia) ≡ true
last_is entries d some =
    let i = length entries - 1 in
    let there : last_of (entry_views entries) ≡ Some (entry_view (get_or entries i d)) = sym (last_seen entry_view entries) ∙ ap (option_map entry_view) (slice_get-get_or entries i d (omega (arith, some))) in
    ap (λ o. is_of (ia_of o) (isd_as_number (get_or entries i d).ia)) there ∙ number_itself (isd_as_number (get_or entries i d).ia)

-- the ISDs of two entries are those of their ISD-ASes
both_of : (first last : Option EntryView) (m n : ℕ) → is_of (ia_of first) m ≡ true → is_of (ia_of last) n ≡ true → is_of (isds_of first last) (isds_number m n) ≡ true
both_of None last m n e f = absurd (false≢true e)
both_of (Some x) None m n e f = absurd (false≢true f)
both_of (Some x) (Some y) m n e f =
    ap (λ a. isds_number a y.ia == isds_number m n) (number_from x.ia m e)
    ∙ ap (λ a. isds_number m a == isds_number m n) (number_from y.ia n f)
    ∙ number_itself (isds_number m n)

pub both_ends : (entries : List EntryView) (m n : ℕ) → is_of (index_number (OneEnd First) entries) m ≡ true → is_of (index_number (OneEnd Last) entries) n ≡ true → is_of (index_number BothEnds entries) (isds_number m n) ≡ true
both_ends entries m n = both_of (first_entry_of entries) (last_of entries) m n

-- rows that are alike at each end are alike by all
pub alike_by : (new old : RowView) → EndAlike (index_number (OneEnd First)) new old → EndAlike (index_number (OneEnd Last)) new old → (by : By) → EndAlike (index_number by) new old
alike_by new old first last (OneEnd First) = first
alike_by new old first last (OneEnd Last) = last
alike_by new old first last BothEnds =
    (isds_number first.0 last.0, both_ends new.1.entries first.0 last.0 first.1 last.1, both_ends old.1.entries first.0 last.0 first.2 last.2)

-- a row of another number is not alike
pub unlike : (end : EndOf) (new old : RowView) (m n : ℕ) → is_of (end new.1.entries) m ≡ true → is_of (end old.1.entries) n ≡ true → (m == n) ≡ false → ¬ EndAlike end new old
unlike end new old m n its others other alike =
    let same : m ≡ n = same_entry (end new.1.entries) m alike.0 its alike.1 ∙ same_entry (end old.1.entries) alike.0 n alike.2 others in
    false≢true (sym other ∙ ap (λ k. m == k) (sym same) ∙ number_itself m)

-- a row of which an absent one or another is said to be alike
pub alike_none : (end : EndOf) (new : RowView) (stood : Option RowView) → stood ≡ None → ¬ IsAlike end new stood
alike_none end new stood none alike =
    let never : None ≡ Some alike.0 = sym none ∙ alike.1 in
    absurd (cc)

pub alike_there : (end : EndOf) (new old : RowView) (stood : Option RowView) → stood ≡ Some old → IsAlike end new stood → EndAlike end new old
alike_there end new old stood there alike =
    let both : Some alike.0 ≡ Some old = sym alike.1 ∙ there in
    let is : alike.0 ≡ old = cc in
    subst (EndAlike end new) is alike.2

-- ---- index keys of rows

-- a row has one index key
pub one_index_key : (end : EndOf) (p q : IndexKey) (row : RowView) → is_index_key end p row ≡ true → is_index_key end q row ≡ true → AreSame p q
one_index_key end p q row e f =
    let keys : indexed_key p ≡ indexed_key q =
    its_key (indexed_key p) row (first_from (is_under (indexed_key p) row) (is_of (end row.1.entries) p.isd_as) e)
    ∙ sym (its_key (indexed_key q) row (first_from (is_under (indexed_key q) row) (is_of (end row.1.entries) q.isd_as) f)) in
    let number = same_entry (end row.1.entries) p.isd_as q.isd_as (second_from (is_under (indexed_key p) row) (is_of (end row.1.entries) p.isd_as) e) (second_from (is_under (indexed_key q) row) (is_of (end row.1.entries) q.isd_as) f) in
    record { kind = cc; isd_as = number; id = cc }

-- a longer list has the index keys of a shorter one
has_more : (q p : IndexKey) (index_keys : List IndexKey) → has index_keys q ≡ true → has (index_keys ++ p ∷ []) q ≡ true
has_more q p index_keys e = list_any-append (is_same q) index_keys (p ∷ []) ∙ ap (λ b. b || has (p ∷ []) q) e

has_last : (q p : IndexKey) (index_keys : List IndexKey) → is_same q p ≡ true → has (index_keys ++ p ∷ []) q ≡ true
has_last q p index_keys e = list_any-append (is_same q) index_keys (p ∷ []) ∙ ap (λ b. has index_keys q || (b || false)) e ∙ or_true (has index_keys q)
  where
    or_true : (b : Bool) → (b || true) ≡ true
    or_true true = refl
    or_true false = refl

-- the same index key is in the same lists
has_same : (p q : IndexKey) (index_keys : List IndexKey) → AreSame p q → has index_keys p ≡ has index_keys q
has_same p q [] same = refl
has_same p q (first ∷ index_keys) same =
    let one : is_same p first ≡ is_same q first = rw (same.kind, same.isd_as, same.id) refl in
    ap (λ b. b || has index_keys p) one ∙ ap (λ b. is_same q first || b) (has_same p q index_keys same)

-- what holds of each index key of a list
pub all_of_keys : (P Q : IndexKey → Type 0) (index_keys : List IndexKey) → ((q : IndexKey) → has index_keys q ≡ true → P q → Q q) → AllByRecursion P index_keys → AllByRecursion Q index_keys
all_of_keys P Q [] one all = tt
all_of_keys P Q (p ∷ index_keys) one all = (
  one p (or_first (is_same p p) (has index_keys p) (same_itself p)) all.0,
  all_of_keys P Q index_keys (λ q e. one q (or_second (is_same q p) (has index_keys q) e)) all.1,
)

-- ---- loops over index keys and rows

pub taken_more : {X : Type 0} (xs : List X) (i : ℕ) (x : X) → i < length xs → x ≡ get_or xs i x → take (i + 1) xs ≡ take i xs ++ x ∷ []
taken_more xs i x lt is = let next : i + 1 ≡ suc i = omega arith in ap (λ n. take n xs) next ∙ take-suc xs i x lt ∙ ap (λ y. take i xs ++ y ∷ []) (sym is)

pub views_more : (rows : List Row) (i : ℕ) (row : Row) → i < length rows → row ≡ get_or rows i row → row_views (take (i + 1) rows) ≡ row_views (take i rows) ++ row_view row ∷ []
views_more rows i row lt is = ap row_views (taken_more rows i row lt is) ∙ map-append row_view (take i rows) (row ∷ [])

pub dropped_less : {X : Type 0} (xs : List X) (i : ℕ) (x : X) → i < length xs → x ≡ get_or xs i x → drop i xs ≡ x ∷ drop (i + 1) xs
dropped_less xs i x lt is = let next : suc i ≡ i + 1 = omega arith in drop-cons xs i x lt ∙ ap (λ y. y ∷ drop (suc i) xs) (sym is) ∙ ap (λ n. x ∷ drop n xs) next

has_taken : (q : IndexKey) (i : ℕ) (index_keys : List IndexKey) → has (take i index_keys) q ≡ true → has index_keys q ≡ true
has_taken q zero index_keys e = absurd (false≢true e)
has_taken q (suc i) [] e = e
has_taken q (suc i) (p ∷ index_keys) e = elim (either_from (is_same q p) (has (take i index_keys) q) e) [
  | inl same ↦ or_first (is_same q p) (has index_keys q) same
  | inr later ↦ or_second (is_same q p) (has index_keys q) (has_taken q i index_keys later)
]

-- what is known of the rows is still known, but for those at touched index keys
abbrev pub KeepsKnown : List IndexKey → List IndexKey → List IndexKey → Type 0
KeepsKnown touched before after =
    (known : IndexKey → Bool) (row : IndexKey → Option RowView) → ((q : IndexKey) → has touched q ≡ true → known q ≡ true) → AreKnown known row before → AreKnown known row after

-- an index key is added
module _ (start now after touched : List IndexKey) (i : ℕ) (p : IndexKey) (lt : i < length touched) (is : p ≡ get_or touched i p) (ok : (q : IndexKey) → has after q ≡ (is_same q p || has now q)) where
  pub kept_by_add : ((q : IndexKey) → has start q ≡ true → has now q ≡ true) → (q : IndexKey) → has start q ≡ true → has after q ≡ true
  kept_by_add kept q e = ok q ∙ or_second (is_same q p) (has now q) (kept q e)

  pub within_by_add : ((q : IndexKey) → has now q ≡ true → (has start q ≡ true) ⊎ (has (take i touched) q ≡ true)) → (q : IndexKey) → has after q ≡ true → (has start q ≡ true) ⊎ (has (take (i + 1) touched) q ≡ true)
  within_by_add within q e = elim (either_from (is_same q p) (has now q) (sym (ok q) ∙ e)) [
    | inl same ↦ inr (ap (λ l. has l q) (taken_more touched i p lt is) ∙ has_last q p (take i touched) same)
    | inr old ↦ elim (within q old) [
      | inl first ↦ inl first
      | inr taken ↦ inr (ap (λ l. has l q) (taken_more touched i p lt is) ∙ has_more q p (take i touched) taken)
    ]
  ]

  pub done_by_add : ((q : IndexKey) → has (take i touched) q ≡ true → has now q ≡ true) → (q : IndexKey) → has (take (i + 1) touched) q ≡ true → has after q ≡ true
  done_by_add done q e = elim (either_from (has (take i touched) q) (is_same q p || false) (sym (ap (λ l. has l q) (taken_more touched i p lt is) ∙ list_any-append (is_same q) (take i touched) (p ∷ [])) ∙ e)) [
    | inl taken ↦ ok q ∙ or_second (is_same q p) (has now q) (done q taken)
    | inr last ↦ elim (either_from (is_same q p) false last) [
      | inl same ↦ ok q ∙ or_first (is_same q p) (has now q) same
      | inr never ↦ absurd (false≢true never)
    ]
  ]

  pub known_by_add : ((known : IndexKey → Bool) (row : IndexKey → Option RowView) → AreKnown known row now → (known p ≡ true) ⊎ (p.row ≡ row p) → AreKnown known row after) → KeepsKnown (take i touched) start now
      → KeepsKnown (take (i + 1) touched) start after
  known_by_add rows keeps known row all before =
      rows known row (keeps known row (λ q e. all q (ap (λ l. has l q) (taken_more touched i p lt is) ∙ has_more q p (take i touched) e)) before)
      (inl (all p (ap (λ l. has l p) (taken_more touched i p lt is) ∙ has_last p p (take i touched) (same_itself p))))

-- what the first touched index keys have done is done by all of them
pub grown_by_taken : (touched before after : List IndexKey) (i : ℕ) → ((q : IndexKey) → has before q ≡ true → has after q ≡ true)
    → ((q : IndexKey) → has after q ≡ true → (has before q ≡ true) ⊎ (has (take i touched) q ≡ true)) → KeepsKnown (take i touched) before after → IsIndexGrown touched before after
grown_by_taken touched before after i kept within keeps = record {
  kept = kept;
  within = λ q e. elim (within q e) [
    | inl first ↦ inl first
    | inr taken ↦ inr (has_taken q i touched taken)
  ];
  rows = λ known row all. keeps known row (λ q e. all q (has_taken q i touched e));
}

-- ---- settling

stands_same : (end : EndOf) (rows : List RowView) (p q : IndexKey) → AreSame p q → stands end rows p ≡ stands end rows q
stands_same end rows p q same = rw (same.kind, same.isd_as, same.id) refl

row_same : (rows : List RowView) (p q : IndexKey) → AreSame p q → row_of_key rows p ≡ row_of_key rows q
row_same rows p q same = rw (same.kind, same.id) refl

and_not : (b c : Bool) → b ≡ true → (not b && c) ≡ false
and_not b c e = ap (λ b. not b && c) e

module _ (end : EndOf) (rows : List RowView) (now rest : List IndexKey) (p : IndexKey) (all : IsCovered end rows (p ∷ rest) now) where
  -- a touched index key that is another than the first is one of the rest
  is_later : (r q : IndexKey) → AreSame p r → (has (p ∷ rest) q && not (is_same q r)) ≡ true → has rest q ≡ true
  is_later r q same e = elim (either_from (is_same q p) (has rest q) (first_from (has (p ∷ rest) q) (not (is_same q r)) e)) [
    | inl first ↦
        let it = same_if q r (joined q p r (same_from q p first) same) in
        absurd (false≢true (sym (ap not it) ∙ second_from (has (p ∷ rest) q) (not (is_same q r)) e))
    | inr later ↦ later
  ]

  later_known : (r : IndexKey) (after : List IndexKey) → AreSame p r → AreKnown (λ q. has (p ∷ rest) q && not (is_same q r)) (row_of_key rows) after → AreKnown (has rest) (row_of_key rows) after
  later_known r after same known =
      all_of_keys (λ q. ((has (p ∷ rest) q && not (is_same q r)) ≡ true) ⊎ (q.row ≡ row_of_key rows q)) (λ q. (has rest q ≡ true) ⊎ (q.row ≡ row_of_key rows q)) after
      (λ q e one. elim one [
        | inl so ↦ inl (is_later r q same so)
        | inr is ↦ inr is
      ])
      known

  still_has : (after : List IndexKey) (q : IndexKey) (b : Bool) → stands end rows p ≡ false → has after q ≡ (not (is_same q p) && has now q) → is_same q p ≡ b → stands end rows q ≡ true → has after q ≡ true
  still_has after q true empty taken e so = absurd (false≢true (sym empty ∙ sym (stands_same end rows q p (same_from q p e)) ∙ so))
  still_has after q false empty taken e so = taken ∙ ap (λ b. not b && has now q) e ∙ all.kept q so

  within_less : (after : List IndexKey) (q : IndexKey) (b : Bool) → has after q ≡ (not (is_same q p) && has now q) → is_same q p ≡ b → has after q ≡ true → (stands end rows q ≡ true) ⊎ (has rest q ≡ true)
  within_less after q true taken e there = absurd (false≢true (sym (taken ∙ and_not (is_same q p) (has now q) e) ∙ there))
  within_less after q false taken e there = elim (all.within q (sym (taken ∙ ap (λ b. not b && has now q) e) ∙ there)) [
    | inl so ↦ inl so
    | inr touched ↦ elim (either_from (is_same q p) (has rest q) touched) [
      | inl same ↦ absurd (false≢true (sym e ∙ same))
      | inr later ↦ inr later
    ]
  ]

  -- the row of the first one is removed
  pub settled_away : (after : List IndexKey) → stands end rows p ≡ false → ((q : IndexKey) → has after q ≡ (not (is_same q p) && has now q))
      → ((known : IndexKey → Bool) (row : IndexKey → Option RowView) → AreKnown known row now → AreKnown (λ q. known q && not (is_same q p)) row after) → IsCovered end rows rest after
  settled_away after empty taken known = record {
    kept = λ q so. still_has after q (is_same q p) empty (taken q) refl so;
    within = λ q there. within_less after q (is_same q p) (taken q) refl there;
    current = later_known p after (record { kind = refl; isd_as = refl; id = refl }) (known (has (p ∷ rest)) (row_of_key rows) all.current);
  }

  module _ (r : IndexKey) (row : RowView) (found : row_under (indexed_key p) rows ≡ Some row) (standing : stands end rows p ≡ true) (its : IsRowOf end r row) where
    as_first : AreSame p r
    as_first =
        let number : is_of (end row.1.entries) p.isd_as ≡ true = sym (ap (ends_at end p.isd_as) found) ∙ standing in
        one_index_key end p r row (both_from (is_under (indexed_key p) row) (is_of (end row.1.entries) p.isd_as) (found_is_under (indexed_key p) rows row found) number) its.0

    -- the row of the first one is replaced
    pub settled_new : (after : List IndexKey) → (has now r ≡ true → (q : IndexKey) → has after q ≡ has now q)
        → (has now r ≡ true → (known : IndexKey → Bool) (row : IndexKey → Option RowView) → AreKnown known row now → r.row ≡ row r → AreKnown (λ q. known q && not (is_same q r)) row after) → IsCovered end rows rest after
    settled_new after kept known =
        let there : has now r ≡ true = sym (has_same p r now as_first) ∙ all.kept p standing in
        record {
          kept = λ q so. kept there q ∙ all.kept q so;
          within = λ q e. elim (all.within q (sym (kept there q) ∙ e)) [
            | inl so ↦ inl so
            | inr touched ↦ elim (either_from (is_same q p) (has rest q) touched) [
              | inl same ↦ inl (stands_same end rows q p (same_from q p same) ∙ standing)
              | inr later ↦ inr later
            ]
          ];
          current = later_known r after as_first (known there (has (p ∷ rest)) (row_of_key rows) all.current (its.1 ∙ sym found ∙ row_same rows p r as_first));
        }

-- nothing is left to settle
pub all_settled : (end : EndOf) (rows : List RowView) (now : List IndexKey) → IsCovered end rows [] now → IsRowIndex end rows now
all_settled end rows now all = record {
  keys = λ q. both_ways (has now q) (stands end rows q) (λ e. stood q (all.within q e)) (all.kept q);
  current = all_of_keys (λ q. (false ≡ true) ⊎ (q.row ≡ row_of_key rows q)) (λ q. q.row ≡ row_of_key rows q) now
      (λ q e one. elim one [
        | inl so ↦ absurd (false≢true so)
        | inr is ↦ is
      ])
      all.current;
}
  where
    stood : (q : IndexKey) → (stands end rows q ≡ true) ⊎ (false ≡ true) → stands end rows q ≡ true
    stood q (inl so) = so
    stood q (inr never) = absurd (false≢true never)

-- ---- rows that are new, and what was under their keys

pub index_key_same : (end : EndOf) (p q : IndexKey) (row : RowView) → AreSame p q → is_index_key end p row ≡ is_index_key end q row
index_key_same end p q row same = rw (same.kind, same.isd_as, same.id) refl

module _ (end : EndOf) (p : IndexKey) (new : RowView) (its : is_index_key end p new ≡ true) where
  pub seen_alone : (index_keys : List IndexKey) → IsSeenTo end (index_keys ++ p ∷ []) new None
  seen_alone index_keys = ((λ q e. has_last q p index_keys (same_if q p (one_index_key end q p new e its))), (λ r e. absurd (cc)))

  pub seen_both : (other : IndexKey) (old : RowView) → is_index_key end other old ≡ true → (index_keys : List IndexKey) → IsSeenTo end ((index_keys ++ other ∷ []) ++ p ∷ []) new (Some old)
  seen_both other old others index_keys = (
    (λ q e. has_last q p (index_keys ++ other ∷ []) (same_if q p (one_index_key end q p new e its))),
    (λ r e q so.
        let same : r ≡ old = cc in
        has_more q p (index_keys ++ other ∷ []) (has_last q other index_keys (same_if q other (one_index_key end q other old (subst (λ x. is_index_key end q x ≡ true) same so) others)))),
  )

  -- the other one is left out where it is the same
  pub seen_other : (other : IndexKey) (old : RowView) → is_index_key end other old ≡ true → (index_keys : List IndexKey) (b : Bool) → is_same other p ≡ b
      → IsSeenTo end ((if b then index_keys else index_keys ++ other ∷ []) ++ p ∷ []) new (Some old)
  seen_other other old others index_keys true same = (
    (λ q e. has_last q p index_keys (same_if q p (one_index_key end q p new e its))),
    (λ r e q so.
        let is : r ≡ old = cc in
        let first = one_index_key end q other old (subst (λ x. is_index_key end q x ≡ true) is so) others in
        has_last q p index_keys (same_if q p (joined q other p first (same_from other p same)))),
  )
  seen_other other old others index_keys false same = seen_both other old others index_keys

-- a longer list of index keys has the same property
module _ (end : EndOf) (index_keys more : List IndexKey) (kept : (q : IndexKey) → has index_keys q ≡ true → has more q ≡ true) where
  seen_kept : (new : RowView) (stood : Option RowView) → IsSeenTo end index_keys new stood → IsSeenTo end more new stood
  seen_kept new stood touched = ((λ q e. kept q (touched.0 q e)), (λ r e q so. kept q (touched.1 r e q so)))

  pub seen_still : (rows : List RowView) (saved : List Stood) → AreSeenTo end index_keys rows saved → AreSeenTo end more rows saved
  seen_still [] [] all = tt
  seen_still [] (stood ∷ saved) all = all
  seen_still (row ∷ rows) [] all = all
  seen_still (row ∷ rows) (stood ∷ saved) all = (seen_kept row stood.1 all.0, seen_still rows saved all.1)

pub seen_push : (end : EndOf) (index_keys : List IndexKey) (rows : List RowView) (saved : List Stood) (row : RowView) (stood : Stood) → AreSeenTo end index_keys rows saved → IsSeenTo end index_keys row stood.1 → AreSeenTo end index_keys (rows ++ row ∷ []) (saved ++ stood ∷ [])
seen_push end index_keys [] [] row stood all one = (one, tt)
seen_push end index_keys [] (s ∷ saved) row stood all one = absurd all
seen_push end index_keys (r ∷ rows) [] row stood all one = absurd all
seen_push end index_keys (r ∷ rows) (s ∷ saved) row stood all one = (all.0, seen_push end index_keys rows saved row stood all.1 one)
