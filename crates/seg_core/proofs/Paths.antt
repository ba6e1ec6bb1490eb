-- The tests of a path decide the definitions, in both directions.
use Rattle.std.proofs.Common.{◌≡◌, ◌≢◌, ℕ, suc, Bool, true, false, List, [], ◌∷◌, ◌++◌, length, map, refl, sym, ap, subst, inl, inr, arith}
use Rattle.std.specs.Prelude.{◌==◌, ◌&&◌, not, nat_le, IsTrue, ◌↔◌}
use Rattle.std.specs.List.{list_any, AllByRecursion}
use Rattle.std.proofs.lemmas.Bool.{cases_Bool, eqb-true, eq-eqb, leb-true, le-leb}
use Rattle.std.proofs.lemmas.List.Elements.{All-from_recursion, recursion_from_All}
use Rattle.std.proofs.lemmas.List.Kept.{AllPairs-cons}
use Rattle.seg_core.specs.SegmentView.{EntryView}
use Rattle.seg_core.specs.WellFormed.{LeadsTo, EndsAt, IsEntryChain, HasEntryCount, HasNoLoop, is_entry_count, is_linked, is_chain, has_no_loop}

-- ---- tests

pub both : (a b : Bool) → (a && b) ≡ true → (a ≡ true) × (b ≡ true)
both true b h = (refl, h)
both false b h = absurd cc

from_both : (a b : Bool) → a ≡ true → b ≡ true → (a && b) ≡ true
from_both a b h k = rw (h, k) refl

-- the test of two numbers that are not the same
pub other : (m n : ℕ) → not (m == n) ≡ true → m ≢ n
other m n h e = let same = eq-eqb m n e in cc

from_other : (m n : ℕ) → m ≢ n → not (m == n) ≡ true
from_other m n ne = elim (cases_Bool (m == n)) [
  | inl same ↦ absurd (ne (eqb-true m n same))
  | inr differs ↦ rw differs refl
]

-- ---- how many

pub count-HasEntryCount : (es : List EntryView) → is_entry_count (length es) ≡ true → HasEntryCount es
count-HasEntryCount es h =
    let each = both (nat_le 1 (length es)) (nat_le (length es) 64) h in
    (leb-true 1 (length es) each.0, leb-true (length es) 64 each.1)

pub count-from : (es : List EntryView) → HasEntryCount es → is_entry_count (length es) ≡ true
count-from es h = from_both (nat_le 1 (length es)) (nat_le (length es) 64) (le-leb 1 (length es) h.0) (le-leb (length es) 64 h.1)

-- ---- a chain

-- what the test of two neighbouring entries decides
leads : (e f : EntryView) → (e.next == f.ia && (not (e.egress == 0) && not (f.ingress == 0))) ≡ true → LeadsTo e f
leads e f h =
    let next = both (e.next == f.ia) (not (e.egress == 0) && not (f.ingress == 0)) h in
    let crossing = both (not (e.egress == 0)) (not (f.ingress == 0)) next.1 in
    record { next = eqb-true e.next f.ia next.0; egress = other e.egress 0 crossing.0; ingress = other f.ingress 0 crossing.1 }

from_leads : (e f : EntryView) → LeadsTo e f → (e.next == f.ia && (not (e.egress == 0) && not (f.ingress == 0))) ≡ true
from_leads e f h =
    from_both (e.next == f.ia) (not (e.egress == 0) && not (f.ingress == 0)) (eq-eqb e.next f.ia h.next)
    (from_both (not (e.egress == 0)) (not (f.ingress == 0)) (from_other e.egress 0 h.egress) (from_other f.ingress 0 h.ingress))

ends : (e : EntryView) → (e.next == 0 && e.egress == 0) ≡ true → EndsAt e
ends e h = let each = both (e.next == 0) (e.egress == 0) h in (eqb-true e.next 0 each.0, eqb-true e.egress 0 each.1)

from_ends : (e : EntryView) → EndsAt e → (e.next == 0 && e.egress == 0) ≡ true
from_ends e h = from_both (e.next == 0) (e.egress == 0) (eq-eqb e.next 0 h.0) (eq-eqb e.egress 0 h.1)

-- linked entries without the first one are linked
linked_after : (e : EntryView) (es : List EntryView) → is_linked (e ∷ es) ≡ true → is_linked es ≡ true
linked_after e [] h = refl
linked_after e (f ∷ es) h = (both (e.next == f.ia && (not (e.egress == 0) && not (f.ingress == 0))) (is_linked (f ∷ es)) h).1

linked_joined : (before after : List EntryView) (e f : EntryView) → is_linked (before ++ e ∷ f ∷ after) ≡ true → LeadsTo e f
linked_joined [] after e f h = leads e f (both (e.next == f.ia && (not (e.egress == 0) && not (f.ingress == 0))) (is_linked (f ∷ after)) h).0
linked_joined (b ∷ before) after e f h = linked_joined before after e f (linked_after b (before ++ e ∷ f ∷ after) h)

linked_last : (before : List EntryView) (e : EntryView) → is_linked (before ++ e ∷ []) ≡ true → EndsAt e
linked_last [] e h = ends e h
linked_last (b ∷ before) e h = linked_last before e (linked_after b (before ++ e ∷ []) h)

chain_linked : (es : List EntryView) → is_chain es ≡ true → is_linked es ≡ true
chain_linked [] h = refl
chain_linked (e ∷ es) h = (both (e.ingress == 0) (is_linked (e ∷ es)) h).1

chain_first : (e : EntryView) (es : List EntryView) → is_chain (e ∷ es) ≡ true → e.ingress ≡ 0
chain_first e es h = eqb-true e.ingress 0 (both (e.ingress == 0) (is_linked (e ∷ es)) h).0

pub chain-IsChain : (es : List EntryView) → is_chain es ≡ true → IsEntryChain es
chain-IsChain es h = record {
  first = λ e after is. chain_first e after (subst (λ es. is_chain es ≡ true) is h);
  joined = λ before after e f is. linked_joined before after e f (subst (λ es. is_linked es ≡ true) is (chain_linked es h));
  last = λ before e is. linked_last before e (subst (λ es. is_linked es ≡ true) is (chain_linked es h));
}

-- each entry leads to the one after it, and the last one ends the path
record IsLinked (es : List EntryView) : Type 0 where
  joined : (before after : List EntryView) (e f : EntryView) → es ≡ before ++ e ∷ f ∷ after → LeadsTo e f
  last : (before : List EntryView) (e : EntryView) → es ≡ before ++ e ∷ [] → EndsAt e

tail_linked : (e : EntryView) (es : List EntryView) → IsLinked (e ∷ es) → IsLinked es
tail_linked e es is = record {
  joined = λ before after x y at. is.joined (e ∷ before) after x y (ap (λ xs. e ∷ xs) at);
  last = λ before x at. is.last (e ∷ before) x (ap (λ xs. e ∷ xs) at);
}

linked_from : (es : List EntryView) → IsLinked es → is_linked es ≡ true
linked_from [] is = refl
linked_from (e ∷ []) is = from_ends e (is.last [] e refl)
linked_from (e ∷ f ∷ es) is =
    from_both (e.next == f.ia && (not (e.egress == 0) && not (f.ingress == 0))) (is_linked (f ∷ es)) (from_leads e f (is.joined [] es e f refl))
    (linked_from (f ∷ es) (tail_linked e (f ∷ es) is))

pub chain-from : (es : List EntryView) → IsEntryChain es → is_chain es ≡ true
chain-from [] is = refl
chain-from (e ∷ es) is =
    from_both (e.ingress == 0) (is_linked (e ∷ es)) (eq-eqb e.ingress 0 (is.first e es refl))
    (linked_from (e ∷ es) (record { joined = is.joined; last = is.last }))

-- ---- a loop

not_true : (b : Bool) → not b ≡ true → b ≡ false
not_true true h = absurd cc
not_true false h = refl

-- the ISD-ASes of entries
abbrev ias : List EntryView → List ℕ
ias es = map (λ e. e.ia) es

-- where the test finds an AS in no entry, no entry has that AS
none_is : (n : ℕ) (es : List EntryView) → list_any (λ f. f.ia == n) es ≡ false → AllByRecursion (λ m. n ≢ m) (ias es)
none_is n [] h = tt
none_is n (e ∷ es) h = elim (cases_Bool (e.ia == n)) [
  | inl same ↦ absurd (let found : list_any (λ f. f.ia == n) (e ∷ es) ≡ true = rw same refl in cc)
  | inr differs ↦ (λ same. let again = eq-eqb e.ia n (sym same) in cc, none_is n es (rw differs at h))
]

any_is : (n : ℕ) (es : List EntryView) → AllByRecursion (λ m. n ≢ m) (ias es) → list_any (λ f. f.ia == n) es ≡ false
any_is n [] none = refl
any_is n (e ∷ es) none = elim (cases_Bool (e.ia == n)) [
  | inl same ↦ absurd (none.0 (sym (eqb-true e.ia n same)))
  | inr differs ↦ rw differs (any_is n es none.1)
]

pub no_loop-HasNoLoop : (es : List EntryView) → has_no_loop es ≡ true → HasNoLoop es
no_loop-HasNoLoop [] h = λ i j d lt within. absurd (omega arith)
no_loop-HasNoLoop (e ∷ es) h =
    let parts = both (not (list_any (λ f. f.ia == e.ia) es)) (has_no_loop es) h in
    let none = All-from_recursion (λ m. e.ia ≢ m) (ias es) (none_is e.ia es (not_true (list_any (λ f. f.ia == e.ia) es) parts.0)) in
    AllPairs-cons (λ m n. m ≢ n) e.ia (ias es) none (no_loop-HasNoLoop es parts.1)

pub no_loop-from : (es : List EntryView) → HasNoLoop es → has_no_loop es ≡ true
no_loop-from [] none = refl
no_loop-from (e ∷ es) none =
    let first = recursion_from_All (λ m. e.ia ≢ m) (ias es) (λ k d lt. none 0 (suc k) d (omega arith) (omega arith)) in
    from_both (not (list_any (λ f. f.ia == e.ia) es)) (has_no_loop es)
    (rw (any_is e.ia es first) refl)
    (no_loop-from es (λ i j d lt within. none (suc i) (suc j) d (omega arith) (omega arith)))

-- ---- both directions

pub count-iff : (es : List EntryView) → (IsTrue (is_entry_count (length es))) ↔ HasEntryCount es
count-iff es = (count-HasEntryCount es, count-from es)

pub chain-iff : (es : List EntryView) → (IsTrue (is_chain es)) ↔ IsEntryChain es
chain-iff es = (chain-IsChain es, chain-from es)

pub no_loop-iff : (es : List EntryView) → (IsTrue (has_no_loop es)) ↔ HasNoLoop es
no_loop-iff es = (no_loop-HasNoLoop es, no_loop-from es)
