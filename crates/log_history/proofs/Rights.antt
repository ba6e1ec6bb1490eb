-- The steps keep the rule of a history.
use Rattle.std.proofs.Common.{◌≡◌, ◌≢◌, ℕ, zero, suc, ◌+◌, ◌<◌, ◌≤◌, Bool, true, false, List, [], ◌∷◌, ◌++◌, length, refl, ap, sym, ◌∙◌, subst, arith, inl, length-append, None}
use Rattle.std.proofs.lemmas.List.{append-nil, length-set, get_or-set_same, get_or-set_other, get_or_append_left}
use mathlib.Core.List.{IsPrefix}
use prog.Atomic.{either}
use Rattle.std.specs.Prelude.{◌==◌, slice_set}
use Rattle.logbook.specs.Pages.{Cell, cell, keeps, gives, adds, no_nib, nib, may_write, Nib, step, Away, Moves, Goes}
use Rattle.log_history.specs.declared.rule.Entry.{Entry}
use Rattle.log_history.proofs.Fronts.{prefix_trans, prefix_long, prefix_whole}
use Rattle.log_history.specs.Rights.{FIRST_KEY, right_after, IsSpent, AreSpent, IsKept, MayAppend, IsIssued, IsAppended, IsWhole, no_entry}

abbrev pub shown : List Entry → List Entry
shown log = []

abbrev pub moved : List Entry → List Entry → ℕ → Type 0
moved xs ys n = Unit {0}

-- a right that is spent stays spent
set_spent : (cells : List Cell) (j n key : ℕ) → IsSpent cells key → IsSpent (slice_set cells j (n, true)) key
set_spent [] j n key spent = let below = spent.0 in absurd (omega (arith, below))
set_spent (c ∷ cells) zero n zero spent = (omega arith, refl)
set_spent (c ∷ cells) zero n (suc key) spent = spent
set_spent (c ∷ cells) (suc j) n zero spent = (omega arith, spent.1)
set_spent (c ∷ cells) (suc j) n (suc key) spent =
    let below = spent.0 in
    let rest = set_spent cells j n key (omega (arith, below), spent.1) in
    let there = rest.0 in (omega (arith, there), rest.1)

more_spent : (cells more : List Cell) (key : ℕ) → IsSpent cells key → IsSpent (cells ++ more) key
more_spent cells more key spent =
    let below = spent.0 in
    (omega (arith, below, length-append cells more), ap (λ (c : Cell). c.1) (get_or_append_left cells more (0, false) key below) ∙ spent.1)

still_spent : (cells now : List Cell) → ((key : ℕ) → IsSpent cells key → IsSpent now key) → (key : ℕ) (log : List Entry) → AreSpent cells key log → AreSpent now key log
still_spent cells now still key [] spent = tt
still_spent cells now still key (entry ∷ log) spent = (still key spent.0, still_spent cells now still entry.next log spent.1)

-- the right of the last entry is spent by one more
one_more_spent : (cells : List Cell) (key : ℕ) (log : List Entry) (entry : Entry) → AreSpent cells key log → IsSpent cells (right_after key log) → AreSpent cells key (log ++ entry ∷ [])
one_more_spent cells key [] entry spent last = (last, tt)
one_more_spent cells key (e ∷ log) entry spent last = (spent.0, one_more_spent cells e.next log entry spent.1 last)

pub right_of_last : (key : ℕ) (log : List Entry) (entry : Entry) → right_after key (log ++ entry ∷ []) ≡ entry.next
right_of_last key [] entry = refl
right_of_last key (e ∷ log) entry = right_of_last e.next log entry

-- entries whose right is not spent are all
whole : (cells : List Cell) (key : ℕ) (front log : List Entry) → AreSpent cells key log → IsPrefix front log → (cell cells (right_after key front)).1 ≡ false → front ≡ log
whole cells key [] [] spent pre away = refl
whole cells key [] (e ∷ log) spent pre away = absurd (cc (sym spent.0.1 ∙ away))
whole cells key (x ∷ front) [] spent pre away = absurd (cc (pre.1))
whole cells key (x ∷ front) (y ∷ log) spent pre away =
    let same : x ≡ y = cc (pre.1) in
    let rest : front ≡ log = whole cells x.next front log (subst (λ (e : Entry). AreSpent cells e.next log) (sym same) spent.1) (pre.0, cc (pre.1)) away in
    cc (same, rest)

-- where the first cell is 0 or 1, an exchange of 0 with 1 makes it 1, and one of 1 with 1 leaves it
becomes_one : (n : ℕ) → n ≤ 1 → either (n == 0) 1 n ≡ 1
becomes_one zero few = refl
becomes_one (suc zero) few = refl
becomes_one (suc (suc n)) few = absurd (omega (arith, few))

stays : (n : ℕ) → n ≤ 1 → either (n == 1) 1 n ≡ n
stays zero few = refl
stays (suc zero) few = refl
stays (suc (suc n)) few = absurd (omega (arith, few))

is_one : (n : ℕ) → n ≤ 1 → ¬ (n ≡ 0) → n ≡ 1
is_one zero few some = absurd (some refl)
is_one (suc zero) few some = refl
is_one (suc (suc n)) few some = absurd (omega (arith, few))

-- the rule holds after one more right is made, after an entry is appended, and after a look
issued : (c : Cell) (cells : List Cell) (log : List Entry) (m : ℕ) → m ≡ 1 → IsKept (c ∷ cells) log → IsKept ((m, true) ∷ cells ++ (0, false) ∷ []) log
issued c cells log m is kept = record {
  some = omega arith;
  home = refl;
  flag = omega (arith, is);
  fresh = λ none. absurd (omega (arith, is, none));
  spent = still_spent (c ∷ cells) ((m, true) ∷ cells ++ (0, false) ∷ []) (λ key spent. more_spent ((m, true) ∷ cells) ((0, false) ∷ []) key (set_spent (c ∷ cells) 0 m key spent)) FIRST_KEY log kept.spent;
}

appended : (c : Cell) (cells : List Cell) (log : List Entry) (entry : Entry) (m value key : ℕ) → m ≡ 1 → IsKept (c ∷ cells) log → key < length (c ∷ cells) → (cell (c ∷ cells) key).1 ≡ false
    → key ≡ right_after FIRST_KEY log → IsKept (slice_set ((m, true) ∷ cells) key (value, true)) (log ++ entry ∷ [])
appended c cells log entry m value zero is kept below away last = absurd (cc (sym kept.home ∙ away))
appended c cells log entry m value (suc k) is kept below away last =
    let now : List Cell = (m, true) ∷ slice_set cells k (value, true) in
    let inside : k < length cells = omega (arith, below) in
    record {
      some = omega arith;
      home = refl;
      flag = omega (arith, is);
      fresh = λ none. absurd (omega (arith, is, none));
      spent = one_more_spent now FIRST_KEY log entry
          (still_spent (c ∷ cells) now (λ key spent. set_spent ((m, true) ∷ cells) (suc k) value key (set_spent (c ∷ cells) 0 m key spent)) FIRST_KEY log kept.spent)
          (subst (λ (key : ℕ). IsSpent now key) last (omega (arith, inside, length-set cells k (value, true)), ap (λ (d : Cell). d.1) (get_or-set_same cells k (value, true) (0, false) inside)));
    }

looked : (c : Cell) (cells : List Cell) (log : List Entry) (m : ℕ) → m ≡ c.0 → IsKept (c ∷ cells) log → IsKept ((m, true) ∷ cells) log
looked c cells log m is kept =
    let flag = kept.flag in
    record {
      some = omega arith;
      home = refl;
      flag = omega (arith, is, flag);
      fresh = λ none. kept.fresh (sym is ∙ none);
      spent = still_spent (c ∷ cells) ((m, true) ∷ cells) (λ key spent. set_spent (c ∷ cells) 0 m key spent) FIRST_KEY log kept.spent;
    }

-- whatever the book is, the steps keep the rule
pub issues_moves : (v : List Entry) → Moves IsKept shown moved 0 (v, (no_nib, None)) (λ n. either (n == 0) 1 n) (IsIssued (step 0 0 1 no_entry) (v, (no_nib, None)))
issues_moves v [] log kept pre away = let some = kept.some in absurd (omega (arith, some))
issues_moves v (c ∷ cells) log kept pre away = (
  omega arith,
  kept.home,
  (
    adds,
    [],
    None,
    tt,
    subst (λ (l : List Entry). IsKept ((either (c.0 == 0) 1 c.0, true) ∷ cells ++ (0, false) ∷ []) l) (sym (append-nil log)) (issued c cells log (either (c.0 == 0) 1 c.0) (becomes_one c.0 kept.flag) kept),
    inl (refl, refl),
    (refl, λ none. let fresh = kept.fresh none in (fresh.0, append-nil log ∙ fresh.1)),
  ),
)

pub appends_moves : (v : List Entry) (p : Nib) (entry : Entry) → MayAppend p (right_after FIRST_KEY v)
    → Moves IsKept shown moved 0 (v, (p, None)) (λ n. either (n == 1) 1 n) (IsAppended (step 0 1 1 entry) (v, (p, None)))
appends_moves v p entry may [] log kept pre away = let some = kept.some in absurd (omega (arith, some))
appends_moves v p entry may (c ∷ cells) log kept pre away =
    let there = away may.0 in
    let below = there.0 in
    let same : v ≡ log = whole (c ∷ cells) FIRST_KEY v log kept.spent pre (ap (λ (k : ℕ). (cell (c ∷ cells) k).1) (sym may.1) ∙ there.1) in
    let last : p.key ≡ right_after FIRST_KEY log = may.1 ∙ ap (λ (l : List Entry). right_after FIRST_KEY l) same in
    let one : c.0 ≡ 1 = is_one c.0 kept.flag (λ none.
    let fresh = kept.fresh none in
    let two = fresh.0 in
    let first : p.key ≡ FIRST_KEY = last ∙ ap (λ (l : List Entry). right_after FIRST_KEY l) fresh.1 in
    omega (arith, two, first, below)) in (
      omega arith,
      kept.home,
      (
        gives,
        entry ∷ [],
        None,
        may.0,
        appended c cells log entry (either (c.0 == 1) 1 c.0) p.value p.key (stays c.0 kept.flag ∙ one) kept below there.1 last,
        inl (refl, refl),
        ap (λ (l : List Entry). l ++ entry ∷ []) (sym same),
      ),
    )

pub looks_moves : (v : List Entry) (p : Nib) → Moves IsKept shown moved 0 (v, (p, None)) (λ n. either (n == 1) 1 n) (IsWhole (step 0 1 1 no_entry) (v, (p, None)))
looks_moves v p [] log kept pre away = let some = kept.some in absurd (omega (arith, some))
looks_moves v p (c ∷ cells) log kept pre away = (
  omega arith,
  kept.home,
  (
    keeps,
    [],
    None,
    tt,
    subst (λ (l : List Entry). IsKept ((either (c.0 == 1) 1 c.0, true) ∷ cells) l) (sym (append-nil log)) (looked c cells log (either (c.0 == 1) 1 c.0) (stays c.0 kept.flag) kept),
    inl (refl, refl),
    (
      refl,
      λ front before may.
          let there = away may.0 in
          let all : front ≡ log = whole (c ∷ cells) FIRST_KEY front log kept.spent (prefix_trans front v log before pre) (ap (λ (k : ℕ). (cell (c ∷ cells) k).1) (sym may.1) ∙ there.1) in
          let long = ap (λ (l : List Entry). length l) all in
          sym (prefix_whole front v before (omega (arith, long, prefix_long v log pre))),
    ),
  ),
)
