-- When segments expire.
use Rattle.std.proofs.Common.{◌≡◌, ℕ, zero, suc, ◌*◌, List, length, refl, ◌∙◌, arith, ◌+◌, ◌<◌, ◌≤◌, ◌^◌, ◌⊎◌, [], ◌∷◌, map, slice_index_or, inl, inr, sym, ap}
use Rattle.std.specs.Prelude.{All, min}
use Rattle.std.specs.List.{fold, Any}
use Rattle.std.proofs.Math.Nat.{min-le_left, min-le_right}
use Rattle.seg_core.specs.SegmentView.{EntryView, SegmentView}
use Rattle.seg_core.specs.declared.entry.Entry.{Entry}
use Rattle.seg_core.specs.EntryView.{entry_views}
use Rattle.seg_core.specs.Encoding.{IsSegment}
use Rattle.seg_core.proofs.Ranges.{IsSegment-IsWellFormed}
use Rattle.seg_check.specs.Expiry.{hop_expiry, least_exp_time, expiry_of}

abbrev exp_times : List EntryView → List ℕ
exp_times entries = map (λ e. e.exp_time) entries

-- the exp_times of the program's entries
pub exp_times-views : (entries : List Entry) → map (λ e. e.exp_time) entries ≡ exp_times (entry_views entries)
exp_times-views [] = refl
exp_times-views (e ∷ entries) = ap (λ times. e.exp_time ∷ times) (exp_times-views entries)

-- ---- the least of numbers

least-below_first : (n : ℕ) (ns : List ℕ) → fold min n ns ≤ n
least-below_first n [] = omega arith
least-below_first n (m ∷ ns) = omega (arith, least-below_first (min n m) ns, min-le_left n m)

least-below : (n : ℕ) (entries : List EntryView) (k : ℕ) (d : EntryView) → k < length entries → fold min n (exp_times entries) ≤ (slice_index_or entries k d).exp_time
least-below n [] k d lt = absurd (omega arith)
least-below n (e ∷ entries) zero d lt = omega (arith, least-below_first (min n e.exp_time) (exp_times entries), min-le_right n e.exp_time)
least-below n (e ∷ entries) (suc k) d lt = least-below (min n e.exp_time) entries k d (omega arith)

-- a property of one of the entries holds for one of more entries
one_of_more : (P : EntryView → Type 0) (e : EntryView) (entries : List EntryView) → Any P entries → Any P (e ∷ entries)
one_of_more P e entries (k, x, lt, is, holds) = (suc k, x, omega arith, is, holds)

-- the least of two numbers is one of them
min-either : (m n : ℕ) → (min m n ≡ m) ⊎ (min m n ≡ n)
min-either m n = grind arith

least-reached : (n : ℕ) (entries : List EntryView) → (fold min n (exp_times entries) ≡ n) ⊎ Any (λ e. e.exp_time ≡ fold min n (exp_times entries)) entries
least-reached n [] = inl refl
least-reached n (e ∷ entries) =
    let least = fold min (min n e.exp_time) (exp_times entries) in
    elim (least-reached (min n e.exp_time) entries) as (λ _. (least ≡ n) ⊎ Any (λ f. f.exp_time ≡ least) (e ∷ entries)) [
      | inl is ↦ elim (min-either n e.exp_time) as (λ _. (least ≡ n) ⊎ Any (λ f. f.exp_time ≡ least) (e ∷ entries)) [
        | inl first ↦ inl (is ∙ first)
        | inr second ↦ inr (0, e, omega arith, refl, sym (is ∙ second))
      ]
      | inr others ↦ inr (one_of_more (λ f. f.exp_time ≡ least) e entries others)
    ]

-- no entry has an exp_time below the least
least-le_all : (entries : List EntryView) (k : ℕ) (d : EntryView) → k < length entries → least_exp_time entries ≤ (slice_index_or entries k d).exp_time
least-le_all [] k d lt = absurd (omega arith)
least-le_all (e ∷ entries) zero d lt = least-below_first e.exp_time (exp_times entries)
least-le_all (e ∷ entries) (suc k) d lt = least-below e.exp_time entries k d (omega arith)

-- one entry has the least exp_time
least-of_one : (entries : List EntryView) → 1 ≤ length entries → Any (λ e. e.exp_time ≡ least_exp_time entries) entries
least-of_one [] some = absurd (omega arith)
least-of_one (e ∷ entries) some =
    let least = least_exp_time (e ∷ entries) in
    elim (least-reached e.exp_time entries) as (λ _. Any (λ f. f.exp_time ≡ least) (e ∷ entries)) [
      | inl is ↦ (0, e, omega arith, refl, sym is)
      | inr others ↦ one_of_more (λ f. f.exp_time ≡ least) e entries others
    ]

-- ---- segments

-- no hop entry expires before the segment
pub expiry-le_hops : (s : SegmentView) → All (λ e. expiry_of s ≤ hop_expiry s.timestamp e) s.entries
unfolding expiry_of
expiry-le_hops s k d lt = omega (arith, least-le_all s.entries k d lt)

-- one of the hop entries expires with the segment
pub expiry-of_hop : (s : SegmentView) → 1 ≤ length s.entries → Any (λ e. hop_expiry s.timestamp e ≡ expiry_of s) s.entries
unfolding expiry_of
expiry-of_hop s some =
    let one = least-of_one s.entries some in
    (one.0, one.1, one.2, one.3, ap (λ n. 2 * s.timestamp + 675 * (1 + n)) one.4)

-- the expiry of a whole segment has at most 34 bits
pub expiry-fits : (s : SegmentView) → IsSegment s → expiry_of s < 2 ^ 34
unfolding expiry_of
expiry-fits s whole =
    let in_range = (IsSegment-IsWellFormed s whole).in_range in
    let one = expiry-of_hop s whole.counted.0 in
    let exp_time = (in_range.entries one.0 one.1 one.2).exp_time in
    let timestamp = in_range.timestamp in
    let below = expiry-le_hops s one.0 one.1 one.2 in
    omega arith
