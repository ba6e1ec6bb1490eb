-- What an answer shows: for `laws`.
use Rattle.std.proofs.Common.{◌≡◌, ℕ, zero, suc, Bool, true, false, List, [], ◌∷◌, ◌&&◌, take, drop, cond, ◌⊎◌, inl, inr, refl, ap, ◌∙◌, subst, ltb-true, arith}
use Rattle.std.specs.List.{Contains, AllByRecursion, filter}
use Rattle.std.specs.declared.cmp.Ordering.TheVariants.{Less}
use Rattle.std.proofs.lemmas.Bool.{and_parts, lt-ltb}
use Rattle.std.proofs.lemmas.List.{length-take, take-append-drop}
use Rattle.std.proofs.lemmas.List.Elements.{Contains-append_left, All-from_recursion}
use Rattle.seg_check.specs.Expiry.{expiry_of}
use Rattle.row_map.specs.Database.{RowView, key_order, IsRising}
use Rattle.row_map.specs.Drops.{is_valid_beyond}
use Rattle.path_db.specs.Answer.{matches, is_shown, answer_of}
use Rattle.path_db.proofs.Exports.{Contains-head, Contains-later, kept_passes, passing_kept}
use Rattle.seg_lookup.specs.Query.{QueryView}
use Rattle.seg_lookup.specs.AnswerLaws.{IsWanted, IsFullBelow, AnswersAreShort, AnswersAreWanted, AnswersRise, AnswersAreComplete}

-- ---- membership

Contains-from_take : {X : Type 0} (n : ℕ) (xs : List X) (x : X) → Contains (take n xs) x → Contains xs x
Contains-from_take n xs x found = subst (λ l. Contains l x) (take-append-drop n xs) (Contains-append_left (take n xs) (drop n xs) x found)

-- ---- what holds of each element still does of those that are kept or taken

module _ {X : Type 0} (P : X → Type 0) where
  pub all_kept : (p : X → Bool) (xs : List X) → AllByRecursion P xs → AllByRecursion P (filter p xs)
  all_kept p [] all = tt
  all_kept p (x ∷ xs) all = with_first (p x) x (filter p xs) all.0 (all_kept p xs all.1)
    where
      with_first : (b : Bool) (x : X) (kept : List X) → P x → AllByRecursion P kept → AllByRecursion P (cond b (x ∷ kept) kept)
      with_first true x kept first rest = (first, rest)
      with_first false x kept first rest = rest

  pub all_taken : (n : ℕ) (xs : List X) → AllByRecursion P xs → AllByRecursion P (take n xs)
  all_taken zero xs all = tt
  all_taken (suc n) [] all = tt
  all_taken (suc n) (x ∷ xs) all = (all.0, all_taken n xs all.1)

abbrev AllAbove : RowView → List RowView → Type 0
AllAbove row rows = AllByRecursion (λ later. key_order row later ≡ Less) rows

pub kept_rise : (p : RowView → Bool) (rows : List RowView) → IsRising rows → IsRising (filter p rows)
kept_rise p [] rising = tt
kept_rise p (row ∷ rows) rising = with_first (p row) row (filter p rows) (all_kept (λ later. key_order row later ≡ Less) p rows rising.0) (kept_rise p rows rising.1)
  where
    with_first : (b : Bool) (row : RowView) (kept : List RowView) → AllAbove row kept → IsRising kept → IsRising (cond b (row ∷ kept) kept)
    with_first true row kept above rest = (above, rest)
    with_first false row kept above rest = rest

taken_rise : (n : ℕ) (rows : List RowView) → IsRising rows → IsRising (take n rows)
taken_rise zero rows rising = tt
taken_rise (suc n) [] rising = tt
taken_rise (suc n) (row ∷ rows) rising = (all_taken (λ later. key_order row later ≡ Less) n rows rising.0, taken_rise n rows rising.1)

-- ---- a row of a rising list is among the first, or after as many as these are

taken_or_behind : (n : ℕ) (rows : List RowView) (row : RowView) → IsRising rows → Contains rows row → Contains (take n rows) row ⊎ IsFullBelow n row (take n rows)
taken_or_behind zero rows row rising found = inr (record { full = refl; below = tt })
taken_or_behind (suc n) [] row rising found = absurd (omega (arith, found.1))
taken_or_behind (suc n) (first ∷ rows) row rising (zero, lt, same) = inl (subst (λ z. Contains (first ∷ take n rows) z) same (Contains-head first (take n rows)))
taken_or_behind (suc n) (first ∷ rows) row rising (suc k, lt, same) =
    let first_below : key_order first row ≡ Less = subst (λ z. key_order first z ≡ Less) same (All-from_recursion _ rows rising.0 k row (omega arith)) in
    elim (taken_or_behind n rows row rising.1 (k, omega arith, same)) [
      | inl taken ↦ inl (Contains-later first row (take n rows) taken)
      | inr behind ↦ inr (record { full = omega (arith, behind.full); below = (first_below, behind.below) })
    ]

-- ---- the laws

abbrev wanted : QueryView → ℕ → RowView → Bool
wanted query now = is_shown query.kind query.start query.end now

from_shown : (query : QueryView) (now : ℕ) (row : RowView) → wanted query now row ≡ true → IsWanted query now row
from_shown query now row shown =
    let parts = and_parts (matches query.kind query.start query.end row) (is_valid_beyond now row) shown in
    record { matching = parts.0; valid = ltb-true now (expiry_of row.1) parts.1 }

to_shown : (query : QueryView) (now : ℕ) (row : RowView) → IsWanted query now row → wanted query now row ≡ true
to_shown query now row is_wanted =
    ap (λ b. b && is_valid_beyond now row) is_wanted.matching ∙ lt-ltb now (expiry_of row.1) is_wanted.valid

pub answers_are_short : AnswersAreShort
unfolding answer_of
answers_are_short limit rows query now = omega (arith, length-take limit (filter (wanted query now) rows))

pub answers_are_wanted : AnswersAreWanted
unfolding answer_of
answers_are_wanted limit rows query now row found =
    let kept = kept_passes (wanted query now) rows row (Contains-from_take limit (filter (wanted query now) rows) row found) in
    (kept.0, from_shown query now row kept.1)

pub answers_rise : AnswersRise
unfolding answer_of
answers_rise limit rows query now rising = taken_rise limit (filter (wanted query now) rows) (kept_rise (wanted query now) rows rising)

pub answers_are_complete : AnswersAreComplete
unfolding answer_of
answers_are_complete limit rows query now row rising found is_wanted =
    taken_or_behind limit (filter (wanted query now) rows) row (kept_rise (wanted query now) rows rising) (passing_kept (wanted query now) rows row found (to_shown query now row is_wanted))
