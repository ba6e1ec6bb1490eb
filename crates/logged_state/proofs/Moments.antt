-- What holds of each image since a moment, by its number.
use Rattle.std.proofs.Common.{◌≡◌, ℕ, ◌+◌, ◌≤◌, List, [], ◌∷◌, ◌++◌, length, drop, All, sym, ap, ◌∙◌, refl, arith, append_assoc, length-append}
use Rattle.std.proofs.lemmas.List.{drop_at, drop-append-le}
use Rattle.std.proofs.lemmas.List.Elements.{All-nil, All-cons, All-tail, All-append, All-same, All-weaker}
use Rattle.sector_dev.specs.Disk.{Moment, History, moments}
use Rattle.sector_dev.specs.Image.{EveryImage, EveryImageSince}
use Rattle.sector_dev.specs.Stretch.{Leaves}

module _ (P : List ℕ → Type 0) where
  abbrev ImagesHave : Moment → Type 0
  ImagesHave moment = EveryImage moment P

  -- the later moments of a stretch
  later_have : (old new : History) (leaves : Leaves old new P) → All ImagesHave leaves.later
  later_have old new leaves =
      let since : drop (length old.past) (moments new) ≡ old.now ∷ leaves.later =
      ap (λ (l : List Moment). drop (length old.past) l) (leaves.goes_on ∙ append_assoc old.past (old.now ∷ []) leaves.later)
      ∙ drop_at old.past (old.now ∷ leaves.later) (length old.past) refl in
      All-tail ImagesHave old.now leaves.later (All-same ImagesHave (old.now ∷ leaves.later) (drop (length old.past) (moments new)) (sym since) leaves.every)

  -- since a moment, and in the stretch that follows
  pub since_then : (t : ℕ) (old new : History) → t ≤ length old.past → EveryImageSince t old P → Leaves old new P → EveryImageSince t new P
  since_then t old new reached before leaves =
      let within : t ≤ length (moments old) = omega (arith, length-append old.past (old.now ∷ [])) in
      All-same ImagesHave (drop t (moments new)) (drop t (moments old) ++ leaves.later)
      (ap (λ (l : List Moment). drop t l) leaves.goes_on ∙ drop-append-le t (moments old) leaves.later within)
      (All-append ImagesHave (drop t (moments old)) leaves.later before (later_have old new leaves))

  -- since the present moment
  pub since_now : (history : History) → EveryImage history.now P → EveryImageSince (length history.past) history P
  since_now history here =
      All-same ImagesHave (drop (length history.past) (moments history)) (history.now ∷ []) (drop_at history.past (history.now ∷ []) (length history.past) refl)
      (All-cons ImagesHave history.now [] here (All-nil ImagesHave))

  -- the number of a later moment is no lower
  pub number_then : (old new : History) → Leaves old new P → length old.past ≤ length new.past
  number_then old new leaves =
      let long = ap (λ (l : List Moment). length l) leaves.goes_on in
      omega (arith, long, length-append new.past (new.now ∷ []), length-append (moments old) leaves.later, length-append old.past (old.now ∷ []))

-- images that have P have what follows from P
pub since_weaker : (P Q : List ℕ → Type 0) (t : ℕ) (history : History) → ((content : List ℕ) → P content → Q content) → EveryImageSince t history P → EveryImageSince t history Q
since_weaker P Q t history follows every =
    All-weaker (λ (m : Moment). EveryImage m P) (λ (m : Moment). EveryImage m Q) (λ m each content image. follows content (each content image)) (drop t (moments history)) every
