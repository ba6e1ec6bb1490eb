-- The first segment that is not accepted: for `check_all`.
use Rattle.std.proofs.Common.{◌≡◌, ℕ, zero, suc, ◌+◌, ◌<◌, List, [], ◌∷◌, length, take, get_or, Option, Some, None, refl, sym, ap, ◌∙◌, subst, arith}
use Rattle.std.specs.Option.{option_or}
use Rattle.seg_core.specs.declared.seg_type.SegType.{SegType}
use Rattle.seg_core.specs.SegmentView.{SegmentView}
use Rattle.seg_check.specs.declared.error.CheckError.{CheckError}
use Rattle.seg_check.specs.Signatures.{Verdicts}
use Rattle.seg_check.specs.Checking.{check_refusal, first_refusal}

none_first : {A : Type 0} (a b : Option A) → option_or a b ≡ None → a ≡ None
none_first None b e = refl
none_first (Some x) b e = e

none_rest : {A : Type 0} (a b : Option A) → a ≡ None → option_or a b ≡ None → b ≡ None
none_rest a b none e = sym (ap (λ o. option_or o b) none) ∙ e

module _ (verifies : Verdicts) (now : ℕ) where
  accepted_next : (rows : List (SegType × SegmentView)) (i : ℕ) (d : SegType × SegmentView) → i < length rows → first_refusal verifies now (take i rows) ≡ None
      → check_refusal verifies now ((get_or rows i d).1) ≡ None → first_refusal verifies now (take (suc i) rows) ≡ None
  accepted_next [] i d lt before good = absurd (omega arith)
  accepted_next (row ∷ rows) zero d lt before good = ap (λ o. option_or o None) good
  accepted_next (row ∷ rows) (suc i) d lt before good =
      let first = none_first (check_refusal verifies now row.1) (first_refusal verifies now (take i rows)) before in
      let rest = none_rest (check_refusal verifies now row.1) (first_refusal verifies now (take i rows)) first before in
      ap (λ o. option_or o (first_refusal verifies now (take (suc i) rows))) first ∙ accepted_next rows i d (omega arith) rest good

  -- the rows before and one more are accepted
  pub accepted_more : (rows : List (SegType × SegmentView)) (i : ℕ) (d : SegType × SegmentView) → i < length rows → first_refusal verifies now (take i rows) ≡ None
      → check_refusal verifies now ((get_or rows i d).1) ≡ None → first_refusal verifies now (take (i + 1) rows) ≡ None
  accepted_more rows i d lt before good =
      let next : suc i ≡ i + 1 = omega arith in
      subst (λ n. first_refusal verifies now (take n rows) ≡ None) next (accepted_next rows i d lt before good)

  -- the first row that is not accepted decides
  pub refused_at : (rows : List (SegType × SegmentView)) (i : ℕ) (d : SegType × SegmentView) (e : CheckError) → i < length rows → first_refusal verifies now (take i rows) ≡ None
      → check_refusal verifies now ((get_or rows i d).1) ≡ Some e → first_refusal verifies now rows ≡ Some e
  refused_at [] i d e lt before bad = absurd (omega arith)
  refused_at (row ∷ rows) zero d e lt before bad = ap (λ o. option_or o (first_refusal verifies now rows)) bad
  refused_at (row ∷ rows) (suc i) d e lt before bad =
      let first = none_first (check_refusal verifies now row.1) (first_refusal verifies now (take i rows)) before in
      let rest = none_rest (check_refusal verifies now row.1) (first_refusal verifies now (take i rows)) first before in
      ap (λ o. option_or o (first_refusal verifies now rows)) first ∙ refused_at rows i d e (omega arith) rest bad
