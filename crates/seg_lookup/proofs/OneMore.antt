-- Pages, of one row more than they have: for `page_after`, and for the readers of a hub.
use Rattle.std.proofs.Common.{◌≡◌, ℕ, zero, suc, ◌+◌, ◌<◌, ◌≤◌, List, [], ◌∷◌, Option, length, take, nat_lt, refl, ap, ◌∙◌, ltb-true, arith}
use Rattle.std.specs.Cmp.{both_ways}
use Rattle.std.proofs.lemmas.Bool.{lt-ltb}
use Rattle.std.proofs.lemmas.List.{length-take, length-map, take-map}
use Rattle.seg_core.specs.SegmentView.{SegmentView}
use Rattle.row_map.specs.Database.{RowView}
use Rattle.path_db.specs.Answer.{answer_of, segments_of}
use Rattle.seg_lookup.specs.Query.{QueryView}
use Rattle.seg_lookup.specs.Answer.{answer_within}
use Rattle.seg_lookup.specs.Page.{rows_after, wanted_after, answer_after, has_more}

-- the first ones of as many or more
take_less : {X : Type 0} (n m : ℕ) (xs : List X) → n ≤ m → take n (take m xs) ≡ take n xs
take_less zero m xs le = refl
take_less (suc n) zero xs le = absurd (omega (arith, le))
take_less (suc n) (suc m) [] le = refl
take_less (suc n) (suc m) (x ∷ xs) le = ap (λ l. x ∷ l) (take_less n m xs (omega (arith, le)))

-- there are more than n of them where there are more than n among the first n + 1
more_less : {X : Type 0} (n : ℕ) (xs : List X) → nat_lt n (length (take (n + 1) xs)) ≡ nat_lt n (length xs)
more_less n xs =
    both_ways (nat_lt n (length (take (n + 1) xs))) (nat_lt n (length xs))
    (λ e. lt-ltb n (length xs) (omega (arith, ltb-true n (length (take (n + 1) xs)) e, length-take (n + 1) xs)))
    (λ e. lt-ltb n (length (take (n + 1) xs)) (omega (arith, ltb-true n (length xs) e, length-take (n + 1) xs)))

module _ (rows : List RowView) (query : QueryView) (after : Option (List ℕ)) (now : ℕ) where
  -- up to 65 of the rows after the id
  abbrev asked : List RowView
  asked = answer_within 65 (rows_after rows query after) query now

  pub page_segments : (found : List SegmentView) → found ≡ segments_of asked → take 64 found ≡ segments_of (answer_after rows query after now)
  unfolding answer_of
  page_segments found is =
      ap (take 64) is ∙ take-map (λ (row : RowView). row.1) 64 asked ∙ ap segments_of (take_less 64 65 (wanted_after rows query after now) (omega arith))

  pub page_more : (found : List SegmentView) → found ≡ segments_of asked → nat_lt 64 (length found) ≡ has_more rows query after now
  unfolding answer_of
  page_more found is =
      ap (λ l. nat_lt 64 (length l)) is ∙ ap (nat_lt 64) (length-map asked (λ (row : RowView). row.1)) ∙ more_less 64 (wanted_after rows query after now)

  pub page_some : 0 < length asked → 0 < length (answer_after rows query after now)
  unfolding answer_of
  page_some some = omega (arith, some, length-take 65 (wanted_after rows query after now), length-take 64 (wanted_after rows query after now))
