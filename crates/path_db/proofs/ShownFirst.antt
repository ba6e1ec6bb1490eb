-- The segments that a scan of index keys has found, by the index keys that are left: for
-- `shown_at`.
use Rattle.std.proofs.Common.{◌≡◌, ℕ, zero, suc, ◌<◌, ◌≤◌, Bool, List, [], ◌∷◌, ◌++◌, length, take, refl, sym, ap, ◌∙◌, arith}
use Rattle.std.proofs.lemmas.List.{append_assoc, length-append}
use Rattle.std.specs.List.{filter}
use Rattle.std.proofs.lemmas.List.{take-map, length-map}
use Rattle.std.proofs.Math.Seq.{take-append_seam}
use Rattle.seg_core.specs.SegmentView.{SegmentView}
use Rattle.row_map.specs.Database.{RowView}
use Rattle.path_db.specs.Answer.{segments_of}
use Rattle.path_db.proofs.ShownLeft.{append_nil, take_few, take_some}

-- the first of the segments until now and those that are left to find are the first of all segments
-- that are shown
abbrev pub ShowsFirst : ℕ → (RowView → Bool) → List RowView → List SegmentView → List RowView → Type 0
ShowsFirst n w rows found left = take n (segments_of (filter w rows)) ≡ take n (found ++ segments_of (filter w left))

pub first_enough : (n : ℕ) (w : RowView → Bool) (rows left : List RowView) (found : List SegmentView) → ShowsFirst n w rows found left → length found ≡ n → found ≡ segments_of (take n (filter w rows))
first_enough n w rows left found first enough =
    sym (ap (λ m. take m (found ++ segments_of (filter w left))) (sym enough) ∙ take-append_seam found (segments_of (filter w left)))
    ∙ sym first ∙ take-map (λ (row : RowView). row.1) n (filter w rows)

pub first_whole : (n : ℕ) (w : RowView → Bool) (rows left : List RowView) (found : List SegmentView) → ShowsFirst n w rows found left → left ≡ [] → length found ≤ n → found ≡ segments_of (take n (filter w rows))
first_whole n w rows left found first none few =
    let end : found ++ segments_of (filter w left) ≡ found = ap (λ l. found ++ segments_of (filter w l)) none ∙ append_nil found in
    sym (take_few n found few) ∙ sym (ap (take n) end) ∙ sym first ∙ take-map (λ (row : RowView). row.1) n (filter w rows)

take_again : {X : Type 0} (n : ℕ) (xs ys : List X) → take n (take n xs ++ ys) ≡ take n (xs ++ ys)
take_again zero xs ys = refl
take_again (suc n) [] ys = refl
take_again (suc n) (x ∷ xs) ys = ap (λ l. x ∷ l) (take_again n xs ys)

pub first_more : (n : ℕ) (w : RowView → Bool) (rows left more : List RowView) (some found new : List SegmentView) → ShowsFirst n w rows found left → segments_of (filter w left) ≡ some ++ segments_of (filter w more) → new ≡ take n (found ++ some) → ShowsFirst n w rows new more
first_more n w rows left more some found new first split is =
    first ∙ ap (λ l. take n (found ++ l)) split
    ∙ ap (take n) (sym (append_assoc found some (segments_of (filter w more))))
    ∙ sym (take_again n (found ++ some) (segments_of (filter w more)))
    ∙ sym (ap (λ l. take n (l ++ segments_of (filter w more))) is)

pub first_some : (n : ℕ) (w : RowView → Bool) (rows left more : List RowView) (some found : List SegmentView) → ShowsFirst n w rows found left → segments_of (filter w left) ≡ some ++ segments_of (filter w more) → length found < n → 0 < length some → 0 < length (take n (filter w rows))
first_some n w rows left more some found first split less there =
    let left_some : 0 < length (segments_of (filter w left)) = omega (arith, there, ap length split, length-append some (segments_of (filter w more))) in
    let ours : 0 < length (found ++ segments_of (filter w left)) = omega (arith, left_some, length-append found (segments_of (filter w left))) in
    let taken : 0 < length (take n (found ++ segments_of (filter w left))) = take_some n (found ++ segments_of (filter w left)) (omega (arith, less)) ours in
    let same = ap length (first ∙ refl) in
    let mapped = ap length (take-map (λ (row : RowView). row.1) n (filter w rows)) in
    omega (arith, taken, same, mapped, length-map (take n (filter w rows)) (λ (r : RowView). r.1))
