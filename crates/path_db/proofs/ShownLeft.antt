-- The segments that a scan has found, by the rows that are left: for `first_shown`.
use Rattle.std.proofs.Common.{◌≡◌, ℕ, zero, suc, ◌<◌, ◌≤◌, Bool, true, false, cond, List, [], ◌∷◌, ◌++◌, length, take, refl, sym, ap, ◌∙◌, arith}
use Rattle.std.proofs.lemmas.List.{append_assoc, length-append}
use Rattle.std.specs.List.{filter}
use Rattle.std.proofs.lemmas.List.{take-map, length-map}
use Rattle.std.proofs.Math.Seq.{take-append_seam}
use Rattle.seg_core.specs.SegmentView.{SegmentView}
use Rattle.row_map.specs.Database.{RowView}
use Rattle.path_db.specs.Answer.{segments_of}

-- the segments until now, and those that are left to find, are all segments that are shown
abbrev pub ShowsAll : (RowView → Bool) → List RowView → List SegmentView → List RowView → Type 0
ShowsAll w rows found left = segments_of (filter w rows) ≡ found ++ segments_of (filter w left)

pub append_nil : {X : Type 0} (xs : List X) → xs ++ [] ≡ xs
append_nil [] = refl
append_nil (x ∷ xs) = ap (λ l. x ∷ l) (append_nil xs)

pub shown_enough : (n : ℕ) (w : RowView → Bool) (rows left : List RowView) (found : List SegmentView) → ShowsAll w rows found left → length found ≡ n → found ≡ segments_of (take n (filter w rows))
shown_enough n w rows left found all enough =
    sym (ap (λ m. take m (found ++ segments_of (filter w left))) (sym enough) ∙ take-append_seam found (segments_of (filter w left)))
    ∙ ap (take n) (sym all) ∙ take-map (λ (row : RowView). row.1) n (filter w rows)

pub take_few : {X : Type 0} (n : ℕ) (xs : List X) → length xs ≤ n → take n xs ≡ xs
take_few zero [] e = refl
take_few zero (x ∷ xs) e = absurd (omega (arith, e))
take_few (suc n) [] e = refl
take_few (suc n) (x ∷ xs) e = ap (λ l. x ∷ l) (take_few n xs (omega (arith, e)))

pub shown_whole : (n : ℕ) (w : RowView → Bool) (rows left : List RowView) (found : List SegmentView) → ShowsAll w rows found left → left ≡ [] → length found ≤ n → found ≡ segments_of (take n (filter w rows))
shown_whole n w rows left found all none few =
    let whole : segments_of (filter w rows) ≡ found = all ∙ ap (λ l. found ++ segments_of (filter w l)) none ∙ append_nil found in
    sym (take_few n found few) ∙ ap (take n) (sym whole) ∙ take-map (λ (row : RowView). row.1) n (filter w rows)

pub shown_more : (w : RowView → Bool) (rows left : List RowView) (row : RowView) (found : List SegmentView) → w row ≡ true → ShowsAll w rows found (row ∷ left) → ShowsAll w rows (found ++ row.1 ∷ []) left
shown_more w rows left row found wanted all =
    all ∙ ap (λ b. found ++ segments_of (cond b (row ∷ filter w left) (filter w left))) wanted ∙ sym (append_assoc found (row.1 ∷ []) (segments_of (filter w left)))

pub shown_same : (w : RowView → Bool) (rows left : List RowView) (row : RowView) (found : List SegmentView) → w row ≡ false → ShowsAll w rows found (row ∷ left) → ShowsAll w rows found left
shown_same w rows left row found wanted all = all ∙ ap (λ b. found ++ segments_of (cond b (row ∷ filter w left) (filter w left))) wanted

pub take_some : {X : Type 0} (n : ℕ) (xs : List X) → 0 < n → 0 < length xs → 0 < length (take n xs)
take_some zero xs lt some = absurd (omega (arith, lt))
take_some (suc n) [] lt some = absurd (omega (arith, some))
take_some (suc n) (x ∷ xs) lt some = omega arith

pub some_left : (n : ℕ) (w : RowView → Bool) (rows left : List RowView) (row : RowView) (found : List SegmentView) → w row ≡ true → ShowsAll w rows found (row ∷ left) → length found < n → 0 < length (take n (filter w rows))
some_left n w rows left row found wanted all less =
    let more = all ∙ ap (λ b. found ++ segments_of (cond b (row ∷ filter w left) (filter w left))) wanted in
    let count = ap length more in
    let some : 0 < length (filter w rows) = omega (arith, count, length-map (filter w rows) (λ (r : RowView). r.1), length-append found (row.1 ∷ segments_of (filter w left))) in
    take_some n (filter w rows) (omega (arith, less)) some
