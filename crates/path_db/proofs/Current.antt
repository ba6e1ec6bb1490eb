-- The rows that index keys have, where these are the rows under them.
use Rattle.std.proofs.Common.{◌≡◌, ◌⊎◌, inl, inr, Bool, true, false, cond, List, [], ◌∷◌, ◌++◌, Option, Some, None, Bor, MatchOption, refl, sym, ap, ◌∙◌}
use Rattle.std.specs.List.{AllByRecursion, filter}
use Rattle.std.specs.Option.{option_map, option_to_list}
use Rattle.std.proofs.lemmas.List.{append_assoc}
use Rattle.std.proofs.lemmas.Bool.{false≢true}
use Rattle.seg_core.specs.SegmentView.{SegmentView}
use Rattle.row_map.specs.IndexKey.{IndexKey, AreKnown}
use Rattle.row_map.specs.Database.{RowView, row_under}
use Rattle.row_map.specs.RowMap.{indexed_key}
use Rattle.row_map.specs.EndKeys.{row_of_key, IsCurrent}
use Rattle.path_db.specs.Answer.{segments_of}
use Rattle.path_db.specs.Walk.{rows_at, rows_in, segments_there}

module _ (rows : List RowView) where
  pub rows_are : (index_keys : List IndexKey) → AllByRecursion (IsCurrent rows) index_keys → rows_in index_keys ≡ rows_at rows index_keys
  rows_are [] current = refl
  rows_are (q ∷ index_keys) current =
      ap (λ o. option_to_list o ++ rows_in index_keys) current.0 ∙ ap (λ l. option_to_list (row_under (indexed_key q) rows) ++ l) (rows_are index_keys current.1)

  current_tested : (q : IndexKey) (b : Bool) (kept : List IndexKey) → IsCurrent rows q → AllByRecursion (IsCurrent rows) kept → AllByRecursion (IsCurrent rows) (cond b (q ∷ kept) kept)
  current_tested q true kept is current = (is, current)
  current_tested q false kept is current = current

  -- those that pass a test have their rows too
  pub current_filtered : (test : IndexKey → Bool) (index_keys : List IndexKey) → AllByRecursion (IsCurrent rows) index_keys → AllByRecursion (IsCurrent rows) (filter test index_keys)
  current_filtered test [] current = tt
  current_filtered test (q ∷ index_keys) current = current_tested q (test q) (filter test index_keys) current.0 (current_filtered test index_keys current.1)

  pub known_from : (known : IndexKey → Bool) (index_keys : List IndexKey) → AllByRecursion (IsCurrent rows) index_keys → AreKnown known (row_of_key rows) index_keys
  known_from known [] current = tt
  known_from known (q ∷ index_keys) current = (inr current.0, known_from known index_keys current.1)

  -- where none is known otherwise, each has its row
  pub current_from : (known : IndexKey → Bool) → ((q : IndexKey) → known q ≡ false) → (index_keys : List IndexKey) → AreKnown known (row_of_key rows) index_keys → AllByRecursion (IsCurrent rows) index_keys
  current_from known none [] all = tt
  current_from known none (q ∷ index_keys) all = (one all.0, current_from known none index_keys all.1)
    where
      one : (known q ≡ true) ⊎ (q.row ≡ row_of_key rows q) → IsCurrent rows q
      one (inl e) = absurd (false≢true (sym (none q) ∙ e))
      one (inr is) = is

-- ---- the segments among them that a test selects

segments_of_both : (w : RowView → Bool) (o : Option RowView) (rows : List RowView) → segments_of (filter w (option_to_list o ++ rows)) ≡ segments_of (filter w (option_to_list o ++ [])) ++ segments_of (filter w rows)
segments_of_both w None rows = refl
segments_of_both w (Some row) rows = by (w row)
  where
    by : (b : Bool) → segments_of (cond b (row ∷ filter w rows) (filter w rows)) ≡ segments_of (cond b (row ∷ []) []) ++ segments_of (filter w rows)
    by true = refl
    by false = refl

-- those of the first of the index keys, and of the others
pub segments_split : (w : RowView → Bool) (o : Option IndexKey) (index_keys left : List IndexKey) → index_keys ≡ option_to_list o ++ left → segments_of (filter w (rows_in index_keys)) ≡ segments_of (filter w (rows_in (option_to_list o))) ++ segments_of (filter w (rows_in left))
segments_split w None index_keys left is = ap (λ l. segments_of (filter w (rows_in l))) is
segments_split w (Some q) index_keys left is = ap (λ l. segments_of (filter w (rows_in l))) is ∙ segments_of_both w q.row (rows_in left)

there_split : (o : Option (Bor SegmentView)) (some : List (Option (Bor SegmentView))) → segments_there (o ∷ some) ≡ segments_there (o ∷ []) ++ segments_there some
there_split None some = refl
there_split (Some s) some = refl

-- the index key that an iterator returned, and those that it has left
pub taken : (r : Option (Bor IndexKey)) (index_keys left : List IndexKey) → MatchOption r ((index_keys ≡ []) × (left ≡ [])) (λ q. index_keys ≡ q.now ∷ left) → index_keys ≡ option_to_list (option_map (λ q. q.now) r) ++ left
taken None index_keys left e = e.0 ∙ sym e.1
taken (Some q) index_keys left e = e

-- the segment that a test selects of an index key, and those of the others
pub segments_next : (w : RowView → Bool) (r : Option (Bor IndexKey)) (segment : Option (Bor SegmentView)) (some : List (Option (Bor SegmentView))) (index_keys left last : List IndexKey) → MatchOption r ((index_keys ≡ []) × (left ≡ [])) (λ q. index_keys ≡ q.now ∷ left)
    → segments_there (segment ∷ []) ≡ segments_of (filter w (rows_in (option_to_list (option_map (λ q. q.now) r)))) → segments_of (filter w (rows_in left)) ≡ segments_there some ++ segments_of (filter w (rows_in last))
    → segments_of (filter w (rows_in index_keys)) ≡ segments_there (segment ∷ some) ++ segments_of (filter w (rows_in last))
segments_next w r segment some index_keys left last steps shown more =
    segments_split w (option_map (λ q. q.now) r) index_keys left (taken r index_keys left steps)
    ∙ ap (λ l. l ++ segments_of (filter w (rows_in left))) (sym shown)
    ∙ ap (λ l. segments_there (segment ∷ []) ++ l) more
    ∙ sym (append_assoc (segments_there (segment ∷ [])) (segments_there some) (segments_of (filter w (rows_in last))))
    ∙ ap (λ l. l ++ segments_of (filter w (rows_in last))) (sym (there_split segment some))
