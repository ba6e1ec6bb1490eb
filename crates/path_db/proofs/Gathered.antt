-- The rows that were gathered from index keys in any order: for `sorted_rows`.
use Rattle.std.proofs.Common.{◌≡◌, ◌<◌, ℕ, Bool, true, false, cond, inl, inr, ◌⊎◌, List, [], ◌∷◌, ◌++◌, length, if◌then◌else◌, Option, Some, None, refl, sym, ap, ◌∙◌, subst, arith}
use Rattle.std.specs.List.{filter}
use Rattle.std.specs.Ordering.{nat_cmp}
use Rattle.std.specs.Cmp.Lexicographic.{slice_cmp}
use Rattle.std.specs.Option.{option_to_list}
use Rattle.std.proofs.lemmas.Bool.{false≢true}
use Rattle.std.proofs.lemmas.Map.Lookups.{exact_bytes}
use Rattle.seg_core.specs.SegmentView.{SegmentView}
use Rattle.row_map.specs.IndexKey.{IndexKey}
use Rattle.row_map.specs.Database.{RowView, IsRising, is_under, row_under}
use Rattle.row_map.specs.Left.{kept_if}
use Rattle.row_map.specs.RowMap.{HasRowPut, indexed_key}
use Rattle.row_map.specs.Saved.{is_key}
use Rattle.path_db.specs.Answer.{segments_of}
use Rattle.path_db.specs.Walk.{has_key}
use Rattle.row_map.proofs.Exports.{rising_filtered, its_key, equal_from, test_leaves, database_is_canonical, found_is_under, either_from}

-- the rows gathered so far, and the index keys that are left
pub record IsGathering (w : RowView → Bool) (rows found : List RowView) (left : List IndexKey) : Type 0 where
  -- the rows gathered are rows that pass the test
  pub within : (k : List ℕ) (r : RowView) → row_under k found ≡ Some r → (row_under k rows ≡ Some r) × (w r ≡ true)
  -- each other row that passes the test is at an index key that is left
  pub ahead : (k : List ℕ) (r : RowView) → row_under k rows ≡ Some r → w r ≡ true → (has_key k left ≡ true) ⊎ (row_under k found ≡ Some r)
  -- the keys of the rows gathered rise
  pub rising : IsRising found

-- ---- the row at an index key, where it passes the test

-- the row of a segment that was found
abbrev pub IsRowFound : (RowView → Bool) → Option RowView → SegmentView → Type 0
IsRowFound w o segment = (r : RowView) × (o ≡ Some r) × (w r ≡ true) × (r.1 ≡ segment)

module _ (w : RowView → Bool) where
  passes : (b : Bool) (r : RowView) (segment : SegmentView) → w r ≡ b → segment ∷ [] ≡ segments_of (cond b (r ∷ []) []) → (w r ≡ true) × (r.1 ≡ segment)
  passes true r segment e same = (e, let one : r.1 ≡ segment = cc in one)
  passes false r segment e same = absurd (cc (same))

  pub one_passes : (o : Option RowView) (segment : SegmentView) → segment ∷ [] ≡ segments_of (filter w (option_to_list o ++ [])) → IsRowFound w o segment
  one_passes None segment same = absurd (cc (same))
  one_passes (Some r) segment same = let it = passes (w r) r segment refl same in (r, refl, it.0, it.1)

  fails : (b : Bool) (r : RowView) → w r ≡ b → [] ≡ segments_of (cond b (r ∷ []) []) → w r ≡ false
  fails true r e same = absurd (cc (same))
  fails false r e same = e

  pub none_passes : (o : Option RowView) → [] ≡ segments_of (filter w (option_to_list o ++ [])) → (s : RowView) → o ≡ Some s → w s ≡ false
  none_passes None same s e = absurd (cc (e))
  none_passes (Some r) same s e = subst (λ t. w t ≡ false) (let one : r ≡ s = cc in one) (fails (w r) r refl same)

module _ (w : RowView → Bool) (rows : List RowView) where
  some_same : (r s : RowView) → Some r ≡ Some s → r ≡ s
  some_same r s e = cc

  same_key : (k : List ℕ) (q : IndexKey) → is_key k (indexed_key q) ≡ true → k ≡ indexed_key q
  same_key k q e = exact_bytes k (indexed_key q) (equal_from (slice_cmp nat_cmp k (indexed_key q)) e)

  -- ---- steps

  pub gathered_same : (q : IndexKey) (found : List RowView) (left : List IndexKey) → ((s : RowView) → row_under (indexed_key q) rows ≡ Some s → w s ≡ false) → IsGathering w rows found (q ∷ left) → IsGathering w rows found left
  gathered_same q found left none before = record {
    within = before.within;
    ahead = λ k r there wanted. elim (before.ahead k r there wanted) [
      | inl key ↦ elim (either_from (is_key k (indexed_key q)) (has_key k left) key) [
        | inl same ↦ absurd (false≢true (sym (none r (subst (λ l. row_under l rows ≡ Some r) (same_key k q same) there)) ∙ wanted))
        | inr later ↦ inl later
      ]
      | inr has ↦ inr has
    ];
    rising = before.rising;
  }

  module _ (q : IndexKey) (r : RowView) (at : row_under (indexed_key q) rows ≡ Some r) (found new : List RowView) (put : HasRowPut found r new) where
    -- the row is under no other key
    its_place : (k : List ℕ) → is_under k r ≡ true → row_under k rows ≡ Some r
    its_place k under =
        let same : indexed_key q ≡ k = its_key (indexed_key q) r (found_is_under (indexed_key q) rows r at) ∙ sym (its_key k r under) in
        subst (λ l. row_under l rows ≡ Some r) same at

    put_there : (k : List ℕ) → is_under k r ≡ true → row_under k new ≡ Some r
    put_there k under = put k ∙ ap (λ b. if b then Some r else row_under k found) under

    put_apart : (k : List ℕ) → is_under k r ≡ false → row_under k new ≡ row_under k found
    put_apart k under = put k ∙ ap (λ b. if b then Some r else row_under k found) under

    within_at : (k : List ℕ) (s : RowView) (b : Bool) → is_under k r ≡ b → w r ≡ true → ((t : RowView) → row_under k found ≡ Some t → (row_under k rows ≡ Some t) × (w t ≡ true)) → row_under k new ≡ Some s → (row_under k rows ≡ Some s) × (w s ≡ true)
    within_at k s true under wanted before e =
        let one : r ≡ s = some_same r s (sym (put_there k under) ∙ e) in
        (its_place k under ∙ ap Some one, ap w (sym one) ∙ wanted)
    within_at k s false under wanted before e = before s (sym (put_apart k under) ∙ e)

    kept_at : (k : List ℕ) (s : RowView) (b : Bool) → is_under k r ≡ b → row_under k rows ≡ Some s → row_under k found ≡ Some s → row_under k new ≡ Some s
    kept_at k s true under there has = put_there k under ∙ sym (its_place k under) ∙ there
    kept_at k s false under there has = put_apart k under ∙ has

    here_at : (k : List ℕ) (s : RowView) → row_under k rows ≡ Some s → is_key k (indexed_key q) ≡ true → row_under k new ≡ Some s
    here_at k s there same =
        let found_here : row_under k rows ≡ Some r = subst (λ l. row_under l rows ≡ Some r) (sym (same_key k q same)) at in
        put_there k (found_is_under k rows r found_here) ∙ sym found_here ∙ there

    pub gathered_more : (left : List IndexKey) → w r ≡ true → IsRising new → IsGathering w rows found (q ∷ left) → IsGathering w rows new left
    gathered_more left wanted rising before = record {
      within = λ k s. within_at k s (is_under k r) refl wanted (before.within k);
      ahead = λ k s there passes. elim (before.ahead k s there passes) [
        | inl key ↦ elim (either_from (is_key k (indexed_key q)) (has_key k left) key) [
          | inl same ↦ inr (here_at k s there same)
          | inr later ↦ inl later
        ]
        | inr has ↦ inr (kept_at k s (is_under k r) refl there has)
      ];
      rising = rising;
    }

  -- ---- the end

  module _ (found : List RowView) (done : IsGathering w rows found []) where
    none_there : (k : List ℕ) (o : Option RowView) → row_under k found ≡ o → ((r : RowView) → (row_under k rows ≡ Some r) × (w r ≡ true) → ⊥) → o ≡ None
    none_there k None e never = refl
    none_there k (Some r) e never = absurd (never r (done.within k r e))

    tested : (k : List ℕ) (r : RowView) (b : Bool) → row_under k rows ≡ Some r → w r ≡ b → row_under k found ≡ (if b then Some r else None)
    tested k r true there wanted = elim (done.ahead k r there wanted) [
      | inl key ↦ absurd (false≢true key)
      | inr has ↦ has
    ]
    tested k r false there wanted = none_there k (row_under k found) refl (λ s says. false≢true (sym wanted ∙ ap w (some_same r s (sym there ∙ says.0)) ∙ says.1))

    under : (k : List ℕ) (o : Option RowView) → row_under k rows ≡ o → row_under k found ≡ kept_if w o
    under k None e = none_there k (row_under k found) refl (λ s says. let wrong : None ≡ Some s = sym e ∙ says.0 in cc)
    under k (Some r) e = tested k r (w r) e refl

    pub gathered_all : IsRising rows → found ≡ filter w rows
    gathered_all rising =
        database_is_canonical found (filter w rows) done.rising (rising_filtered w rows rising) (λ k. under k (row_under k rows) refl ∙ sym (test_leaves k w rows rising))

  -- ---- a row that passes the test

  some_rows : (k : List ℕ) (r : RowView) (some : List RowView) → row_under k some ≡ Some r → 0 < length some
  some_rows k r [] e = absurd (cc (e))
  some_rows k r (s ∷ some) e = omega arith

  pub some_pass : IsRising rows → (k : List ℕ) (r : RowView) → row_under k rows ≡ Some r → w r ≡ true → 0 < length (filter w rows)
  some_pass rising k r there wanted =
      some_rows k r (filter w rows) (test_leaves k w rows rising ∙ ap (kept_if w) there ∙ ap (λ b. if b then Some r else None) wanted)

  -- no row was gathered
  pub gathered_none : (left : List IndexKey) → ((k : List ℕ) (r : RowView) → row_under k rows ≡ Some r → w r ≡ true → has_key k left ≡ true) → IsGathering w rows [] left
  gathered_none left all = record {
    within = λ k r e. absurd (cc (e));
    ahead = λ k r there wanted. inl (all k r there wanted);
    rising = tt;
  }
