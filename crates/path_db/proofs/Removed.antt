-- The index keys after a removal: for `remove`.
use Rattle.std.proofs.Common.{◌≡◌, ℕ, Bool, true, false, not, ◌&&◌, List, [], ◌∷◌, if◌then◌else◌, Option, Some, None, refl, sym, ap, ◌∙◌, subst}
use Rattle.std.specs.List.{AllByRecursion}
use Rattle.std.specs.Ordering.{nat_cmp}
use Rattle.std.specs.Cmp.Lexicographic.{slice_cmp}
use Rattle.std.proofs.lemmas.Bool.{false≢true}
use Rattle.std.proofs.lemmas.Map.Lookups.{exact_bytes}
use Rattle.row_map.specs.IndexKey.{IndexKey, has, is_same}
use Rattle.row_map.specs.Database.{RowView, IsRising, is_under, row_under}
use Rattle.row_map.specs.Drops.{database_after_removal}
use Rattle.row_map.specs.RowMap.{indexed_key}
use Rattle.row_map.specs.Saved.{is_key}
use Rattle.row_map.specs.EndKeys.{is_of, is_index_key, ends_at, stands, row_of_key, IsEndIndex, IsRowIndex, IsCurrent, IsTakenOut}
use Rattle.row_map.proofs.Exports.{its_key, equal_from, rising_filtered, database_is_canonical, found_is_under, removal_leaves, is_key_itself, EndOf, same_if, same_from, one_index_key, both_from}
use Rattle.path_db.proofs.Current.{known_from, current_from}
use Rattle.path_db.proofs.Walked.{all_there}

-- ---- a removal

module _ (end : EndOf) (rows : List RowView) (rising : IsRising rows) (l : List ℕ) (row : RowView) (there : row_under l rows ≡ Some row) (p : IndexKey) (its : is_index_key end p row ≡ true) where
  same_key : indexed_key p ≡ l
  same_key = its_key (indexed_key p) row (first_of (is_under (indexed_key p) row) (is_of (end row.1.entries) p.isd_as) its) ∙ sym (its_key l row (found_is_under l rows row there))
    where
      first_of : (a b : Bool) → (a && b) ≡ true → a ≡ true
      first_of true b e = refl
      first_of false b e = e

  key_from : (q : IndexKey) → is_key (indexed_key q) l ≡ true → indexed_key q ≡ l
  key_from q e = exact_bytes (indexed_key q) l (equal_from (slice_cmp nat_cmp (indexed_key q) l) e)

  other_index_key : (q : IndexKey) (b : Bool) → is_same q p ≡ b → is_key (indexed_key q) l ≡ false → is_same q p ≡ false
  other_index_key q true same e =
      let parts = same_from q p same in
      let keys : indexed_key q ≡ l = rw (parts.kind, parts.id) same_key in
      absurd (false≢true (sym e ∙ subst (λ k. is_key k l ≡ true) (sym keys) (is_key_itself l)))
  other_index_key q false same e = same

  and_false : (b : Bool) → (b && false) ≡ false
  and_false true = refl
  and_false false = refl

  removed_index_key : (q : IndexKey) (b c : Bool) (before after : List IndexKey) → is_key (indexed_key q) l ≡ b → is_of (end row.1.entries) q.isd_as ≡ c → IsEndIndex end rows before → has after q ≡ (not (is_same q p) && has before q)
      → has after q ≡ ends_at end q.isd_as (if b then None else row_under (indexed_key q) rows)
  removed_index_key q true true before after e of index taken =
      let same = same_if q p (one_index_key end q p row (both_from (is_under (indexed_key q) row) (is_of (end row.1.entries) q.isd_as) (subst (λ k. is_under k row ≡ true) (sym (key_from q e)) (found_is_under l rows row there)) of) its) in
      taken ∙ ap (λ b. not b && has before q) same
  removed_index_key q true false before after e of index taken =
      taken ∙ ap (λ b. not (is_same q p) && b) (index q ∙ ap (λ k. ends_at end q.isd_as (row_under k rows)) (key_from q e) ∙ ap (ends_at end q.isd_as) there ∙ of) ∙ and_false (not (is_same q p))
  removed_index_key q false c before after e of index taken =
      taken ∙ ap (λ b. not b && has before q) (other_index_key q (is_same q p) refl e) ∙ index q

  removed_keys : (before after : List IndexKey) (left : List RowView) → left ≡ database_after_removal rows l → IsEndIndex end rows before → ((q : IndexKey) → has after q ≡ (not (is_same q p) && has before q)) → IsEndIndex end left after
  removed_keys before after left is index taken q =
      removed_index_key q (is_key (indexed_key q) l) (is_of (end row.1.entries) q.isd_as) before after refl refl index (taken q)
      ∙ sym (ap (λ rows. stands end rows q) is ∙ ap (ends_at end q.isd_as) (removal_leaves (indexed_key q) l rows rising))

  -- an index key of a row has the row that was under it
  still : (q : IndexKey) (b : Bool) (found now : Option RowView) → now ≡ (if b then None else found) → ends_at end q.isd_as now ≡ true → found ≡ now
  still q true found now is there = absurd (false≢true (sym (ap (ends_at end q.isd_as) is) ∙ there))
  still q false found now is there = sym is

  still_each : (left : List RowView) → left ≡ database_after_removal rows l → (xs : List IndexKey) → AllByRecursion (λ q. stands end left q ≡ true) xs → AllByRecursion (IsCurrent rows) xs → AllByRecursion (IsCurrent left) xs
  still_each left is [] there current = tt
  still_each left is (q ∷ xs) there current =
      let leaves = ap (row_under (indexed_key q)) is ∙ removal_leaves (indexed_key q) l rows rising in
      (current.0 ∙ still q (is_key (indexed_key q) l) (row_under (indexed_key q) rows) (row_under (indexed_key q) left) leaves there.0, still_each left is xs there.1 current.1)

-- each index key of an index is that of a row
stands_each : (end : EndOf) (rows : List RowView) (after xs : List IndexKey) → IsEndIndex end rows after → AllByRecursion (λ q. has after q ≡ true) xs → AllByRecursion (λ q. stands end rows q ≡ true) xs
stands_each end rows after [] index all = tt
stands_each end rows after (q ∷ xs) index all = (sym (index q) ∙ all.0, stands_each end rows after xs index all.1)

pub removed_index : (end : EndOf) (rows : List RowView) (l : List ℕ) (row : RowView) (before after : List IndexKey) (left : List RowView) → IsRising rows → row_under l rows ≡ Some row → left ≡ database_after_removal rows l → IsRowIndex end rows before
    → IsTakenOut end row before after → IsRowIndex end left after
removed_index end rows l row before after left rising there is index taken =
    let keys = removed_keys end rows rising l row there taken.index_key taken.its before after left is index.keys taken.gone in
    let current = current_from rows (λ q. false && not (is_same q taken.index_key)) (λ q. refl) after (taken.rows (λ q. false) (row_of_key rows) (known_from rows (λ q. false) before index.current)) in
    record {
      keys = keys;
      current = still_each end rows rising l row there taken.index_key taken.its left is after (stands_each end left after after keys (all_there after)) current;
    }

-- where no row is under a key, a removal keeps all index keys
pub kept_index : (end : EndOf) (rows left : List RowView) (index_keys : List IndexKey) → left ≡ rows → IsRowIndex end rows index_keys → IsRowIndex end left index_keys
kept_index end rows left index_keys same index = subst (λ r. IsRowIndex end r index_keys) (sym same) index

-- a removal under a key without a row changes nothing
pub none_to_remove : (l : List ℕ) (rows : List RowView) → IsRising rows → row_under l rows ≡ None → database_after_removal rows l ≡ rows
none_to_remove l rows rising none =
    database_is_canonical (database_after_removal rows l) rows (rising_filtered (λ row. not (is_under l row)) rows rising) rising
    (λ k. removal_leaves k l rows rising ∙ under_none k (is_key k l) refl)
  where
    under_none : (k : List ℕ) (b : Bool) → is_key k l ≡ b → (if b then None else row_under k rows) ≡ row_under k rows
    under_none k true e = sym (ap (λ m. row_under m rows) (exact_bytes k l (equal_from (slice_cmp nat_cmp k l) e)) ∙ none)
    under_none k false e = refl
