-- The numbers of rows of each type: for the calls of `RowMap`.
use Rattle.std.proofs.Common.{◌≡◌, ℕ, ◌+◌, ◌<◌, ◌^◌, ◌≤◌, ◌==◌, Bool, true, false, not, cond, List, length, Option, Some, None, refl, sym, ap, ◌∙◌, arith}
use Rattle.std.specs.List.{count_by}
use Rattle.std.specs.List.Sorted.{IsStrictlySortedBy}
use Rattle.std.specs.Map.{keys_of, values_of, lookup, remove_entry}
use Rattle.std.specs.BTreeMap.{insert_entry, is_at}
use Rattle.std.specs.Option.{option_map, is_some}
use Rattle.std.proofs.lemmas.List.{length-map}
use Rattle.std.proofs.lemmas.List.Sums.{count_by-le-length}
use Rattle.std.proofs.lemmas.Map.Entries.{length-values_of}
use Rattle.seg_core.specs.declared.seg_type.SegType.{SegType}
use Rattle.seg_core.specs.declared.seg_type.SegType.TheVariants.{Up, Down, Core}
use Rattle.seg_core.specs.Registration.{type_number}
use Rattle.seg_core.specs.Digest.{segment_digest}
use Rattle.row_map.specs.declared.row.Row.{Row}
use Rattle.row_map.specs.declared.row_key.RowKey.{RowKey}
use Rattle.row_map.specs.declared.type_counts.TypeCounts.{TypeCounts}
use Rattle.row_map.specs.Database.{RowView, key, key_of, row_under}
use Rattle.row_map.specs.Ranges.{is_of_type}
use Rattle.row_map.specs.Row.{row_view}
use Rattle.row_map.specs.RowMap.{bytes_of, views_of, number_if_any, AreUnderTheirKeys}
use Rattle.row_map.specs.TypeCounts.{count_of, one_of, AreCounted}
use Rattle.row_map.proofs.Keyed.{key_cmp, found_by, removed_sum, set_sum}
use Rattle.row_map.proofs.Keys.{its_key}
use Rattle.row_map.proofs.PutRow.{found_is_under}

-- what a row adds to the count of a type
abbrev pub one : SegType → RowView → ℕ
one other row = cond (is_of_type other row) 1 0

-- keys that are equal are of one type
type_of_key : (kind : SegType) (id : List ℕ) (row : RowView) → key kind id ≡ key_of row → type_number kind ≡ type_number row.0
unfolding key_of
type_of_key kind id row same = cc

-- a row that was found under a key is of the key's type
pub found_of_type : (kind : SegType) (id : List ℕ) (rows : List RowView) (row : RowView) → row_under (key kind id) rows ≡ Some row → type_number kind ≡ type_number row.0
found_of_type kind id rows row e = type_of_key kind id row (its_key (key kind id) row (found_is_under (key kind id) rows row e))

-- what was found adds as much to each count as a row of the key's type
found_adds : (kind : SegType) (id : List ℕ) (rows : List RowView) (found : Option Row) (other : SegType) → option_map row_view found ≡ row_under (key kind id) rows
    → number_if_any (one other) (option_map row_view found) ≡ one_of (is_some found) kind other
found_adds kind id rows None other e = refl
found_adds kind id rows (Some row) other e = ap (λ n. cond (n == type_number other) 1 0) (sym (found_of_type kind id rows (row_view row) (sym e)))

-- the other of two tests
pub not_back : (b c : Bool) → b ≡ not c → c ≡ not b
not_back true true e = e
not_back true false e = refl
not_back false true e = refl
not_back false false e = e

-- a row adds one to the count of its own type
one_itself : (kind : SegType) → one_of true kind kind ≡ 1
one_itself Up = refl
one_itself Core = refl
one_itself Down = refl

pub few_rows : (kind : SegType) (es : List (RowKey × Row)) → count_by (is_of_type kind) (views_of es) ≤ length es
few_rows kind es = omega (arith, count_by-le-length (is_of_type kind) (views_of es), length-map (values_of es) row_view, length-values_of es)

module _ (q : RowKey) (es : List (RowKey × Row)) (own : AreUnderTheirKeys es) (counts : TypeCounts) (counted : AreCounted counts (views_of es)) where
  abbrev was_there : Bool
  was_there = is_some (lookup (is_at (key_cmp q)) es)

  adds : (kind : SegType) (id : List ℕ) (other : SegType) → bytes_of q ≡ key kind id → number_if_any (one other) (option_map row_view (lookup (is_at (key_cmp q)) es)) ≡ one_of was_there kind other
  adds kind id other its = found_adds kind id (views_of es) (lookup (is_at (key_cmp q)) es) other (found_by q es own ∙ ap (λ k. row_under k (views_of es)) its)

  -- the counts after a removal
  pub removal_counts : (kind : SegType) (id : List ℕ) (other : SegType) → bytes_of q ≡ key kind id → count_by (is_of_type other) (views_of (remove_entry (is_at (key_cmp q)) es)) + one_of was_there kind other ≡ count_of counts other
  removal_counts kind id other its = omega (arith, removed_sum (one other) q es, adds kind id other its, counted other)

  -- a row that is removed was counted
  pub removed_was_counted : (kind : SegType) (id : List ℕ) → bytes_of q ≡ key kind id → was_there ≡ true → 0 < count_of counts kind
  removed_was_counted kind id its there = omega (arith, removal_counts kind id kind its, ap (λ b. one_of b kind kind) there, one_itself kind)

  module _ (row : Row) (its : bytes_of q ≡ key_of (row_view row)) (sorted : IsStrictlySortedBy key_cmp (keys_of es)) where
    as_key : bytes_of q ≡ key row.kind (segment_digest row.segment)
    unfolding key_of
    as_key = its

    -- the counts after a put
    pub put_counts : (other : SegType) → count_by (is_of_type other) (views_of (insert_entry key_cmp es q row)) + one_of was_there row.kind other ≡ count_of counts other + one_of true row.kind other
    put_counts other = omega (arith, set_sum (one other) q row es sorted, adds row.kind (segment_digest row.segment) other as_key, counted other)

    -- there is room for the count of a new row
    pub new_is_counted : was_there ≡ false → length (insert_entry key_cmp es q row) < 2 ^ 63 → count_of counts row.kind < 2 ^ 63
    new_is_counted absent few = omega (arith, put_counts row.kind, ap (λ b. one_of b row.kind row.kind) absent, one_itself row.kind, few_rows row.kind (insert_entry key_cmp es q row), few)

    -- a replaced row leaves the counts
    pub replaced_counts : was_there ≡ true → AreCounted counts (views_of (insert_entry key_cmp es q row))
    replaced_counts there = λ other. omega (arith, put_counts other, ap (λ b. one_of b row.kind other) there)

    by_case : (b : Bool) (sum old new : ℕ) (other : SegType) → sum + one_of b row.kind other ≡ old + one_of true row.kind other → new ≡ old + one_of (not b) row.kind other → new ≡ sum
    by_case true sum old new other put added = omega (arith, put, added)
    by_case false sum old new other put added = omega (arith, put, added)

    -- a new row is counted
    pub added_counts : (new : TypeCounts) → ((other : SegType) → count_of new other ≡ count_of counts other + one_of (not was_there) row.kind other) → AreCounted new (views_of (insert_entry key_cmp es q row))
    added_counts new added = λ other. by_case was_there (count_by (is_of_type other) (views_of (insert_entry key_cmp es q row))) (count_of counts other) (count_of new other) other (put_counts other) (added other)
