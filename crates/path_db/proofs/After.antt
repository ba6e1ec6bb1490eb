-- The rows at index keys after an id: for `shown_at` and `matching_after`.
use Rattle.std.proofs.Common.{◌≡◌, ℕ, Bool, true, false, cond, ◌&&◌, ◌==◌, List, [], ◌∷◌, ◌++◌, Option, Some, None, refl, sym, ap, ◌∙◌, subst}
use Rattle.std.specs.List.{filter}
use Rattle.std.specs.Option.{option_to_list}
use Rattle.std.specs.Ordering.{nat_cmp, is_lt, ordering_then}
use Rattle.std.specs.Cmp.Lexicographic.{slice_cmp}
use Rattle.std.specs.declared.cmp.Ordering.TheVariants.{Equal}
use Rattle.std.proofs.lemmas.Cmp.{nat_cmp_total, tied_itself}
use Rattle.std.proofs.lemmas.List.Elements.{filter_agree}
use Rattle.row_map.specs.IndexKey.{IndexKey, stands_at, is_after_id}
use Rattle.seg_core.specs.declared.seg_type.SegType.{SegType}
use Rattle.seg_core.specs.Registration.{type_number}
use Rattle.row_map.specs.Database.{RowView, key_of, row_under}
use Rattle.row_map.specs.RowMap.{indexed_key}
use Rattle.row_map.specs.Ranges.{is_after}
use Rattle.path_db.specs.Wanted.{is_past}
use Rattle.path_db.specs.Walk.{rows_at, is_past_id}
use Rattle.path_db.proofs.Walked.{equal_number}
use Rattle.row_map.proofs.Exports.{and_true, its_key, first_from, found_is_under}

either_same : {X : Type 0} (b : Bool) (x : X) → cond b x x ≡ x
either_same true x = refl
either_same false x = refl

-- ---- the rows at index keys

module _ (rows : List RowView) (kind : SegType) (number : ℕ) (id : List ℕ) where
  -- a row at an index key of the type is above the key where the index key is above the id
  after_found : (q : IndexKey) (r : RowView) → row_under (indexed_key q) rows ≡ Some r → q.kind ≡ type_number kind → is_after kind id r ≡ is_after_id id q
  after_found q r there typed =
      let its : indexed_key q ≡ key_of r = its_key (indexed_key q) r (found_is_under (indexed_key q) rows r there) in
      let kinds : nat_cmp (type_number kind) q.kind ≡ Equal = subst (λ n. nat_cmp (type_number kind) n ≡ Equal) (sym typed) (tied_itself nat_cmp_total (type_number kind)) in
      ap (λ k. is_lt (slice_cmp nat_cmp (type_number kind ∷ id) k)) (sym its) ∙ ap (λ o. is_lt (ordering_then o (slice_cmp nat_cmp id q.id))) kinds

  after_at : (q : IndexKey) (found : Option RowView) (some all : List RowView) → row_under (indexed_key q) rows ≡ found → q.kind ≡ type_number kind → some ≡ filter (is_after kind id) all
      → cond (is_after_id id q) (option_to_list found ++ some) some ≡ filter (is_after kind id) (option_to_list found ++ all)
  after_at q None some all there typed same = either_same (is_after_id id q) some ∙ same
  after_at q (Some r) some all there typed same =
      ap (λ l. cond (is_after_id id q) (r ∷ l) l) same ∙ ap (λ b. cond b (r ∷ filter (is_after kind id) all) (filter (is_after kind id) all)) (sym (after_found q r there typed))

  after_tested : (q : IndexKey) (b c : Bool) (some all : List IndexKey) → stands_at (type_number kind) number q ≡ b → is_after_id id q ≡ c → rows_at rows some ≡ filter (is_after kind id) (rows_at rows all)
      → rows_at rows (cond (b && c) (q ∷ some) some) ≡ filter (is_after kind id) (rows_at rows (cond b (q ∷ all) all))
  after_tested q false c some all at e same = same
  after_tested q true true some all at e same =
      sym (ap (λ b. cond b (option_to_list (row_under (indexed_key q) rows) ++ rows_at rows some) (rows_at rows some)) e)
      ∙ after_at q (row_under (indexed_key q) rows) (rows_at rows some) (rows_at rows all) refl (equal_number q.kind (type_number kind) (first_from (q.kind == type_number kind) (q.isd_as == number) at)) same
  after_tested q true false some all at e same =
      sym (ap (λ b. cond b (option_to_list (row_under (indexed_key q) rows) ++ rows_at rows some) (rows_at rows some)) e)
      ∙ after_at q (row_under (indexed_key q) rows) (rows_at rows some) (rows_at rows all) refl (equal_number q.kind (type_number kind) (first_from (q.kind == type_number kind) (q.isd_as == number) at)) same

  walked_after : (index_keys : List IndexKey) → rows_at rows (filter (λ q. stands_at (type_number kind) number q && is_after_id id q) index_keys) ≡ filter (is_after kind id) (rows_at rows (filter (stands_at (type_number kind) number) index_keys))
  walked_after [] = refl
  walked_after (q ∷ index_keys) =
      after_tested q (stands_at (type_number kind) number q) (is_after_id id q)
      (filter (λ q. stands_at (type_number kind) number q && is_after_id id q) index_keys) (filter (stands_at (type_number kind) number) index_keys) refl refl (walked_after index_keys)

pub kept_all : (rows : List RowView) → filter (λ row. true) rows ≡ rows
kept_all [] = refl
kept_all (row ∷ rows) = ap (λ l. row ∷ l) (kept_all rows)

-- the same where an id may be given
pub walked_past : (rows : List RowView) (kind : SegType) (number : ℕ) (after : Option (List ℕ)) (index_keys : List IndexKey)
    → rows_at rows (filter (λ q. stands_at (type_number kind) number q && is_past_id after q) index_keys) ≡ filter (is_past kind after) (rows_at rows (filter (stands_at (type_number kind) number) index_keys))
walked_past rows kind number None index_keys =
    ap (rows_at rows) (filter_agree (λ q. stands_at (type_number kind) number q && true) (stands_at (type_number kind) number) (λ q. and_true (stands_at (type_number kind) number q)) index_keys)
    ∙ sym (kept_all (rows_at rows (filter (stands_at (type_number kind) number) index_keys)))
walked_past rows kind number (Some id) index_keys = walked_after rows kind number id index_keys
