-- The rows of a type after an id, by their keys: for `of_type_after`.
use Rattle.std.proofs.Common.{◌≡◌, ℕ, ◌+◌, Bool, true, false, not, cond, ◌&&◌, ◌==◌, List, [], ◌∷◌, refl, sym, ap, ◌∙◌}
use Rattle.std.specs.List.{filter}
use Rattle.std.specs.Ordering.{nat_cmp, is_eq, is_lt, is_le, ordering_then}
use Rattle.std.specs.Cmp.{ranks}
use Rattle.std.specs.Cmp.Lexicographic.{slice_cmp}
use Rattle.std.specs.declared.cmp.Ordering.{Ordering}
use Rattle.std.specs.declared.cmp.Ordering.TheVariants.{Less, Equal, Greater}
use Rattle.std.proofs.lemmas.Bool.{false≢true}
use Rattle.std.proofs.lemmas.Bool.Decides.{eqb_tells}
use Rattle.row_map.proofs.Bounds.{zeros, zeros_first, IsNext, next_rank, same_number}
use Rattle.seg_core.specs.Registration.{type_number}
use Rattle.row_map.specs.declared.row.Row.{Row}
use Rattle.row_map.specs.declared.row_key.RowKey.{RowKey}
use Rattle.row_map.specs.Database.{RowView, key_of}
use Rattle.row_map.specs.Row.{row_view}
use Rattle.row_map.specs.RowMap.{bytes_of, views_of, AreUnderTheirKeys}
use Rattle.row_map.proofs.Keyed.{passed_first}
use Rattle.row_map.proofs.Typed.{own_kind}

-- ---- two tests

pub and_true : (b : Bool) → (b && true) ≡ b
and_true true = refl
and_true false = refl

and_false : (b : Bool) → (b && false) ≡ false
and_false true = refl
and_false false = refl

module _ (p q : RowView → Bool) where
  both_first : (b : Bool) (row : RowView) (left all : List RowView) → q row ≡ b → filter p left ≡ all → filter p (cond b (row ∷ left) left) ≡ cond (p row && b) (row ∷ all) all
  both_first true row left all e same = ap (λ l. cond (p row) (row ∷ l) l) same ∙ ap (λ b. cond b (row ∷ all) all) (sym (and_true (p row)))
  both_first false row left all e same = same ∙ ap (λ b. cond b (row ∷ all) all) (sym (and_false (p row)))

  -- the rows that pass both
  pub both_kept : (rows : List RowView) → filter p (filter q rows) ≡ filter (λ row. p row && q row) rows
  both_kept [] = refl
  both_kept (row ∷ rows) = both_first (q row) row (filter q rows) (filter (λ r. p r && q r) rows) refl (both_kept rows)

-- ---- the rows of a type

-- the cases by the orders of a type, of the next type, of an id and of the least id
table : (o p s later : Ordering) → is_le later ≡ true → IsNext o p → (is_lt (ordering_then o s) && not (is_le (ordering_then p later))) ≡ (is_eq o && is_lt (ordering_then o s))
table Less Less s later e next = refl
table Less Equal s later e next = ap not e
table Less Greater s later e next = absurd (false≢true next)
table Equal Less s later e next = absurd (false≢true (sym next))
table Equal Equal s later e next = absurd (false≢true (sym next))
table Equal Greater s later e next = and_true (is_lt s)
table Greater p s later e next = refl

-- the keys above that of a type and an id, and below the least key of the next type
between : (n : ℕ) (id : List ℕ) (k : RowKey)
    → (is_lt (slice_cmp nat_cmp (n ∷ id) (bytes_of k)) && not (is_le (slice_cmp nat_cmp ((n + 1) ∷ zeros 32) (bytes_of k)))) ≡ ((k.kind == n) && is_lt (slice_cmp nat_cmp (n ∷ id) (bytes_of k)))
between n id k =
    table (nat_cmp n k.kind) (nat_cmp (n + 1) k.kind) (slice_cmp nat_cmp id k.id) (slice_cmp nat_cmp (zeros 32) k.id) (zeros_first 32 k.id k.long)
    (next_rank (nat_cmp n k.kind) (nat_cmp (n + 1) k.kind) n k.kind (ranks n k.kind) (ranks (n + 1) k.kind))
    ∙ ap (λ b. b && is_lt (slice_cmp nat_cmp (n ∷ id) (bytes_of k))) (same_number (nat_cmp n k.kind) n k.kind (ranks n k.kind) (eqb_tells k.kind n))

kept_between : (n : ℕ) (id : List ℕ) (es : List (RowKey × Row)) → AreUnderTheirKeys es
    → views_of (filter (λ (e : RowKey × Row). is_lt (slice_cmp nat_cmp (n ∷ id) (bytes_of e.0)) && not (is_le (slice_cmp nat_cmp ((n + 1) ∷ zeros 32) (bytes_of e.0)))) es)
    ≡ filter (λ row. (type_number row.0 == n) && is_lt (slice_cmp nat_cmp (n ∷ id) (key_of row))) (views_of es)
kept_between n id [] own = refl
kept_between n id (e ∷ es) own =
    let test : RowKey × Row → Bool = λ e. is_lt (slice_cmp nat_cmp (n ∷ id) (bytes_of e.0)) && not (is_le (slice_cmp nat_cmp ((n + 1) ∷ zeros 32) (bytes_of e.0))) in
    let left = filter (λ row. (type_number row.0 == n) && is_lt (slice_cmp nat_cmp (n ∷ id) (key_of row))) (views_of es) in
    passed_first (test e) e (filter test es) left (kept_between n id es own.1)
    ∙ ap (λ b. cond b (row_view e.1 ∷ left) left)
    (between n id e.0 ∙ ap (λ m. (m == n) && is_lt (slice_cmp nat_cmp (n ∷ id) (bytes_of e.0))) (own_kind e.0 e.1 own.0) ∙ ap (λ k. (type_number e.1.kind == n) && is_lt (slice_cmp nat_cmp (n ∷ id) k)) own.0)

-- the entries between these keys are the rows of the type above the key
pub rows_typed_after : (n : ℕ) (id : List ℕ) (es : List (RowKey × Row)) → AreUnderTheirKeys es
    → views_of (filter (λ (e : RowKey × Row). is_lt (slice_cmp nat_cmp (n ∷ id) (bytes_of e.0)) && not (is_le (slice_cmp nat_cmp ((n + 1) ∷ zeros 32) (bytes_of e.0)))) es)
    ≡ filter (λ row. type_number row.0 == n) (filter (λ row. is_lt (slice_cmp nat_cmp (n ∷ id) (key_of row))) (views_of es))
rows_typed_after n id es own =
    kept_between n id es own ∙ sym (both_kept (λ row. type_number row.0 == n) (λ row. is_lt (slice_cmp nat_cmp (n ∷ id) (key_of row))) (views_of es))
