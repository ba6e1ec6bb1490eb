-- The rows that a test keeps, and how many rows it drops: for `purge`, `remove` and `outcome_laws`.
use Rattle.std.proofs.Common.{◌≡◌, ◌≤◌, ℕ, ◌+◌, ◌-◌, Bool, true, false, not, cond, List, [], ◌∷◌, length, refl, ap, ◌∙◌, arith}
use Rattle.std.specs.List.{filter, count_by}
use Rattle.std.proofs.lemmas.List.Sums.{sum_by-cons}
use Rattle.row_map.specs.declared.row.Row.{Row}
use Rattle.row_map.specs.Database.{RowView, row_len, rows_len}
use Rattle.row_map.specs.Row.{row_view, row_views}

views_tested : (row : Row) (rows : List Row) (b : Bool) → row_views (cond b (row ∷ rows) rows) ≡ cond b (row_view row ∷ row_views rows) (row_views rows)
views_tested row rows true = refl
views_tested row rows false = refl

-- rows that are tested by their views
pub filter_views : (p : RowView → Bool) (rows : List Row) → row_views (filter (λ row. p (row_view row)) rows) ≡ filter p (row_views rows)
filter_views p [] = refl
filter_views p (row ∷ rows) =
    views_tested row (filter (λ r. p (row_view r)) rows) (p (row_view row))
    ∙ ap (λ l. cond (p (row_view row)) (row_view row ∷ l) l) (filter_views p rows)

counts_tested : (row : RowView) (left : List RowView) (b : Bool) (dropped dropped_more all : ℕ) → dropped_more ≡ cond (not b) 1 0 + dropped → length left + dropped ≡ all → length (cond b (row ∷ left) left) + dropped_more ≡ all + 1
counts_tested row left true dropped dropped_more all more so = omega (arith, more, so)
counts_tested row left false dropped dropped_more all more so = omega (arith, more, so)

-- the rows that are kept and those that are dropped are all rows
pub left_and_dropped : (p : RowView → Bool) (rows : List RowView) → length (filter p rows) + count_by (λ row. not (p row)) rows ≡ length rows
left_and_dropped p [] = refl
left_and_dropped p (row ∷ rows) =
    counts_tested row (filter p rows) (p row) (count_by (λ r. not (p r)) rows) (count_by (λ r. not (p r)) (row ∷ rows)) (length rows) (sum_by-cons (λ r. cond (not (p r)) 1 0) row rows) (left_and_dropped p rows)
    ∙ omega arith

pub dropped_count : (p : RowView → Bool) (rows : List RowView) → length rows - length (filter p rows) ≡ count_by (λ row. not (p row)) rows
dropped_count p rows = omega (arith, left_and_dropped p rows)

pub fewer_left : (p : RowView → Bool) (rows : List RowView) → length (filter p rows) ≤ length rows
fewer_left p rows = omega (arith, left_and_dropped p rows)

-- the rows that are kept have no more bytes
bytes_tested : (row : RowView) (left rows : List RowView) (b : Bool) → rows_len left ≤ rows_len rows → rows_len (cond b (row ∷ left) left) ≤ rows_len (row ∷ rows)
bytes_tested row left rows true so = omega (arith, so, sum_by-cons row_len row left, sum_by-cons row_len row rows)
bytes_tested row left rows false so = omega (arith, so, sum_by-cons row_len row rows)

pub fewer_bytes : (p : RowView → Bool) (rows : List RowView) → rows_len (filter p rows) ≤ rows_len rows
fewer_bytes p [] = omega arith
fewer_bytes p (row ∷ rows) = bytes_tested row (filter p rows) rows (p row) (fewer_bytes p rows)
