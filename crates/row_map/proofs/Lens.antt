-- The bytes of rows: for `put`, `put_all`, `bytes_of` and the calls of `PathDb`.
use Rattle.std.proofs.Common.{◌≡◌, ℕ, ◌+◌, ◌*◌, ◌≤◌, ◌<◌, List, [], ◌∷◌, length, get_or, set, sym, ap, ◌∙◌, arith}
use Rattle.std.specs.List.{insert, remove}
use Rattle.std.proofs.lemmas.List.{get_or-map, map-set, length-map, map-append, take-map, drop-map}
use Rattle.std.proofs.lemmas.List.Sums.{sum_by-cons, sum_by-set, sum_by-insert, sum_by-remove}
use Rattle.row_map.specs.declared.row.Row.{Row}
use Rattle.row_map.specs.Database.{row_len, rows_len}
use Rattle.row_map.specs.Row.{row_view, row_views}

-- the bytes of rows are bounded by their number
pub rows_short : (rows : List Row) → rows_len (row_views rows) ≤ 16389 * length rows
rows_short [] = omega arith
rows_short (row ∷ rows) = omega (arith, row.short, sum_by-cons row_len (row_view row) (row_views rows), rows_short rows)

-- a row is inserted among the views of the rows
pub insert_views : (rows : List Row) (at : ℕ) (new : Row) → row_views (insert rows at new) ≡ insert (row_views rows) at (row_view new)
insert_views rows at new = rw (map-append, take-map, drop-map)

-- the row at an index counts in the bytes of all rows
pub row_counted : (rows : List Row) (at : ℕ) (d : Row) → at < length rows → row_len (row_view (get_or rows at d)) ≤ rows_len (row_views rows)
row_counted rows at d lt =
    let in_views : at < length (row_views rows) = rw (length-map rows row_view) lt in
    let removed = rw (get_or-map row_view rows at d (row_view d) lt) at (sum_by-remove row_len (row_views rows) at (row_view d) in_views) in
    omega (arith, removed)

-- the count after a row was replaced
pub set_counted : (rows : List Row) (at : ℕ) (d new : Row) (before after : ℕ) → at < length rows → before ≡ rows_len (row_views rows) → after + row_len (row_view (get_or rows at d)) ≡ before + row_len (row_view new) → after ≡ rows_len (row_views (set rows at new))
set_counted rows at d new before after lt counted changed =
    let in_views : at < length (row_views rows) = rw (length-map rows row_view) lt in
    let replaced = rw (get_or-map row_view rows at d (row_view d) lt) at (sum_by-set row_len (row_views rows) at (row_view new) (row_view d) in_views) in
    let count : after ≡ rows_len (set (row_views rows) at (row_view new)) = omega (arith, replaced, counted, changed) in
    count ∙ sym (ap rows_len (map-set row_view rows at new))

-- the count after a row was inserted
pub insert_counted : (rows : List Row) (at : ℕ) (new : Row) → rows_len (row_views (insert rows at new)) ≡ rows_len (row_views rows) + row_len (row_view new)
insert_counted rows at new = ap rows_len (insert_views rows at new) ∙ sum_by-insert row_len (row_views rows) at (row_view new)

-- the count after a row was removed
pub remove_counted : (rows : List Row) (at : ℕ) (d : Row) → at < length rows → rows_len (row_views (remove rows at)) + row_len (row_view (get_or rows at d)) ≡ rows_len (row_views rows)
remove_counted rows at d lt =
    let in_views : at < length (row_views rows) = rw (length-map rows row_view) lt in
    let removed = rw (get_or-map row_view rows at d (row_view d) lt) at (sum_by-remove row_len (row_views rows) at (row_view d) in_views) in
    let views : row_views (remove rows at) ≡ remove (row_views rows) at = rw (map-append, take-map, drop-map) in
    rw views removed
