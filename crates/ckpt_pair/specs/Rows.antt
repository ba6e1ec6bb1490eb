-- The rows of a checkpoint are the records of the database's rows, one after the other.
use Rattle.std.specs.Prelude.{◌≡◌, ℕ, Bool, true, false, List, length, Result, Ok, Err, Option, Some, None, if◌then◌else◌, ◌==◌}
use Rattle.std.proofs.Common.{refl, sym, ap, ◌∙◌, eqb-true}
use Rattle.store_layout.specs.StoreFormat.{RowsFormat}
use Rattle.path_records.specs.declared.error.DbError.{DbError}
use Rattle.row_map.specs.Database.{RowView}
use Rattle.path_records.specs.RowRecord.{rows_encoding, rows_decoding}
use Rattle.path_records.proofs.RowsBack.{rows_spelled}

-- The rows that were read, where their number is this count.
abbrev pub as_counted : ℕ → Result (List RowView) DbError → Option (List RowView)
as_counted count (Ok rows) = if length rows == count then Some rows else None
as_counted count (Err e) = None

-- A list that is the result under a test is the list.
by_test : (test : Bool) (found rows : List RowView) → (if test then Some found else None) ≡ Some rows → (test ≡ true) × (found ≡ rows)
by_test true found rows is = (refl, cc)
by_test false found rows is = absurd cc

-- A counted reading has this number of rows, and these rows were read.
pub counted_rows : (count : ℕ) (reading : Result (List RowView) DbError) (rows : List RowView) → as_counted count reading ≡ Some rows
    → (reading ≡ Ok rows) × (length rows ≡ count)
counted_rows count (Ok found) rows is =
    let so = by_test (length found == count) found rows is in
    (ap (λ (l : List RowView). let r : Result (List RowView) DbError = Ok l in r) so.1, ap length (sym so.1) ∙ eqb-true (length found) count so.0)
counted_rows count (Err e) rows is = absurd cc

-- Rows are written as their records, and bytes are read as `count` rows exactly where they are the
-- records of `count` rows, in order.
abbrev pub rows_format : RowsFormat (List RowView)
rows_format = record {
  encoding = rows_encoding;
  count = λ rows. length rows;
  decoding = λ count bytes. as_counted count (rows_decoding bytes);
  spelled = λ count bytes rows each is. (rows_spelled bytes rows each (counted_rows count (rows_decoding bytes) rows is).0).0;
  counted = λ count bytes rows each is. (counted_rows count (rows_decoding bytes) rows is).1;
}
