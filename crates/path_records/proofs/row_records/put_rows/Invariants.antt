use Rattle.std.proofs.Common.{◌≡◌, ◌≤◌, ◌++◌, length, take}
use Rattle.path_records.specs.RowRecord.{rows_encoding}
use Rattle.path_records.proofs.row_records.put_rows.Given as goal

-- The records that were put and the rows that are left are all rows, after the bytes that were
-- there.
abbrev pub invariant-loop-row : goal.invariant-loop-row
invariant-loop-row l = record {
  rest : l.out.items ++ rows_encoding l.row-iterator ≡ l.fn.out.items ++ rows_encoding l.fn.rows;
  left : length l.row-iterator ≤ length l.fn.rows;
  kept : take (length l.fn.out.items) l.out.items ≡ l.fn.out.items;
}
