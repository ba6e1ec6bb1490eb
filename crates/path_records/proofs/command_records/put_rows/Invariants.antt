use Rattle.std.proofs.Common.{◌≡◌, ◌++◌, length, take, drop}
use Rattle.path_records.specs.RowRecord.{rows_encoding}
use Rattle.path_records.proofs.command_records.put_rows.Given as goal

-- The records that were put and the rows that are left are all rows, after the bytes that were
-- there.
abbrev pub invariant-loop-kind : goal.invariant-loop-kind
invariant-loop-kind l = record {
  rest : l.out.items ++ rows_encoding (drop l.kind-index l.rows) ≡ l.fn.out.items ++ rows_encoding l.rows;
  kept : take (length l.fn.out.items) l.out.items ≡ l.fn.out.items;
}
