use Rattle.std.proofs.Common.{◌≡◌, ◌≤◌, ◌-◌, ◌++◌, length, drop}
use Rattle.row_map.specs.Database.{IsDatabase}
use Rattle.row_map.specs.Row.{row_views}
use Rattle.path_records.specs.RowRecord.{rows_encoding}
use Rattle.path_records.proofs.row_decoder.read_on.Given as goal

-- The rows read before are a database, and with the bytes that are left they have the same records
-- as at the start.
abbrev pub invariant-loop-alloc : goal.invariant-loop-alloc
invariant-loop-alloc l = record {
  database : IsDatabase (row_views l.rows.items);
  same : rows_encoding (row_views l.rows.items) ++ l.left ≡ rows_encoding (row_views l.fn.rows.items) ++ l.bytes;
  within : length l.left ≤ length l.bytes;
  behind : l.left ≡ drop (length l.bytes - length l.left) l.bytes;
}

abbrev pub decreases-loop-alloc : goal.decreases-loop-alloc
decreases-loop-alloc l = length l.left
