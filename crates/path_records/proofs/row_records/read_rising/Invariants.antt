use Rattle.std.proofs.Common.{◌≡◌, length, ◌⊎◌}
use Rattle.row_map.specs.Database.{AreWhole}
use Rattle.row_map.specs.Row.{row_views}
use Rattle.path_records.specs.RowRecord.{rows_decoding, HasOutline}
use Rattle.path_records.proofs.RowsRead.{rows_behind}
use Rattle.path_records.proofs.row_records.read_rising.Given as goal

-- The bytes that are left, after the rows read before, give the result of all bytes.
abbrev pub invariant-loop-rest : goal.invariant-loop-rest
invariant-loop-rest l = record {
  decoding : rows_decoding l.bytes ≡ rows_behind (row_views l.rows.items) l.rest;
  whole : AreWhole (row_views l.rows.items);
  first : (l.rest ≡ l.bytes) ⊎ HasOutline l.bytes;
}

abbrev pub decreases-loop-rest : goal.decreases-loop-rest
decreases-loop-rest l = length l.rest
