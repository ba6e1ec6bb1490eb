use Rattle.std.proofs.Common.{◌≡◌, ◌+◌, ◌*◌, ◌≤◌, take}
use Rattle.row_map.specs.Database.{AreWhole}
use Rattle.path_records.specs.CommandRecord.{segments_len}
use Rattle.path_records.proofs.command_sizes.rows_len.Given as goal

-- the lengths of the rows so far
abbrev pub invariant-loop-segment : goal.invariant-loop-segment
invariant-loop-segment l = record {
  so_far : l.len ≡ segments_len (take l.segment-index l.rows) + 5 * l.segment-index;
  whole : AreWhole (take l.segment-index l.rows);
  small : l.len ≤ 16389 * l.segment-index;
}
