use Rattle.std.proofs.Common.{drop}
use Rattle.row_map.specs.EndKeys.{index_number, IsCovered}
use Rattle.row_map.proofs.end_keys.sweep.Given as goal

abbrev pub invariant-loop-index_row : goal.invariant-loop-index_row
invariant-loop-index_row l = IsCovered (index_number l.by) l.rows (drop l.index_row-index l.touched) l.index
