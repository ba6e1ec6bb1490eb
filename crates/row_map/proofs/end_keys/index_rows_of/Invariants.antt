-- The index rows are those of the rows that came.
use Rattle.row_map.specs.EndKeys.{index_number}
use Rattle.row_map.proofs.Appended.{HasIndexed}
use Rattle.row_map.proofs.end_keys.index_rows_of.Given as goal

abbrev pub invariant-loop-row : goal.invariant-loop-row
invariant-loop-row l = HasIndexed (index_number l.by) l.fn.rows l.row-iterator l.index_rows.items
