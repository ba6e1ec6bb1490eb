use Rattle.std.proofs.Common.{◌+◌, ◌≤◌, length}
use Rattle.std.specs.List.{AllByRecursion}
use Rattle.row_map.specs.EndKeys.{IsCurrent}
use Rattle.path_db.specs.Wanted.{is_wanted}
use Rattle.path_db.proofs.Gathered.{IsGathering}
use Rattle.path_db.proofs.ways.sorted_rows.Given as goal

abbrev pub invariant-loop-index_row : goal.invariant-loop-index_row
invariant-loop-index_row l = record {
  gathering : IsGathering (is_wanted l.wanted) l.rows l.sorted l.index_keys;
  current : AllByRecursion (IsCurrent l.rows) l.index_keys;
  counted : l.visits.count + l.visits.left ≤ l.fn.visits.count + l.fn.visits.left;
}

abbrev pub decreases-loop-index_row : goal.decreases-loop-index_row
decreases-loop-index_row l = length l.index_keys
