use Rattle.std.proofs.Common.{◌≡◌, ◌+◌, ◌≤◌, length}
use Rattle.std.specs.List.{AllByRecursion}
use Rattle.seg_core.specs.Encoding.{IsSegment}
use Rattle.path_db.specs.Wanted.{is_wanted}
use Rattle.path_db.proofs.ShownLeft.{ShowsAll}
use Rattle.path_db.proofs.answers.first_shown.Given as goal

abbrev pub invariant-loop-row : goal.invariant-loop-row
invariant-loop-row l = record {
  shown : ShowsAll (is_wanted l.wanted) l.fn.rows l.found.items l.row-iterator;
  few : length l.found.items ≤ l.limit;
  whole : AllByRecursion IsSegment l.found.items;
  passed : l.visits.left + length l.fn.rows ≡ l.fn.visits.left + length l.row-iterator;
  counted : l.visits.count + l.visits.left ≤ l.fn.visits.count + l.fn.visits.left;
}
