use Rattle.std.proofs.Common.{◌+◌, ◌≤◌, length}
use Rattle.std.specs.List.{AllByRecursion}
use Rattle.seg_core.specs.Encoding.{IsSegment}
use Rattle.path_db.specs.Walk.{rows_in}
use Rattle.path_db.specs.Wanted.{is_wanted}
use Rattle.path_db.proofs.ShownFirst.{ShowsFirst}
use Rattle.path_db.proofs.answers.shown_at.Given as goal

abbrev pub invariant-loop-index_row : goal.invariant-loop-index_row
invariant-loop-index_row l = record {
  shown : ShowsFirst l.limit (is_wanted l.wanted) (rows_in l.fn.index_keys) l.found.items (rows_in l.index_keys);
  few : length l.found.items ≤ l.limit;
  whole : AllByRecursion IsSegment l.found.items;
  counted : l.visits.count + l.visits.left ≤ l.fn.visits.count + l.fn.visits.left;
}

abbrev pub decreases-loop-index_row : goal.decreases-loop-index_row
decreases-loop-index_row l = length l.index_keys
