use Rattle.std.proofs.Common.{map}
use Rattle.row_map.specs.Database.{IsRising}
use Rattle.row_map.specs.Saved.{saved_view, IsRestoring}
use Rattle.row_map.proofs.row_puts.restore.Given as goal

abbrev pub invariant-loop-old : goal.invariant-loop-old
invariant-loop-old l = record {
  left : IsRestoring (map saved_view l.fn.saved.items) l.fn.rows (map saved_view l.saved.items) l.rows;
  rising : IsRising l.fn.rows → IsRising l.rows;
}

abbrev pub decreases-loop-old : goal.decreases-loop-old
decreases-loop-old l = goal.left-loop-old l
