use Rattle.std.proofs.Common.{map, take}
use Rattle.std.specs.List.{AllByRecursion}
use Rattle.row_map.specs.Row.{row_views}
use Rattle.row_map.specs.Saved.{saved_view}
use Rattle.row_map.specs.EndKeys.{index_number, AreSeenTo, HasRow}
use Rattle.row_map.proofs.end_keys.touched_rows.Given as goal

abbrev pub invariant-loop-k : goal.invariant-loop-k
invariant-loop-k l = record {
  seen : AreSeenTo (index_number l.by) l.touched.items (row_views (take l.k l.new)) (map saved_view (take l.k l.saved));
  rows : AllByRecursion HasRow l.touched.items;
}
