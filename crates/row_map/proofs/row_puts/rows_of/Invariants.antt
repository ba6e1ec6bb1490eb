use Rattle.std.proofs.Common.{◌≡◌, take}
use Rattle.row_map.specs.Database.{AreWhole}
use Rattle.row_map.specs.Row.{row_views}
use Rattle.row_map.proofs.row_puts.rows_of.Given as goal

abbrev pub invariant-loop-kind : goal.invariant-loop-kind
invariant-loop-kind l = record {
  same : row_views l.rows.items ≡ take l.kind-index l.new;
  whole : AreWhole (row_views l.rows.items);
}
