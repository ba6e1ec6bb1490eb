-- The rows that came have their entries, and are counted and bounded.
use Rattle.std.proofs.Common.{◌≡◌}
use Rattle.std.specs.List.{AllByRecursion}
use Rattle.row_map.specs.Database.{rows_len}
use Rattle.row_map.specs.Row.{row_views}
use Rattle.row_map.specs.Buckets.{IsBoundedBy}
use Rattle.row_map.specs.TypeCounts.{AreCounted}
use Rattle.row_map.specs.RowMap.{AreUnderTheirKeys, views_of}
use Rattle.row_map.proofs.row_map.map_of.Given as goal

abbrev pub invariant-loop-row : goal.invariant-loop-row
invariant-loop-row l = record {
  rows : views_of l.entries.items ≡ row_views l.yielded;
  own : AreUnderTheirKeys l.entries.items;
  counted : AreCounted l.counts (views_of l.entries.items);
  bounded : AllByRecursion (IsBoundedBy l.bounds) (views_of l.entries.items);
  bytes : l.bytes ≡ rows_len (views_of l.entries.items);
}
