use Rattle.std.proofs.Common.{◌≡◌, map, take}
use Rattle.row_map.specs.Database.{key_of, row_under}
use Rattle.row_map.specs.Row.{row_views}
use Rattle.row_map.specs.Saved.{saved_view}
use Rattle.row_map.proofs.row_puts.saved_rows.Given as goal

abbrev pub invariant-loop-row : goal.invariant-loop-row
invariant-loop-row l = map saved_view l.saved.items ≡ map (λ row. (key_of row, row_under (key_of row) l.rows)) (row_views (take l.row-index l.new))
