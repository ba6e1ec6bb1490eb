use Rattle.std.proofs.Common.{◌≡◌, drop}
use Rattle.std.specs.Option.{option_map}
use Rattle.row_map.specs.Left.{left_by_puts}
use Rattle.row_map.specs.Row.{row_view}
use Rattle.path_records.specs.Key.{key_bytes}
use Rattle.path_records.proofs.one_key.row_after_puts.Given as goal

-- The puts that are left give the same row as all puts from the start.
abbrev pub invariant-loop-row : goal.invariant-loop-row
invariant-loop-row l = left_by_puts (key_bytes l.key) (option_map row_view l.left) (drop l.row-index l.new) ≡ left_by_puts (key_bytes l.key) (option_map row_view l.fn.found) l.new
