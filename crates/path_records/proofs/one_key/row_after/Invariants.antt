use Rattle.std.proofs.Common.{◌≡◌, drop}
use Rattle.std.specs.Option.{option_map}
use Rattle.path_db.specs.CommandLaws.{left_under_all}
use Rattle.row_map.specs.Row.{row_view}
use Rattle.path_records.specs.Key.{key_bytes}
use Rattle.path_records.proofs.one_key.row_after.Given as goal

-- The commands that are left give the same row as all commands from the start.
abbrev pub invariant-loop-command : goal.invariant-loop-command
invariant-loop-command l = left_under_all (key_bytes l.key) (option_map row_view l.left) (drop l.command-index l.commands) ≡ left_under_all (key_bytes l.key) (option_map row_view l.fn.found) l.commands
