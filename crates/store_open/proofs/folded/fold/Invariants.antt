-- How many commands are applied.
use Rattle.std.proofs.Common.{◌≡◌, drop}
use Rattle.row_map.specs.Database.{IsDatabase}
use Rattle.store_layout.specs.StoreFormat.{db_after}
use Rattle.store_open.specs.PathStores.{store_format}
use Rattle.store_open.proofs.folded.fold.Given as goal

-- The commands that are left give the same database as all commands from the start.
abbrev pub invariant-loop-command : goal.invariant-loop-command
invariant-loop-command l = record {
  left : db_after store_format l.db (drop l.command-index l.commands) ≡ db_after store_format l.fn.db l.fn.commands;
  whole : IsDatabase l.db;
}
