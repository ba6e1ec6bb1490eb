use Rattle.std.proofs.Common.{◌<◌, ◌≤◌, length, List}
use Rattle.path_db.specs.declared.command.Command.{Command}
use Rattle.row_map.specs.Database.{RowView}
use Rattle.ckpt_stream.specs.Settling.{Settles, steps_to_settle}
use Rattle.ckpt_stream.proofs.settling.Settling.list_piece.Given as goal

-- The same rows and commands are settled further.
abbrev pub invariant-keys : goal.invariant-keys
invariant-keys l = record {
  settles : (rows : List RowView) (commands : List Command) → Settles rows commands l.fn.self → Settles rows commands l.self;
  nearer : steps_to_settle l.self < steps_to_settle l.fn.self;
  applied : length l.self.commands.items ≤ l.self.at;
}

abbrev pub decreases-keys : goal.decreases-keys
decreases-keys l = steps_to_settle l.self
