use Rattle.std.proofs.Common.{◌<◌, List}
use Rattle.path_db.specs.declared.command.Command.{Command}
use Rattle.row_map.specs.Database.{RowView}
use Rattle.ckpt_stream.specs.Settling.{Settles, steps_to_settle}
use Rattle.ckpt_stream.proofs.settling.Settling.apply_piece.Given as goal

-- The same rows and commands are settled further.
abbrev pub invariant-commands : goal.invariant-commands
invariant-commands l = record {
  settles : (rows : List RowView) (commands : List Command) → Settles rows commands l.fn.self → Settles rows commands l.self;
  nearer : steps_to_settle l.self < steps_to_settle l.fn.self;
}

abbrev pub decreases-commands : goal.decreases-commands
decreases-commands l = steps_to_settle l.self
