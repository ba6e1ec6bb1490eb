use Rattle.std.proofs.Common.{take}
use Rattle.row_map.specs.Database.{AreWhole}
use Rattle.ckpt_stream.proofs.settling.command_is_whole.Given as goal

abbrev pub invariant-loop-row : goal.invariant-loop-row
invariant-loop-row l = AreWhole (take l.row-index l.row-items)
