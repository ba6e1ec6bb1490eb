-- A database has no more rows than bytes of records.
use Rattle.std.proofs.Common.{arith}
use Rattle.ckpt_pair.proofs.Lengths.{fewer_rows}
use Rattle.ckpt_pair.proofs.encoding.checkpoint_head.Goals as goal

pub overflow_cast-len : goal.overflow_cast-len
overflow_cast-len c = omega (arith, c.len.ensures.count, fewer_rows c.args.db.now, c.requires)
