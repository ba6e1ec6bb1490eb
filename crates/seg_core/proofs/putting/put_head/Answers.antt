use Rattle.std.proofs.Common.{rules}
use Rattle.seg_core.proofs.Written.{head-short}
use Rattle.seg_core.proofs.putting.put_head.Goals as goal

pub returns-then-len-lt-ONE_BYTE : goal.returns-then-len-lt-ONE_BYTE
returns-then-len-lt-ONE_BYTE c = rw (head-short c.args.number c.args.len c.requires c.if-len-lt-ONE_BYTE.true) (search rules)
