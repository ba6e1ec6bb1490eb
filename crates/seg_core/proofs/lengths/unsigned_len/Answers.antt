use Rattle.std.proofs.Common.{arith}
use Rattle.seg_core.proofs.lengths.unsigned_len.Goals as goal

pub returns-in-Some : goal.returns-in-Some
returns-in-Some c = rw c.in-Some.is (omega (arith, c.head_len.ensures.exact 2 c.in-Some.unsigned.now (omega arith) (omega arith)))
