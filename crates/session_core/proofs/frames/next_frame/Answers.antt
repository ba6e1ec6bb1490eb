use Rattle.std.proofs.Common.{arith}
use Rattle.session_core.specs.Front.{message_at}
use Rattle.session_core.proofs.FrameLemmas.{begins, length_at_is}
use Rattle.session_core.proofs.frames.next_frame.Goals as goal

pub returns : goal.returns
returns c =
    begins c.args.bytes.now c.read_u32-len.result (message_at c.message_of.result) (λ i. omega (arith, c.type_inv.bytes i))
    (length_at_is c.args.bytes.now c.read_u32-len.result c.read_u32-len.ensures) (omega arith) (omega arith) c.message_of.ensures.kind c.message_of.ensures.body c.message_of.ensures.fits
