use Rattle.std.proofs.Common.{arith}
use Rattle.seg_core.proofs.EncodedLengths.{varint-length-step, varint-length-last, varint-length-most}
use Rattle.seg_core.proofs.lengths.varint_len.Goals as goal

pub overflow_add-len : goal.overflow_add-len
overflow_add-len c = omega (arith, varint-length-most c.args.n (omega arith))

pub loop-rest-preserved : goal.loop-rest-preserved
loop-rest-preserved c =
    record { counted = omega (arith, varint-length-step c.loop-rest.rest (omega arith) (omega arith)); fits = omega arith }

pub returns : goal.returns
returns c = omega (arith, varint-length-last c.loop-rest.rest (omega arith))
