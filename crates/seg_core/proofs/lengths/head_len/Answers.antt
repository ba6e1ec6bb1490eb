use Rattle.std.proofs.Common.{ap, length, arith}
use Rattle.pw_wire.specs.Varint.{varint_encoding}
use Rattle.seg_core.proofs.EncodedLengths.{field-length, varint-length-most}
use Rattle.seg_core.proofs.lengths.head_len.Goals as goal

pub overflow_add-result : goal.overflow_add-result
overflow_add-result c = omega (arith, varint-length-most c.args.len (omega arith))

pub returns-clause-exact : goal.returns-clause-exact
returns-clause-exact c = λ k bytes lt same. omega (arith, field-length k bytes lt, ap (λ n. length (varint_encoding n)) same)

pub returns-clause-most : goal.returns-clause-most
returns-clause-most c = omega (arith, varint-length-most c.args.len (omega arith))
