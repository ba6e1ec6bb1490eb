use Rattle.std.proofs.Common.{arith}
use Rattle.seg_core.proofs.Misfits.{IsMidway-bytes}
use Rattle.seg_core.proofs.slots.take_bytes.Goals as goal

pub split_at-requires : goal.split_at-requires
split_at-requires c = (c.first_bytes.ensures.found (c.in-Some.bytes, c.in-Some.used) c.in-Some.is).within

pub returns-in-Some-clause-midway : goal.returns-in-Some-clause-midway
returns-in-Some-clause-midway c = λ shape message fit midway.
    let step = c.first_bytes.ensures.found (c.in-Some.bytes, c.in-Some.used) c.in-Some.is in
    rw (c.from.ensures, c.split_at.ensures.back)
    (IsMidway-bytes shape message _ _ _ c.args.field_number c.in-Some.used c.in-Some.bytes fit (omega arith) step midway)
