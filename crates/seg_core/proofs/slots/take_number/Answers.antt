use Rattle.std.proofs.Common.{arith}
use Rattle.seg_core.proofs.Misfits.{IsMidway-number}
use Rattle.seg_core.proofs.slots.take_number.Goals as goal

pub split_at-requires : goal.split_at-requires
split_at-requires c = (c.first_number.ensures.found (c.in-Some.n, c.in-Some.used) c.in-Some.is).within

pub returns-in-Some : goal.returns-in-Some
returns-in-Some c = λ shape message number midway.
    let step = c.first_number.ensures.found (c.in-Some.n, c.in-Some.used) c.in-Some.is in
    rw (c.from.ensures, c.split_at.ensures.back)
    (IsMidway-number shape message _ _ _ c.args.field_number c.in-Some.n c.in-Some.used number (omega arith) (omega arith) step midway)
