use Rattle.std.proofs.Common.{arith}
use Rattle.session_core.proofs.ResponseLengths.{short_found}
use Rattle.session_core.proofs.session.answer.Goals as goal

pub returns-in-Ok-clause-sized : goal.returns-in-Ok-clause-sized
returns-in-Ok-clause-sized g c =
    let bound = short_found c.in-Ok.kind c.in-Ok.segments.items c.in-Ok.ensures.whole c.in-Ok.ensures.few in
    omega (arith, bound)

pub returns-in-Ok-list-clause-sized : goal.returns-in-Ok-list-clause-sized
returns-in-Ok-list-clause-sized g c =
    let bound = short_found c.in-Ok-list.listing.kind c.in-Ok-list.listing.segments.items c.in-Ok-list.ensures.whole c.in-Ok-list.ensures.few in
    omega (arith, bound)
