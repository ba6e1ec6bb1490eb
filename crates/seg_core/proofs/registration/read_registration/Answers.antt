use Rattle.std.proofs.Common.{rules, arith}
use Rattle.std.specs.List.{AllByRecursion}
use Rattle.seg_core.specs.Registration.{registration_decoding}
use Rattle.seg_core.specs.Encoding.{IsSegment}
use Rattle.seg_core.proofs.Readings.{Gives-IfOk}
use Rattle.seg_core.proofs.Registered.{registration-HoldsFew}
use Rattle.seg_core.proofs.registration.read_registration.Goals as goal

pub returns-in_err-entries-clause-memory : goal.returns-in_err-entries-clause-memory
returns-in_err-entries-clause-memory c = search rules

pub returns-clause-whole : goal.returns-clause-whole
unfolding registration_decoding
returns-clause-whole c =
    let message = c.args.message.now in
    Gives-IfOk (λ v. v.items) (λ rows. AllByRecursion (λ row. IsSegment row.1) rows) c.read_map.result (registration_decoding message)
    (λ rows reading. (registration-HoldsFew message rows (λ i. omega (arith, c.type_inv.message i)) reading).whole)
    (search rules)
