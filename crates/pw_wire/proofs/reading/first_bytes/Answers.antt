use Rattle.std.proofs.Common.{arith}
use Rattle.pw_wire.proofs.NextField.{step}
use Rattle.pw_wire.proofs.reading.first_bytes.Goals as goal

pub returns-clause-found : goal.returns-clause-found
returns-clause-found c = λ found is. step c.args.bytes.now _ _ (λ i. omega (arith, c.type_inv.bytes i)) (c.bytes_under.ensures.found found is)
