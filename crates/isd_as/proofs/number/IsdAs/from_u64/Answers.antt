-- An ISD-AS with the same 64 bits is the same ISD-AS.
use Rattle.std.proofs.Common.{arith}
use Rattle.std.proofs.lemmas.Nat.{and_mask}
use Rattle.isd_as.proofs.SameNumber.{number_of_injective}
use Rattle.isd_as.proofs.number.IsdAs.from_u64.Goals as goal

pub returns-clause-only : goal.returns-clause-only
returns-clause-only c ia e = number_of_injective _ ia (omega (arith, and_mask c.args.number 48, e))
