use Rattle.std.proofs.lemmas.Slice.Eq.{bytes_eq-Decides}
use Rattle.seg_check.specs.Keyed.{keyed_signature}
use Rattle.seg_check.proofs.laws.keyed_verdicts_are_exact.Goals as goal

pub returns : goal.returns
returns c key signed signature ia associated = bytes_eq-Decides signature (keyed_signature key signed associated)
