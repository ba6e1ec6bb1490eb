use Rattle.std.proofs.Common.{◌≡◌, None, take}
use Rattle.seg_check.specs.Checking.{first_refusal}
use Rattle.seg_check.proofs.checking.check_all.Given as goal

abbrev pub invariant-loop-row : goal.invariant-loop-row
invariant-loop-row g l = first_refusal (g.V.Verifier.verifies l.verifier) l.now (take l.row-index l.segments) ≡ None
