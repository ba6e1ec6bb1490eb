use Rattle.std.proofs.Common.{sym}
use Rattle.std.proofs.lemmas.Result.{err_from_is_err_and}
use Rattle.seg_check.proofs.ManyChecks.{accepted_more, refused_at}
use Rattle.seg_check.proofs.checking.check_all.Goals as goal

-- the first segment that is not accepted ends the loop
pub returns-in_err-check : goal.returns-in_err-check
returns-in_err-check g c =
    let refused = rw c.row-item.is at c.in_err-check.ensures.refusal in
    let made = err_from_is_err_and c.from_residual.result c.from_residual.ensures.1 in
    rw (made.1, made.2) (sym (refused_at (g.V.Verifier.verifies c.args.verifier.now) c.args.now c.args.segments.now c.loop-row.row-index c.row-item.result c.in_err-check.field-0.0 c.loop-row-test.true c.loop-row.invariant (sym refused)))

pub loop-row-preserved : goal.loop-row-preserved
loop-row-preserved g c =
    let good = rw c.row-item.is at c.in_ok-check.ensures.refusal in
    accepted_more (g.V.Verifier.verifies c.args.verifier.now) c.args.now c.args.segments.now c.loop-row.row-index c.row-item.result c.loop-row-test.true c.loop-row.invariant (sym good)
