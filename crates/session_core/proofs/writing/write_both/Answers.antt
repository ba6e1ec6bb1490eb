use Rattle.std.proofs.lemmas.Result.{err_from_is_err_and}
use Rattle.session_core.proofs.WriteLemmas.{fails_first, fails_second_of}
use Rattle.session_core.proofs.writing.write_both.Goals as goal

pub returns-in_err-write_all-clause-err : goal.returns-in_err-write_all-clause-err
returns-in_err-write_all-clause-err g c =
    let p = err_from_is_err_and c.from_residual.result c.from_residual.ensures.1 in
    rw (p.1, p.2) (fails_first _ _ _ _ _ c.in_err-write_all.ensures.err)

pub returns-clause-err : goal.returns-clause-err
returns-clause-err g c = fails_second_of c.write_all-2.result _ _ _ _ _ c.in_ok-write_all.ensures.ok c.write_all-2.ensures.err
