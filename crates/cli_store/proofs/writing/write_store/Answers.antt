use Rattle.std.proofs.lemmas.Result.{err_from_is_err_and}
use Rattle.cli_store.specs.Text.{store_end}
use Rattle.cli_store.proofs.Fronts.{fails_first, fails_second_of}
use Rattle.cli_store.proofs.writing.write_store.Goals as goal

pub returns-in_err-write_rows-clause-err : goal.returns-in_err-write_rows-clause-err
returns-in_err-write_rows-clause-err g c =
    let p = err_from_is_err_and c.from_residual.result c.from_residual.ensures.1 in
    rw (p.1, p.2) (fails_first _ _ _ (store_end c.args.form c.args.place) _ (rw c.rows.ensures.same at c.in_err-write_rows.ensures.err))

pub returns-clause-err : goal.returns-clause-err
returns-clause-err g c =
    fails_second_of c.write_end.result _ _ _ _ (store_end c.args.form c.args.place) (rw c.rows.ensures.same at c.in_ok-write_rows.ensures.ok) c.write_end.ensures.err
