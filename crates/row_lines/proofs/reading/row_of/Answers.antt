-- What the digits say, the value says.
use Rattle.std.proofs.Common.{rules}
use Rattle.std.proofs.lemmas.Result.{err_from_is_err_and}
use Rattle.row_lines.proofs.Readings.{digits_refused}
use Rattle.row_lines.proofs.reading.row_of.Goals as goal

pub returns-in_err-segment_of-clause-err : goal.returns-in_err-segment_of-clause-err
returns-in_err-segment_of-clause-err c =
    let p = err_from_is_err_and c.from_residual.result c.from_residual.ensures.1 in
    rw (p.1, p.2) (digits_refused _ _ _ (search rules) c.in_err-segment_of.ensures.err)
