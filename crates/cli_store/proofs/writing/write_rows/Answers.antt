use Rattle.std.proofs.Common.{rules, ◌≡◌, ◌∷◌, ◌∙◌}
use Rattle.std.proofs.lemmas.Result.{err_from_is_err_and}
use Rattle.row_map.specs.Row.{row_view}
use Rattle.row_lines.specs.Form.{line_as}
use Rattle.cli_store.specs.Text.{rows_text}
use Rattle.whole_writes.proofs.Fronts.{HasWritten-next}
use Rattle.cli_store.proofs.Fronts.{fails_behind}
use Rattle.cli_store.proofs.writing.write_rows.Goals as goal

pub loop-row-preserved : goal.loop-row-preserved
loop-row-preserved g c =
    let row = row_view c.in-Some.row.now in
    let left = c.next.new.self in
    let front : c.loop-row.row-iterator ≡ row ∷ left = search (rules, c.in-Some) in
    let line = c.as_bytes.ensures.value ∙ c.in-Ok.ensures in
    HasWritten-next _ _ _ _ (line_as c.args.form row) (rows_text c.args.form left) (rw front at c.loop-row.invariant) (rw line at c.in_ok-write_all.ensures.ok)

pub returns-in_err-write_all-clause-err : goal.returns-in_err-write_all-clause-err
returns-in_err-write_all-clause-err g c =
    let row = row_view c.in-Some.row.now in
    let left = c.next.new.self in
    let front : c.loop-row.row-iterator ≡ row ∷ left = search (rules, c.in-Some) in
    let line = c.as_bytes.ensures.value ∙ c.in-Ok.ensures in
    let p = err_from_is_err_and c.from_residual.result c.from_residual.ensures.1 in
    rw (p.1, p.2) (fails_behind _ _ _ _ (line_as c.args.form row) (rows_text c.args.form left) _ (rw front at c.loop-row.invariant) (rw line at c.in_err-write_all.ensures.err))
