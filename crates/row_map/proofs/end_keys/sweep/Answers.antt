use Rattle.std.proofs.Common.{◌+◌, drop, refl, subst, arith}
use Rattle.std.proofs.lemmas.List.{drop_all}
use Rattle.row_map.specs.EndKeys.{index_number, IsCovered}
use Rattle.row_map.proofs.IndexKeys.{dropped_less, all_settled}
use Rattle.row_map.proofs.end_keys.sweep.Goals as goal

pub loop-index_row-preserved : goal.loop-index_row-preserved
loop-index_row-preserved c =
    let touched = c.args.touched.now in
    let i = c.loop-index_row.index_row-index in
    c.if-not-settle.ensures refl (drop (i + 1) touched)
    (subst (λ l. IsCovered (index_number c.args.by) c.args.rows.now l c.loop-index_row.index) (dropped_less touched i c.index_row-item.result (omega arith) c.index_row-item.is) c.loop-index_row.invariant)

pub returns : goal.returns
returns c = λ e.
    let touched = c.args.touched.now in
    let i = c.loop-index_row.index_row-index in
    all_settled (index_number c.args.by) c.args.rows.now c.loop-index_row.index
    (subst (λ l. IsCovered (index_number c.args.by) c.args.rows.now l c.loop-index_row.index) (drop_all i touched (omega arith)) c.loop-index_row.invariant)
