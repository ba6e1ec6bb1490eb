use Rattle.std.proofs.Common.{List}
use Rattle.std.proofs.lemmas.Result.{IfOk-weaker}
use Rattle.row_map.specs.IndexKey.{IndexKey}
use Rattle.row_map.specs.Database.{RowView}
use Rattle.row_map.specs.EndKeys.{index_number, IsRowIndex}
use Rattle.row_map.proofs.Appended.{row_index_permuted}
use Rattle.row_map.proofs.IndexKeys.{EndOf}
use Rattle.row_map.proofs.end_keys.index_of.Goals as goal

pub returns : goal.returns
returns c =
    let by = index_number c.args.by in
    let sorted = c.sort_unstable.new.self.items in
    let whole = row_index_permuted by c.args.rows.now c.in_ok-index_rows.index_rows.items sorted c.sort_unstable.ensures.permutation c.in_ok-index_rows.ensures in
    IfOk-weaker c.index_with.result (λ (index : List IndexKey). (end : EndOf) (rows : List RowView) → IsRowIndex end rows sorted → IsRowIndex end rows index)
    (λ (index : List IndexKey). IsRowIndex by c.args.rows.now index) (λ index made. made by c.args.rows.now whole) c.index_with.ensures
