use Rattle.std.proofs.Common.{◌≡◌, refl, ap, arith}
use Rattle.std.proofs.lemmas.List.{map-append}
use Rattle.row_map.specs.Database.{RowView, key, key_of, row_under}
use Rattle.row_map.specs.Row.{row_view}
use Rattle.row_map.specs.Saved.{Stood}
use Rattle.row_map.proofs.Indices.{key_is}
use Rattle.row_map.proofs.IndexKeys.{views_more}
use Rattle.row_map.proofs.row_puts.saved_rows.Goals as goal

pub loop-row-preserved : goal.loop-row-preserved
loop-row-preserved c =
    let rows = c.args.new.now in
    let i = c.loop-row.row-index in
    let row = c.row-item.result in
    let stands : RowView → Stood = λ r. (key_of r, row_under (key_of r) c.args.rows.now) in
    let one : (key row.kind c.id.result.now, row_under (key_of (row_view row)) c.args.rows.now) ≡ stands (row_view row) = ap (λ k. (k, row_under (key_of (row_view row)) c.args.rows.now)) (key_is row c.id.result.now c.id.ensures) in
    rw (c.in_ok-push.ensures.items, views_more rows i row (omega arith) c.row-item.is, map-append, map-append, c.loop-row.invariant, c.in_ok-copy_of.ensures, one) refl
