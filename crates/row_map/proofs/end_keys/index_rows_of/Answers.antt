use Rattle.std.proofs.Common.{rules, ◌≡◌, [], ◌∷◌, subst}
use Rattle.row_map.specs.Row.{row_view}
use Rattle.row_map.specs.EndKeys.{index_number}
use Rattle.row_map.proofs.Appended.{HasIndexed, indexing_begins, indexing_goes_on, indexing_ends}
use Rattle.row_map.proofs.end_keys.index_rows_of.Goals as goal

pub loop-row-init : goal.loop-row-init
loop-row-init c = rw (c.into_iter-row-iterator.ensures.into_iter_gives, c.rows-row-items.ensures, c.in_ok-index_rows.ensures.items) (indexing_begins (index_number c.args.by) c.args.rows.now)

pub loop-row-preserved : goal.loop-row-preserved
loop-row-preserved c =
    let end = index_number c.args.by in
    let row = row_view c.in-Some.row.now in
    let left = c.next.new.self in
    let is : c.loop-row.row-iterator ≡ row ∷ left = search (rules, c.in-Some) in
    rw (c.in_ok-push.ensures.items)
    (indexing_goes_on end c.args.rows.now left row c.in_ok-index_row_of.field-0 c.loop-row.index_rows.items c.len.ensures.rising c.in_ok-index_row_of.ensures
    (subst (λ l. HasIndexed end c.args.rows.now l c.loop-row.index_rows.items) is c.loop-row.invariant))

pub returns : goal.returns
returns c =
    let none : c.loop-row.row-iterator ≡ [] = search (rules, c.in-None) in
    indexing_ends (index_number c.args.by) c.args.rows.now c.loop-row.row-iterator c.loop-row.index_rows.items none c.loop-row.invariant
