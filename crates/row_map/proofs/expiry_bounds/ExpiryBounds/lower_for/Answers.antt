use Rattle.std.proofs.Common.{rules, ◌≡◌, [], ◌∷◌, arith}
use Rattle.row_map.specs.Row.{row_view}
use Rattle.row_map.specs.Buckets.{IsBoundedBy}
use Rattle.row_map.proofs.Lowered.{lowering_goes_on, lowering_ends}
use Rattle.row_map.proofs.expiry_bounds.ExpiryBounds.lower_for.Goals as goal

pub loop-row-preserved : goal.loop-row-preserved
loop-row-preserved c =
    let row = row_view c.in-Some.row.now in
    let left = c.next.new.self in
    let is : c.loop-row.row-iterator ≡ row ∷ left = search (rules, c.in-Some) in
    let one : IsBoundedBy c.lower.new.self row = c.lower.ensures.put row c.key_of_row.ensures (omega (arith, c.expiry.ensures)) in
    lowering_goes_on c.args.rows left row c.loop-row.self c.lower.new.self c.lower.ensures.kept one (rw (← is) c.loop-row.invariant)

pub returns : goal.returns
returns c =
    let none : c.loop-row.row-iterator ≡ [] = search (rules, c.in-None) in
    lowering_ends c.args.rows c.loop-row.row-iterator c.loop-row.self none c.loop-row.invariant
