use Rattle.std.proofs.Common.{length, sym, ◌∙◌}
use Rattle.std.proofs.lemmas.Bool.{eqb-true}
use Rattle.std.proofs.lemmas.List.{nil_from_length}
use Rattle.seg_core.proofs.Misfits.{IsMidway-start, all_noted, all_fit}
use Rattle.seg_core.proofs.slots.slots_in_order.Goals as goal

pub invariant_of-result : goal.invariant_of-result
invariant_of-result g c =
    let m = c.args.message.now in
    let one = c.take_under-rest.ensures m (IsMidway-start c.args.shape.now m _ _ c.new-noted.ensures) in
    let three = c.take_under-rest-3.ensures m (c.take_under-rest-2.ensures m one) in
    let six = c.take_under-rest-6.ensures m (c.take_under-rest-5.ensures m (c.take_under-rest-4.ensures m three)) in
    let nothing = nil_from_length c.take_under-rest-6.result.now (eqb-true (length c.take_under-rest-6.result.now) 0 (sym c.is_empty.ensures ∙ c.if-is_empty.true)) in
    record { all_noted = all_noted _ _ _ _ _ six nothing }

pub returns-then-is_empty-clause-exact : goal.returns-then-is_empty-clause-exact
returns-then-is_empty-clause-exact g c = λ slots is.
    let m = c.args.message.now in
    let one = c.take_under-rest.ensures m (IsMidway-start c.args.shape.now m _ _ c.new-noted.ensures) in
    let three = c.take_under-rest-3.ensures m (c.take_under-rest-2.ensures m one) in
    let six = c.take_under-rest-6.ensures m (c.take_under-rest-5.ensures m (c.take_under-rest-4.ensures m three)) in
    let nothing = nil_from_length c.take_under-rest-6.result.now (eqb-true (length c.take_under-rest-6.result.now) 0 (sym c.is_empty.ensures ∙ c.if-is_empty.true)) in
    let fit = all_fit _ _ _ _ _ six nothing in
    cc
