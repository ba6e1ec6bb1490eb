use Rattle.std.proofs.Common.{true, ◌+◌, List, sym, ◌∙◌, subst}
use Rattle.row_map.specs.Row.{row_view}
use Rattle.ckpt_stream.specs.declared.plan.Edit.{Edit}
use Rattle.ckpt_stream.specs.Planning.{IsBeforeRowEdit, IsAfterKeyPuts}
use Rattle.ckpt_stream.proofs.Plans.{put_below, put_same, none_same, none_left, is_greater, is_equal, is_less}
use Rattle.ckpt_stream.proofs.putting.put_up_to.Goals as goal

pub returns-then-eq : goal.returns-then-eq
returns-then-eq c = λ p seen kept olds before.
    none_same c.args.keys.now c.loop-at.at _ c.loop-at-test.true (row_view c.args.row.now) p seen c.loop-at.edits.items kept olds
    (c.loop-at.invariant p seen kept olds before)
    (sym c.order_to-order.ensures ∙ (is_greater c.order_to-order.result c.if-eq.ensures))

pub returns-then-eq-2 : goal.returns-then-eq-2
returns-then-eq-2 c = λ p seen kept olds before.
    subst (λ (l : List Edit). IsAfterKeyPuts true (row_view c.args.row.now) c.args.keys.now p seen (c.loop-at.at + 1) l kept olds) (sym c.in_ok-push.ensures.items)
    (put_same c.args.keys.now c.loop-at.at _ c.loop-at-test.true (row_view c.args.row.now) p seen c.loop-at.edits.items kept olds
    (c.loop-at.invariant p seen kept olds before)
    (sym c.order_to-order.ensures ∙ (is_equal c.order_to-order.result c.if-eq-2.ensures)))

pub loop-at-preserved : goal.loop-at-preserved
loop-at-preserved c = λ p seen kept olds before.
    subst (λ (l : List Edit). IsBeforeRowEdit (row_view c.args.row.now) c.args.keys.now p seen (c.loop-at.at + 1) l kept olds) (sym c.in_ok-push.ensures.items)
    (put_below c.args.keys.now c.loop-at.at _ c.loop-at-test.true (row_view c.args.row.now) p seen c.loop-at.edits.items kept olds
    (c.loop-at.invariant p seen kept olds before)
    (sym c.order_to-order.ensures ∙ (is_less c.order_to-order.result c.if-eq.ensures c.if-eq-2.ensures)))

pub returns : goal.returns
returns c = λ p seen kept olds before. none_left c.args.keys.now c.loop-at.at _ p seen c.loop-at.edits.items kept olds c.loop-at-test.false (c.loop-at.invariant p seen kept olds before)
