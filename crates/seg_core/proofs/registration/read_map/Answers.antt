use Rattle.std.proofs.Common.{rules}
use Rattle.seg_core.proofs.Rows.{Found-step, Found-end, Found-err}
use Rattle.seg_core.proofs.registration.read_map.Goals as goal

pub returns-in_err-kind : goal.returns-in_err-kind
returns-in_err-kind c =
    let refused = Found-err _ _ _ _ c.in_err-kind.field-0.0 _ _ c.loop-message.invariant c.in-Some.ensures.steps c.in_err-kind.ensures in
    search rules

pub loop-message-preserved : goal.loop-message-preserved
loop-message-preserved c =
    Found-step _ _ _ _ _ _ _ _ _ c.loop-message.invariant c.in-Some.ensures.steps c.in_ok-kind.ensures c.insert.ensures

pub returns : goal.returns
returns c = Found-end _ _ _ _ c.loop-message.invariant c.in-None.ensures.steps.0
