use Rattle.std.proofs.Common.{length, drop, refl, ap, ◌∙◌, arith}
use Rattle.std.proofs.lemmas.Result.{err_from_is_err_and}
use Rattle.session_core.specs.Ahead.{frames_len}
use Rattle.session_core.proofs.AheadLemmas.{nothing_handed_in, are_ahead}
use Rattle.session_core.proofs.Exchanges.{answered_none, answered_next, stops_at_fault, stops_at_write}
use Rattle.session_core.proofs.HandedInLemmas.{hands_nothing, hands_then}
use Rattle.session_core.proofs.serving.answer_all.Goals as goal

pub loop-reply-init : goal.loop-reply-init
loop-reply-init g c = record {
  kinds = refl;
  answered = answered_none _ _ _ _ _ _ (omega arith);
  ahead = nothing_handed_in c.args.session.now.kinds g.S.Service.is_for _ _ _ c.requires;
  few = omega (arith, ap length c.requires);
  handed_in = hands_nothing g.S.Service.hands_in _ _ _ _ (ap (λ (hs : _). drop (frames_len hs) c.args.session.now.inbox) c.requires) refl;
}

pub returns-in_err-write-clause-fronts : goal.returns-in_err-write-clause-fronts
returns-in_err-write-clause-fronts g c =
    let first = rw (c.in-Some.is, c.loop-reply.invariant.kinds) at c.in_ok-reply.ensures.next in
    let few = rw c.in-Some.is at c.in_ok-reply.ensures.few in
    let ahead = are_ahead c.args.session.now.kinds g.S.Service.is_for _ _ _ (rw c.loop-reply.invariant.kinds at c.in_ok-reply.ensures.ahead) few in
    let p = err_from_is_err_and c.from_residual-in_err-write.result c.from_residual-in_err-write.ensures.1 in
    rw (p.1, p.2) (stops_at_write _ _ _ _ _ _ _ _ _ _ _ _ _ c.loop-reply.invariant.answered first _ _ _ _ ahead c.in_err-write.ensures.err)

pub returns-in_err-reply-clause-fronts : goal.returns-in_err-reply-clause-fronts
returns-in_err-reply-clause-fronts g c =
    let p = err_from_is_err_and c.from_residual.result c.from_residual.ensures.1 in
    rw (p.1, p.2) (stops_at_fault _ _ _ _ _ _ _ _ _ _ _ _ _ _ c.loop-reply.invariant.answered (rw c.loop-reply.invariant.kinds at c.in_err-reply.ensures.next))

pub loop-reply-preserved : goal.loop-reply-preserved
loop-reply-preserved g c =
    let first = rw (c.in-Some.is, c.loop-reply.invariant.kinds) at c.in_ok-reply.ensures.next in
    let few = rw c.in-Some.is at c.in_ok-reply.ensures.few in
    record {
      kinds = c.in_ok-reply.ensures.kinds ∙ c.loop-reply.invariant.kinds;
      answered = answered_next _ _ _ _ _ _ _ _ _ _ _ _ _ c.loop-reply.invariant.answered first _ _ c.in_ok-write.ensures.ok c.saturating_add-sum.ensures;
      ahead = rw c.loop-reply.invariant.kinds at c.in_ok-reply.ensures.ahead;
      few = omega (arith, few);
      handed_in = hands_then g.S.Service.hands_in _ _ _ _ _ _ c.loop-reply.invariant.handed_in (rw c.loop-reply.invariant.kinds at c.in_ok-reply.ensures.handed_in);
    }

pub returns-in_err-reply-clause-handed_in : goal.returns-in_err-reply-clause-handed_in
returns-in_err-reply-clause-handed_in g c = hands_then g.S.Service.hands_in _ _ _ _ _ _ c.loop-reply.invariant.handed_in (rw c.loop-reply.invariant.kinds at c.next_reply.ensures.handed_in)

pub returns-in_err-write-clause-handed_in : goal.returns-in_err-write-clause-handed_in
returns-in_err-write-clause-handed_in g c = hands_then g.S.Service.hands_in _ _ _ _ _ _ c.loop-reply.invariant.handed_in (rw c.loop-reply.invariant.kinds at c.next_reply.ensures.handed_in)

pub returns-clause-handed_in : goal.returns-clause-handed_in
returns-clause-handed_in g c = hands_then g.S.Service.hands_in _ _ _ _ _ _ c.loop-reply.invariant.handed_in (rw c.loop-reply.invariant.kinds at c.next_reply.ensures.handed_in)
