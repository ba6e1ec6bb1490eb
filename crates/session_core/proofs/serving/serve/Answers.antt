use Rattle.std.proofs.Common.{rules, ap}
use Rattle.std.proofs.lemmas.Result.{err_from_is_err_and}
use Rattle.session_core.proofs.AtOnce.{ends_at_once}
use Rattle.session_core.proofs.SessionLemmas.{sent_for}
use Rattle.session_core.proofs.Behind.{served_behind, handed_in_behind}
use Rattle.session_core.proofs.HandedInLemmas.{hands_in_at_once}
use Rattle.session_core.proofs.serving.serve.Goals as goal

pub returns-in_err-ahead-clause-served : goal.returns-in_err-ahead-clause-served
returns-in_err-ahead-clause-served g c =
    let p = err_from_is_err_and c.from_residual.result c.from_residual.ensures.1 in
    rw (p.1, p.2) (ends_at_once _ _ _ _ _ _ _ _ c.in_err-ahead.ensures.err)

pub returns-clause-served : goal.returns-clause-served
returns-clause-served g c =
    let served = rw (c.new-session.ensures.service, c.new-session.ensures.kinds, ← c.into_service-service.ensures) at c.serve_session-served.ensures.served in
    served_behind _ _ _ _ _ _ _ _ _ _ _ _ (λ same. ap g.S.Service.state (search rules)) served

pub returns-in_err-ahead-clause-sent : goal.returns-in_err-ahead-clause-sent
returns-in_err-ahead-clause-sent g c before = sent_for _ _ before

pub returns-in_err-ahead-clause-handed_in : goal.returns-in_err-ahead-clause-handed_in
returns-in_err-ahead-clause-handed_in g c = hands_in_at_once _ _ _ _ _

pub returns-clause-handed_in : goal.returns-clause-handed_in
returns-clause-handed_in g c =
    let served = rw (c.new-session.ensures.service, c.new-session.ensures.kinds, ← c.into_service-service.ensures) at c.serve_session-served.ensures.served in
    let handed = rw (c.new-session.ensures.service, c.new-session.ensures.kinds, ← c.into_service-service.ensures) at c.serve_session-served.ensures.handed_in in
    handed_in_behind _ _ _ _ _ _ _ _ _ _ _ _ _ _ _ (λ same. ap g.S.Service.sent (search rules)) served handed
