use Rattle.std.proofs.Common.{rules, ap}
use Rattle.std.proofs.lemmas.Result.{err_from_is_err_and}
use Rattle.session_core.proofs.Behind.{served_in_lines_behind}
use Rattle.session_core.proofs.AtOnce.{ends_in_lines_at_once}
use Rattle.session_core.proofs.lines.serve_in_lines.Goals as goal

pub returns-in_err-ahead : goal.returns-in_err-ahead
returns-in_err-ahead g c =
    let p = err_from_is_err_and c.from_residual.result c.from_residual.ensures.1 in
    rw (p.1, p.2) (ends_in_lines_at_once _ _ _ _ _ c.in_err-ahead.ensures.err)

pub returns : goal.returns
returns g c =
    let served = rw (c.new-session.ensures.service, c.new-session.ensures.kinds, c.new-session.ensures.inbox, c.holding.ensures, ← c.into_service-service.ensures) at c.serve_whole-served.ensures in
    served_in_lines_behind _ _ _ _ _ _ _ _ (λ same. ap g.S.Service.state (search rules)) served
