-- The closure changes no capture, and makes a step of each visit.
use Rattle.std.proofs.Common.{subst}
use Rattle.std.specs.Bool.{OnTrue}
use Rattle.status_server.specs.Visits.{WentOn}
use Rattle.status_server.proofs.VisitLemmas.{all_went_on}
use Rattle.status_server.proofs.visits.Visits.go_on.Goals as goal

pub returns : goal.returns
returns g c =
    all_went_on _ _ _
    (λ x b t y step.
    (subst (λ left. OnTrue b (WentOn _ x left)) step.leaves (subst (λ shown. OnTrue b (WentOn _ shown step.left.now)) step.shows step.called.met.0), step.called.met.1))
    _ _ c.retain_mut.ensures.filtered
