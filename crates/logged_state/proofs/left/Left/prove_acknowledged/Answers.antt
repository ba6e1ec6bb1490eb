use Rattle.std.proofs.Common.{subst}
use Rattle.logged_state.specs.Left.{OpensToLog, OpensWithAll}
use Rattle.logged_state.specs.LeftView.{LeftView}
use Rattle.logged_state.specs.Kept.{AllKept, AllClaimsKept}
use Rattle.logged_state.proofs.LogStops.{opens_with_all}
use Rattle.logged_state.proofs.ClaimsKept.{all_claims_kept}
use Rattle.logged_state.proofs.left.Left.prove_acknowledged.Goals as goal

pub returns-clause-opens : goal.returns-clause-opens
returns-clause-opens c opening image =
    let inside = c.self.inside in
    subst (λ (left : LeftView). OpensToLog opening left.log image → OpensWithAll opening left.acknowledged image) c.self.view_is
    (opens_with_all opening inside.log.log inside.acknowledged.claims c.prove_all.ensures.found image)

pub returns-clause-since : goal.returns-clause-since
returns-clause-since c opening history =
    let inside = c.self.inside in
    subst (λ (left : LeftView). AllKept opening left.log history → AllClaimsKept opening left.log history left.acknowledged) c.self.view_is
    (all_claims_kept opening inside.log.log history inside.acknowledged.claims c.prove_all.ensures.found)
