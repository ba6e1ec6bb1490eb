-- A purge that is not handed in: for `Purger::purge`.
use Rattle.std.proofs.Common.{Bool, Option, Result, Ok, Err}
use Rattle.group_core.specs.declared.submit_error.SubmitError.{SubmitError}
use Rattle.hub_claims.specs.declared.error.HubError.{HubError}
use Rattle.hub_claims.specs.declared.error.HubError.TheVariants as hub
use Rattle.hub_claims.specs.Committed.{RefusesHandingIn, EndsWaiting}
use Rattle.path_server.specs.declared.anchor.Doubt.{Doubt}
use Rattle.path_server.specs.declared.anchor.Reading.{Reading}
use Rattle.path_server.specs.declared.purger.NotPurged.{NotPurged}
use Rattle.path_server.specs.declared.purger.NotPurged.TheVariants.{Rests, Refused}
use Rattle.path_server.specs.Trusting.{WhyNotHandedIn, WhyNotPurged}

-- a command that the hub did not take has no receipt, whoever waits for it
ends_waiting : (refused : Option SubmitError → Bool) (left : Bool) (e : HubError) → RefusesHandingIn refused e → EndsWaiting refused left e
ends_waiting refused left hub.NoMemory why = absurd why
ends_waiting refused left hub.NoReader why = absurd why
ends_waiting refused left (hub.Stopped place) why = absurd why
ends_waiting refused left (hub.Submit e) why = why
ends_waiting refused left hub.NotAwaited why = absurd why

-- a purge that was not handed in has no receipt, whoever waits for it
pub why_not_purged : (refused : Reading → Option SubmitError → Bool) (left : Bool) (judged : Result Reading Doubt) (e : NotPurged)
    → WhyNotHandedIn refused judged e → WhyNotPurged refused left judged e
why_not_purged refused left (Ok trusted) (Refused e) why = ends_waiting (refused trusted) left e why
why_not_purged refused left (Ok trusted) (Rests doubt) why = absurd why
why_not_purged refused left (Err doubt) (Rests d) why = why
why_not_purged refused left (Err doubt) (Refused e) why = absurd why
