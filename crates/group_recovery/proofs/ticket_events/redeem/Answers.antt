use Rattle.group_recovery.proofs.Tickets.{committed_holds, committed_so, unknown_holds, unknown_so, waiting_holds, waiting_so}
use Rattle.group_recovery.proofs.ticket_events.redeem.Goals as goal

pub returns-in-Committed-clause-held : goal.returns-in-Committed-clause-held
returns-in-Committed-clause-held g c = committed_holds _ _ _ _ _ _ c.in-Some.ensures.taken c.in-Some.ensures.left g.S.Showcase.tells _ c.in-Committed.ensures.redeemed c.requires.held

pub returns-in-Committed-clause-step : goal.returns-in-Committed-clause-step
returns-in-Committed-clause-step g c =
    rw (c.place.ensures, c.outcome.ensures) (committed_so _ _ _ _ _ _ c.in-Some.ensures.taken c.in-Some.ensures.left g.S.Showcase.tells _ c.in-Committed.ensures.redeemed)

pub returns-in-Unknown-clause-held : goal.returns-in-Unknown-clause-held
returns-in-Unknown-clause-held g c = unknown_holds _ _ _ _ _ _ c.in-Some.ensures.taken c.in-Some.ensures.left g.S.Showcase.tells _ c.in-Unknown.ensures.redeemed c.requires.held

pub returns-in-Unknown-clause-step : goal.returns-in-Unknown-clause-step
returns-in-Unknown-clause-step g c = unknown_so _ _ _ _ _ _ c.in-Some.ensures.taken c.in-Some.ensures.left g.S.Showcase.tells _ c.in-Unknown.ensures.redeemed

pub returns-in-Waiting-clause-held : goal.returns-in-Waiting-clause-held
returns-in-Waiting-clause-held g c = waiting_holds _ _ _ _ _ _ c.in-Some.ensures.taken c.in-Some.ensures.left g.S.Showcase.tells _ _ c.put_back.ensures c.in-Waiting.ensures.redeemed c.requires.held

pub returns-in-Waiting-clause-step : goal.returns-in-Waiting-clause-step
returns-in-Waiting-clause-step g c =
    waiting_so _ _ _ _ _ _ c.in-Some.ensures.taken c.in-Some.ensures.left g.S.Showcase.tells _ _ c.put_back.ensures _ c.place-place.ensures c.in-Waiting.ensures.redeemed
