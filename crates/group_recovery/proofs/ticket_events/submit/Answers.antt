use Rattle.std.proofs.Common.{Some, [], ◌∷◌, ◌++◌, ap, ◌∙◌}
use Rattle.group_recovery.proofs.Tickets.{accepted_holds}
use Rattle.group_recovery.proofs.ticket_events.submit.Goals as goal

pub returns-in-Ok-submit-clause-held : goal.returns-in-Ok-submit-clause-held
returns-in-Ok-submit-clause-held g c =
    accepted_holds c.args.tickets.now.items _ c.in-Ok-submit.ticket c.args.command.now c.in-Ok.copy _ _
    (c.keep.ensures ∙ ap (λ l. l ++ Some c.in-Ok-submit.ticket ∷ []) c.reserve.ensures.items) c.in-Ok.ensures.same c.in-Ok-submit.ensures.step c.requires.held
