use Rattle.std.proofs.Common.{◌≡◌, ◌<◌, ap, ◌∙◌, subst}
use Rattle.group_core.specs.Redeeming.{IsReceipt, redeemed}
use Rattle.logged_state.specs.LoggedView.{LoggedView}
use Rattle.logged_state.specs.Claims.{receipt_in}
use Rattle.command_log.specs.declared.rule.Claim.{Claim}
use Rattle.logged_state.proofs.Receipts.{receipt_is}
use Rattle.logged_state.proofs.state.LoggedState.redeem_logged.Goals as goal

pub returns-in-Committed-clause-redeemed : goal.returns-in-Committed-clause-redeemed
returns-in-Committed-clause-redeemed g c =
    let step = c.in-Committed.ensures.redeemed in
    let new = c.of.ensures in
    let command = ap (λ (a : Claim). a.command) (new.claim ∙ c.redeem-logged.ensures.claim) ∙ c.requires.command in
    let receipt = receipt_is g.S.Showcase.tells c.args.ticket c.self.inside.state c.in-Committed.receipt c.of.result step.1 new.place command new.outcome new.note in
    subst
    (λ (v : LoggedView). (c.args.ticket.place < v.state.value.place) × IsReceipt g.S.Showcase.tells c.args.ticket v.state (receipt_in c.of.result) × (c.redeem.new.self ≡ redeemed c.args.ticket v.state))
    c.self.view_is
    (step.0, receipt, step.2)
