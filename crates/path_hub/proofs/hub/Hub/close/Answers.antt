use Rattle.std.proofs.Common.{List, sym, subst}
use Rattle.command_log.specs.Log.{Log}
use Rattle.command_log.specs.declared.rule.Claim.{Claim}
use Rattle.logged_state.specs.Left.{OpensToLog, OpensWithAll}
use Rattle.path_hub.proofs.hub.Hub.close.Goals as goal

-- what is left of the state is in what is left of the hub
pub returns-clause-left : goal.returns-clause-left
returns-clause-left g c honest content is =
    subst (λ (log : Log). OpensToLog g.N.StateName.opening log content) (sym c.of.ensures.log) (c.close_state-device.ensures.left honest content is)

pub returns-clause-acknowledged : goal.returns-clause-acknowledged
returns-clause-acknowledged g c honest content is =
    subst (λ (claims : List Claim). OpensWithAll g.N.StateName.opening claims content) (sym c.of.ensures.acknowledged) (c.close_state-device.ensures.acknowledged honest content is)
