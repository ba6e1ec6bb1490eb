use Rattle.std.proofs.Common.{List, subst}
use Rattle.path_db.specs.declared.command.Command.{Command}
use Rattle.command_queue.specs.declared.ghosts.rule.SentCommand.{SentCommand}
use Rattle.command_queue.specs.Orders.{commands_of, IsWithin}
use Rattle.command_queue.proofs.PassSteps.{within_whole}
use Rattle.command_queue.proofs.desk.Desk.end.Goals as goal

-- what is within a front is within the whole
pub returns-clause-submitted : goal.returns-clause-submitted
returns-clause-submitted g c =
    let within = within_whole _ _ _ c.check.ensures.submitted.within in
    subst (λ (xs : List Command). IsWithin xs (commands_of c.args.self)) c.into_pass.ensures.commands
    (subst (λ (h : List SentCommand). IsWithin c.into_pass.result.me.0.submitted (commands_of h)) c.self.view_is within)
