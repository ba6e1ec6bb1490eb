use Rattle.std.proofs.Common.{sym, subst}
use Rattle.prefix_recovery.specs.Recoverable.{IsRecoverable}
use Rattle.prefix_recovery.proofs.Extended.{recoverable_then}
use Rattle.prefix_recovery.proofs.trace.Trace.and.Goals as goal

pub invariant_of-result : goal.invariant_of-result
invariant_of-result g c =
    subst IsRecoverable (sym c.of.ensures)
    (recoverable_then c.args.self.now c.args.event.now c.args.reply.now c.args.run.now c.recovers.ensures c.requires)
