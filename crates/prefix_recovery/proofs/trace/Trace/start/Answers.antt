use Rattle.std.proofs.Common.{sym, subst}
use Rattle.prefix_recovery.specs.Recoverable.{IsRecoverable}
use Rattle.prefix_recovery.proofs.Extended.{recoverable_at}
use Rattle.prefix_recovery.proofs.trace.Trace.start.Goals as goal

pub invariant_of-result : goal.invariant_of-result
invariant_of-result g c = subst IsRecoverable (sym c.of.ensures) (recoverable_at c.args.run.now c.requires)
