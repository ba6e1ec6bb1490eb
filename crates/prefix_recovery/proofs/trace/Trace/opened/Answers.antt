use Rattle.std.proofs.Common.{sym, subst}
use Rattle.prefix_recovery.specs.Recoverable.{IsRecoverable}
use Rattle.prefix_recovery.proofs.Extended.{recoverable_opened}
use Rattle.prefix_recovery.proofs.trace.Trace.opened.Goals as goal

pub invariant_of-result : goal.invariant_of-result
invariant_of-result g c = subst IsRecoverable (sym c.of.ensures) (recoverable_opened c.args.self.now _ _ c.recovers.ensures c.requires)
