use Rattle.std.proofs.Common.{ap}
use Rattle.prefix_recovery.proofs.servers.Recovered.{served_so}
use Rattle.prefix_recovery.proofs.servers.trace.ServerTrace.of.Goals as goal

pub invariant_of-result : goal.invariant_of-result
invariant_of-result g c =
    served_so c.args.start.value c.args.left _ _ (ap g.D.Device.disk c.of.ensures) c.requires.moments c.requires.since c.requires.looked
