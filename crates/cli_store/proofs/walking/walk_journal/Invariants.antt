use Rattle.std.proofs.Common.{◌≡◌, ◌-◌, ◌≤◌}
use Rattle.cli_store.specs.Devices.{LeavesDevice}
use Rattle.cli_store.proofs.walking.walk_journal.Given as goal

-- Nothing was changed, and there are no more groups than sectors before the gate.
abbrev pub invariant-groups : goal.invariant-groups
invariant-groups g l = record {
  leaves : LeavesDevice (g.D.Device.disk l.fn.device) (g.D.Device.disk l.device);
  faults : (g.D.Device.disk l.device).faults ≡ (g.D.Device.disk l.fn.device).faults;
  few : l.groups ≤ l.gate;
}

abbrev pub decreases-groups : goal.decreases-groups
decreases-groups g l = l.sectors - l.gate
