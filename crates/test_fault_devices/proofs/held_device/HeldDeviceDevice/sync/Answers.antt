-- One goal, which the search finds itself.
use Rattle.std.proofs.Common.{rules}
use Rattle.test_fault_devices.proofs.held_device.HeldDeviceDevice.sync.Goals as goal

pub returns-clause-gate : goal.returns-clause-gate
returns-clause-gate g c = search rules
