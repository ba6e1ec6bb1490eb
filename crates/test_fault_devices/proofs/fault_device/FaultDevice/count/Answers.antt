-- One goal, which the search finds itself.
use Rattle.std.proofs.Common.{rules}
use Rattle.test_fault_devices.proofs.fault_device.FaultDevice.count.Goals as goal

pub returns-in-None-clause-memory : goal.returns-in-None-clause-memory
returns-in-None-clause-memory c = search rules
