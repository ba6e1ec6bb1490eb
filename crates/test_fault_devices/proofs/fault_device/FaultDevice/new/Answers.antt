-- One goal, which the search finds itself.
use Rattle.std.proofs.Common.{rules}
use Rattle.test_fault_devices.proofs.fault_device.FaultDevice.new.Goals as goal

pub returns-clause-before : goal.returns-clause-before
returns-clause-before c = search rules
