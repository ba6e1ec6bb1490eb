-- One goal, which the search finds itself.
use Rattle.std.proofs.Common.{rules}
use Rattle.test_fault_devices.proofs.fuse_device.FuseDevice.new.Goals as goal

pub returns-clause-calls : goal.returns-clause-calls
returns-clause-calls c = search rules
