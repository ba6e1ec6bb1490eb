-- One goal, which the search finds itself.
use Rattle.std.proofs.Common.{rules}
use Rattle.test_fault_devices.proofs.fuse_device.FuseDevice.burn.Goals as goal

pub returns-clause-memory : goal.returns-clause-memory
returns-clause-memory c = search rules
