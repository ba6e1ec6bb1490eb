-- One goal, which the search finds itself.
use Rattle.std.proofs.Common.{rules}
use Rattle.test_fault_devices.proofs.fuse_device.FuseDevice.into_mem.Goals as goal

pub returns : goal.returns
returns c = search rules
