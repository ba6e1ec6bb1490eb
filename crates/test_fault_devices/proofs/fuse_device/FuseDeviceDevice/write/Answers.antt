-- One goal, which the search finds itself.
use Rattle.std.proofs.Common.{rules}
use Rattle.test_fault_devices.proofs.fuse_device.FuseDeviceDevice.write.Goals as goal

pub returns-then-is_first-clause-torn : goal.returns-then-is_first-clause-torn
returns-then-is_first-clause-torn c = search rules
