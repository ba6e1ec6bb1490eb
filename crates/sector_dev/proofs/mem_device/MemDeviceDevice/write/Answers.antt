-- One goal, which the search finds itself.
use Rattle.std.proofs.Common.{arith}
use Rattle.std.proofs.lemmas.Grind.{common_steps}
use Rattle.sector_dev.proofs.mem_device.MemDeviceDevice.write.Goals as goal

pub returns : goal.returns
returns c = grind (arith, common_steps)
