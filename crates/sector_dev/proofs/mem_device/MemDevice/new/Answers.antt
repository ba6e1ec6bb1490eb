-- One goal, which the search finds itself.
use Rattle.std.proofs.Common.{rules}
use Rattle.sector_dev.proofs.mem_device.MemDevice.new.Goals as goal

pub returns : goal.returns
returns c = search rules
