-- A read that succeeds, which the search finds itself.
use Rattle.std.proofs.Common.{rules}
use Rattle.sector_dev.proofs.file_device.FileDeviceDevice.read.Goals as goal

pub returns-in-Ok-clause-failures : goal.returns-in-Ok-clause-failures
returns-in-Ok-clause-failures g c = search rules

pub returns-in-Err-clause-failures : goal.returns-in-Err-clause-failures
returns-in-Err-clause-failures g c = search rules
