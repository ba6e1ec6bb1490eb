use Rattle.std.proofs.Common.{rules}
use Rattle.isd_as.proofs.number.IsdAs.new.Goals as goal

pub returns-clause-isd : goal.returns-clause-isd
returns-clause-isd c = search rules
