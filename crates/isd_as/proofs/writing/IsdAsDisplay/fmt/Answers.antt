use Rattle.std.proofs.Common.{rules}
use Rattle.isd_as.proofs.writing.IsdAsDisplay.fmt.Goals as goal

pub returns-then-self-clause-styled : goal.returns-then-self-clause-styled
returns-then-self-clause-styled g c = search rules
