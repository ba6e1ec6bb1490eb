use Rattle.std.proofs.Common.{arith}
use Rattle.std.proofs.lemmas.Grind.{common_steps}
use Rattle.seg_lookup.proofs.roster.Roster.is_core.Goals as goal

pub returns-else-side-eq0 : goal.returns-else-side-eq0
returns-else-side-eq0 c = grind (arith, common_steps)
