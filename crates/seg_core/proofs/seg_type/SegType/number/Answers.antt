use Rattle.std.proofs.Common.{rules}
use Rattle.seg_core.proofs.seg_type.SegType.number.Goals as goal

pub returns-in-Core : goal.returns-in-Core
returns-in-Core c = search rules
