use Rattle.std.proofs.Common.{rules}
use Rattle.seg_core.proofs.seg_type.SegType.from_number.Goals as goal

pub returns-in-1 : goal.returns-in-1
returns-in-1 c = search rules
