use Rattle.std.proofs.Common.{length}
use Rattle.seg_core.proofs.path.+is_linked.Given as goal

abbrev pub decreases-is_linked : goal.decreases-is_linked
decreases-is_linked l = length l.entries.now
