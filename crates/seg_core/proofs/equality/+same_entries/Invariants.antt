use Rattle.std.proofs.Common.{length}
use Rattle.seg_core.proofs.equality.+same_entries.Given as goal

abbrev pub decreases-same_entries : goal.decreases-same_entries
decreases-same_entries l = length l.some.now
