use Rattle.std.proofs.Common.{length}
use Rattle.seg_core.proofs.path.+has_no_loop.Given as goal

abbrev pub decreases-has_no_loop : goal.decreases-has_no_loop
decreases-has_no_loop l = length l.entries.now
