use Rattle.std.proofs.Common.{length}
use Rattle.path_db.proofs.answers.+append_shown.Given as goal

abbrev pub decreases-append_shown : goal.decreases-append_shown
decreases-append_shown l = length l.segments.now
