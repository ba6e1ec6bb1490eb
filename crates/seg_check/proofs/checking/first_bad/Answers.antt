-- One goal, which the search finds itself.
use Rattle.std.proofs.Common.{rules}
use Rattle.seg_check.proofs.checking.first_bad.Goals as goal

pub returns-then-not-verify-clause-whole : goal.returns-then-not-verify-clause-whole
returns-then-not-verify-clause-whole g c = search rules
