-- One goal, which the search finds itself.
use Rattle.std.proofs.Common.{rules}
use Rattle.seg_check.proofs.digest.seg_id.Goals as goal

pub returns : goal.returns
returns c = search rules
