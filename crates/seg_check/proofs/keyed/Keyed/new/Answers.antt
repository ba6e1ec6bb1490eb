-- One goal, which the search finds itself.
use Rattle.std.proofs.Common.{rules}
use Rattle.seg_check.proofs.keyed.Keyed.new.Goals as goal

pub returns : goal.returns
returns c = search rules
