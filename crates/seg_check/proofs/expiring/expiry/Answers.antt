-- One goal, which the search finds itself.
use Rattle.std.proofs.Common.{rules}
use Rattle.seg_check.specs.Expiry.{expiry_of}
use Rattle.seg_check.proofs.expiring.expiry.Goals as goal

pub returns : goal.returns
unfolding expiry_of
returns c = search rules
