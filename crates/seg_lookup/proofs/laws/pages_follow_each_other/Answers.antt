use Rattle.seg_lookup.proofs.Follows.{pages_follow_each_other}
use Rattle.seg_lookup.proofs.laws.pages_follow_each_other.Goals as goal

pub returns : goal.returns
returns c = pages_follow_each_other
