use Rattle.seg_lookup.proofs.Follows.{pages_are_complete}
use Rattle.seg_lookup.proofs.laws.pages_are_complete.Goals as goal

pub returns : goal.returns
returns c = pages_are_complete
