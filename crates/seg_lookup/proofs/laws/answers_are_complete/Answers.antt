use Rattle.seg_lookup.proofs.Shown.{answers_are_complete}
use Rattle.seg_lookup.proofs.laws.answers_are_complete.Goals as goal

pub returns : goal.returns
returns c = answers_are_complete
