use Rattle.seg_lookup.proofs.Shown.{answers_are_short}
use Rattle.seg_lookup.proofs.laws.answers_are_short.Goals as goal

pub returns : goal.returns
returns c = answers_are_short
