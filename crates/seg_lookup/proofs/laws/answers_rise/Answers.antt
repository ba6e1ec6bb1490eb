use Rattle.seg_lookup.proofs.Shown.{answers_rise}
use Rattle.seg_lookup.proofs.laws.answers_rise.Goals as goal

pub returns : goal.returns
returns c = answers_rise
