use Rattle.seg_core.proofs.Ranges.{IsSegment-IsWellFormed}
use Rattle.seg_core.proofs.laws.messages.whole_segments_are_well_formed.Goals as goal

pub returns : goal.returns
returns c = λ s is. IsSegment-IsWellFormed s is
