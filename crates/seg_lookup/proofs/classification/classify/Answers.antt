use Rattle.std.proofs.Common.{rules}
use Rattle.seg_lookup.specs.Classification.{query_of}
use Rattle.seg_lookup.proofs.classification.classify.Goals as goal

pub returns-in-false-false : goal.returns-in-false-false
unfolding query_of
returns-in-false-false c = search rules
