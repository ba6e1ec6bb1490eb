use Rattle.std.proofs.Common.{rules}
use Rattle.seg_lookup.proofs.answers.answer.Goals as goal

pub returns-clause-same : goal.returns-clause-same
returns-clause-same c = search rules
