use Rattle.std.proofs.Common.{rules}
use Rattle.seg_core.proofs.segment.Segment.entries.Goals as goal

pub returns-clause-same : goal.returns-clause-same
returns-clause-same c = search rules
