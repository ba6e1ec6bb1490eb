use Rattle.std.proofs.Common.{rules}
use Rattle.seg_core.proofs.segment.Segment.segment_info.Goals as goal

pub returns : goal.returns
returns c = search rules
