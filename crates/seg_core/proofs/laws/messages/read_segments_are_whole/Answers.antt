use Rattle.seg_core.proofs.Whole.{decoding-IsSegment}
use Rattle.seg_core.proofs.laws.messages.read_segments_are_whole.Goals as goal

pub returns : goal.returns
returns c = λ message s are reading. decoding-IsSegment message s are reading
