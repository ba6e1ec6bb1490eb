use Rattle.seg_core.proofs.Whole.{decoding-length}
use Rattle.seg_core.proofs.laws.messages.encodings_are_shortest.Goals as goal

pub returns : goal.returns
returns c = λ message s are reading. decoding-length message s are reading
