use Rattle.seg_core.proofs.ResponseTrip.{decoding-response}
use Rattle.seg_core.proofs.laws.messages.written_responses_are_read.Goals as goal

pub returns : goal.returns
returns c = λ rows whole few small. decoding-response rows whole few small
