use Rattle.session_core.proofs.SomeDecoding.{decoding_in}
use Rattle.session_core.proofs.laws.some_decoding.Goals as goal

pub returns : goal.returns
returns c = λ kinds bytes below. let f = decoding_in kinds bytes below in (f.messages, f.ending, f.framed)
