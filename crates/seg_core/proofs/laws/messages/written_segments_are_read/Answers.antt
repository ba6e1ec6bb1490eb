use Rattle.seg_core.proofs.RoundTrip.{encoding-IsBytes, decoding-encoding}
use Rattle.seg_core.proofs.laws.messages.written_segments_are_read.Goals as goal

pub returns-clause-bytes : goal.returns-clause-bytes
returns-clause-bytes c = λ s is. encoding-IsBytes s is

pub returns-clause-read : goal.returns-clause-read
returns-clause-read c = λ s is. decoding-encoding s is
