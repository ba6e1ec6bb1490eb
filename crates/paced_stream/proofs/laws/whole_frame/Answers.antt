use Rattle.paced_stream.proofs.FrameLemmas as frame
use Rattle.paced_stream.proofs.laws.whole_frame.Goals as goal

pub returns : goal.returns
returns c = frame.whole_frame
