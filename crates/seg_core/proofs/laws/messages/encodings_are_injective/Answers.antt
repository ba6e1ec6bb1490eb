use Rattle.seg_core.proofs.RoundTrip.{encoding-injective}
use Rattle.seg_core.proofs.laws.messages.encodings_are_injective.Goals as goal

pub returns : goal.returns
returns c = λ s t one other same. encoding-injective s t one other same
