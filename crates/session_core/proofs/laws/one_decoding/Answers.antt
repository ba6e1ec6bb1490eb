use Rattle.session_core.proofs.OneDecoding.{one_decoding_of}
use Rattle.session_core.proofs.laws.one_decoding.Goals as goal

pub returns : goal.returns
returns c = record {
  messages = λ kinds bytes ms ns e f p q. (one_decoding_of kinds bytes ms ns e f p q).0;
  ending = λ kinds bytes ms ns e f p q. (one_decoding_of kinds bytes ms ns e f p q).1;
}
