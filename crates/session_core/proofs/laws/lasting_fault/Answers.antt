use Rattle.session_core.proofs.Faults.{AreFrames-bad_length, AreFrames-bad_kind}
use Rattle.session_core.proofs.laws.lasting_fault.Goals as goal

pub returns : goal.returns
returns c = record {
  length = λ kinds. AreFrames-bad_length;
  kind = λ kinds. AreFrames-bad_kind;
}
