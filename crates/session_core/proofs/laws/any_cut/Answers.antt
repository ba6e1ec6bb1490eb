use Rattle.session_core.proofs.FramerLemmas.{continues-append, continues-whole}
use Rattle.session_core.proofs.laws.any_cut.Goals as goal

pub returns : goal.returns
returns c = record {
  joined = λ kinds. continues-append;
  whole = λ kinds. continues-whole;
}
