use Rattle.session_core.proofs.ToldFrames.{read_of_told}
use Rattle.session_core.proofs.laws.each_was_spent.Goals as goal

pub returns : goal.returns
returns c = read_of_told
