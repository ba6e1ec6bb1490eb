use Rattle.group_phases.proofs.FlusherSteps.{writes_in_journal}
use Rattle.group_phases.proofs.laws.flusher.flusher_writes_lie_in_the_journal.Goals as goal

pub returns : goal.returns
returns g c = writes_in_journal _
