use Rattle.group_phases.proofs.FlusherSteps.{publishes_group}
use Rattle.group_phases.proofs.laws.flusher.durable_groups_are_published.Goals as goal

pub returns : goal.returns
returns g c = publishes_group _
