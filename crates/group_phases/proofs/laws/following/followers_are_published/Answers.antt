use Rattle.group_phases.proofs.FollowingSteps.{publishes_follower}
use Rattle.group_phases.proofs.laws.following.followers_are_published.Goals as goal

pub returns : goal.returns
returns g c = publishes_follower _
