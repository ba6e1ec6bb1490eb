use Rattle.group_phases.proofs.FollowingSteps.{keeps_follower}
use Rattle.group_phases.proofs.laws.following.followers_stay_where_untouched.Goals as goal

pub returns : goal.returns
returns g c = keeps_follower _
