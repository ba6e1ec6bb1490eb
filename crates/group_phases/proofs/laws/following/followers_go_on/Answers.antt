use Rattle.group_phases.proofs.FollowingSteps.{writes_follower, syncs_follower}
use Rattle.group_phases.proofs.laws.following.followers_go_on.Goals as goal

pub returns-clause-write : goal.returns-clause-write
returns-clause-write g c = writes_follower _ _ _

pub returns-clause-sync : goal.returns-clause-sync
returns-clause-sync g c = syncs_follower _ _ _
