use Rattle.group_phases.proofs.HeldFollowing.{held_when_follower_is_staged, held_while_follower_is_written, held_while_followed_is_synced, held_when_followed_is_published}
use Rattle.group_phases.proofs.laws.held.followers_are_held.Goals as goal

pub returns-clause-staged : goal.returns-clause-staged
returns-clause-staged g c = held_when_follower_is_staged _ _

pub returns-clause-write : goal.returns-clause-write
returns-clause-write g c = held_while_follower_is_written _ _ _ _

pub returns-clause-sync : goal.returns-clause-sync
returns-clause-sync g c = held_while_followed_is_synced _ _ _ _

pub returns-clause-published : goal.returns-clause-published
returns-clause-published g c = held_when_followed_is_published _ _
