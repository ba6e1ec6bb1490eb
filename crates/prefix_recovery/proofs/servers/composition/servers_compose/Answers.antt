use Rattle.prefix_recovery.proofs.servers.Joined.{servers_joined, place_joined}
use Rattle.prefix_recovery.proofs.servers.composition.servers_compose.Goals as goal

pub returns : goal.returns
returns c = λ start middle last order later claims more looked seen first second.
    (servers_joined start middle last order later claims more looked seen first second, place_joined start middle last order later claims more looked seen first second)
