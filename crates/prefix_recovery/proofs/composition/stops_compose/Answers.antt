use Rattle.prefix_recovery.proofs.Fronts.{front_then, place_rises}
use Rattle.prefix_recovery.proofs.composition.stops_compose.Goals as goal

pub returns : goal.returns
returns c = λ start middle last order later first second.
    (front_then start middle last order later first second, place_rises start middle last order later first second)
