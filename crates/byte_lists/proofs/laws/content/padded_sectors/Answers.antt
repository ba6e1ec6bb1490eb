use Rattle.byte_lists.proofs.Padding.{least_room, length-padded}
use Rattle.byte_lists.proofs.laws.content.padded_sectors.Goals as goal

pub returns-clause-least : goal.returns-clause-least
returns-clause-least c = least_room

pub returns-clause-padded : goal.returns-clause-padded
returns-clause-padded c = length-padded
