use Rattle.session_limits.proofs.NoCommands.{not_taken}
use Rattle.session_limits.proofs.laws.commands_are_not_taken.Goals as goal

pub returns : goal.returns
returns g c = λ old message reply new none some answered. not_taken old message reply new none g.S.Service.answers some answered
