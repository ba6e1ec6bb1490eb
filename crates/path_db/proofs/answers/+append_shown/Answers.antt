-- One goal, which the search finds itself.
use Rattle.std.proofs.Common.{arith}
use Rattle.std.proofs.lemmas.Grind.{common_steps}
use Rattle.path_db.proofs.answers.+append_shown.Goals as goal

pub append_shown-requires : goal.append_shown-requires
append_shown-requires t c = grind (arith, common_steps)
