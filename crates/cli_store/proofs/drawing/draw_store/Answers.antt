-- One goal, which the search finds itself.
use Rattle.std.proofs.Common.{rules}
use Rattle.cli_store.proofs.drawing.draw_store.Goals as goal

pub returns-clause-drawn : goal.returns-clause-drawn
returns-clause-drawn g c = search rules
