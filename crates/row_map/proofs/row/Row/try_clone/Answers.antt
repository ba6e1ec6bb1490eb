-- One goal, which the search finds itself.
use Rattle.std.proofs.Common.{rules}
use Rattle.row_map.proofs.row.Row.try_clone.Goals as goal

pub returns-clause-view : goal.returns-clause-view
returns-clause-view c = search rules
