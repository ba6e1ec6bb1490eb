-- One goal, which the search finds itself.
use Rattle.std.proofs.Common.{rules}
use Rattle.row_map.proofs.row.Row.new.Goals as goal

pub returns : goal.returns
returns c = search rules
