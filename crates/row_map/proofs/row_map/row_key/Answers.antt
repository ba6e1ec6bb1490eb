-- One goal, which the search finds itself.
use Rattle.std.proofs.Common.{rules}
use Rattle.row_map.proofs.row_map.row_key.Goals as goal

pub returns : goal.returns
returns c = search rules
