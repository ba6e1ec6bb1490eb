-- One goal, which the search finds itself.
use Rattle.std.proofs.Common.{rules}
use Rattle.row_map.proofs.row_list.RowsIterator.next.Goals as goal

pub returns-clause-steps : goal.returns-clause-steps
returns-clause-steps c = search rules
