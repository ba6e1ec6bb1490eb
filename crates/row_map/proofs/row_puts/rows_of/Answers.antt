-- One goal, which the search finds itself.
use Rattle.std.proofs.Common.{rules}
use Rattle.row_map.proofs.row_puts.rows_of.Goals as goal

pub returns-in_err-rows-clause-memory : goal.returns-in_err-rows-clause-memory
returns-in_err-rows-clause-memory c = search rules
