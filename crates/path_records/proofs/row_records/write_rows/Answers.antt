-- One goal, which the search finds itself.
use Rattle.std.proofs.Common.{rules}
use Rattle.path_records.proofs.row_records.write_rows.Goals as goal

pub returns-else-is_err-clause-ok : goal.returns-else-is_err-clause-ok
returns-else-is_err-clause-ok c = search rules
