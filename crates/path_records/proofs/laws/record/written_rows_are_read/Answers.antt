use Rattle.path_records.proofs.RowsBack.{rows_back}
use Rattle.path_records.proofs.laws.record.written_rows_are_read.Goals as goal

pub returns : goal.returns
returns c = rows_back
