use Rattle.path_records.proofs.RowsBack.{rows_counted}
use Rattle.path_records.proofs.laws.record.written_rows_are_counted.Goals as goal

pub returns : goal.returns
returns c = rows_counted
