use Rattle.path_records.proofs.RowsBack.{rows_spelled}
use Rattle.path_records.proofs.laws.record.read_rows_are_spelled.Goals as goal

pub returns : goal.returns
returns c = rows_spelled
