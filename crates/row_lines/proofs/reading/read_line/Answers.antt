-- What the value says, the line says.
use Rattle.row_lines.proofs.Readings.{value_refused}
use Rattle.row_lines.proofs.reading.read_line.Goals as goal

pub returns-in-Ok-clause-err : goal.returns-in-Ok-clause-err
returns-in-Ok-clause-err c = value_refused c.row_of.result _ _ c.in-Ok.ensures.ok.1 c.row_of.ensures.err
