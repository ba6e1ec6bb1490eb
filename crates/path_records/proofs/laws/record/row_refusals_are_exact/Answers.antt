use Rattle.path_records.proofs.Refused.{bad_exact, order_exact, rows_want_none}
use Rattle.path_records.proofs.laws.record.row_refusals_are_exact.Goals as goal

pub returns-clause-bad : goal.returns-clause-bad
returns-clause-bad c = bad_exact

pub returns-clause-order : goal.returns-clause-order
returns-clause-order c = order_exact

pub returns-clause-memory : goal.returns-clause-memory
returns-clause-memory c = rows_want_none
