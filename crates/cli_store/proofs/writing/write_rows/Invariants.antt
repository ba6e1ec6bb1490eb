use Rattle.cli_store.specs.Text.{rows_text}
use Rattle.whole_writes.proofs.Fronts.{HasWritten}
use Rattle.cli_store.proofs.writing.write_rows.Given as goal

-- The lines of the rows so far were written, and those of the rows that are left are the rest.
abbrev pub invariant-loop-row : goal.invariant-loop-row
invariant-loop-row g l = HasWritten (g.W.Write.contents l.fn.writer) (g.W.Write.contents l.writer) (rows_text l.fn.form l.fn.rows) (rows_text l.fn.form l.row-iterator)
