-- One goal, which the search finds itself.
use Rattle.std.proofs.Common.{rules}
use Rattle.gate_journal.proofs.scanner.Scanner.new.Goals as goal

pub returns-clause-start : goal.returns-clause-start
returns-clause-start c = search rules
