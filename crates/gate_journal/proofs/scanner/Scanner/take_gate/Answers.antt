-- Goals that the search finds itself.
use Rattle.std.proofs.Common.{rules}
use Rattle.gate_journal.proofs.scanner.Scanner.take_gate.Goals as goal

pub returns-then-self-lt2 : goal.returns-then-self-lt2
returns-then-self-lt2 c = search rules

pub returns : goal.returns
returns c = search rules
