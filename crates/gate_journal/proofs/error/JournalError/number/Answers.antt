-- One goal, which the search finds itself.
use Rattle.std.proofs.Common.{rules}
use Rattle.gate_journal.proofs.error.JournalError.number.Goals as goal

pub returns-in-Gap : goal.returns-in-Gap
returns-in-Gap c = search rules
