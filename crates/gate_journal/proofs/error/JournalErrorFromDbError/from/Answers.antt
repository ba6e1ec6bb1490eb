-- One goal, which the search finds itself.
use Rattle.std.proofs.Common.{rules}
use Rattle.gate_journal.proofs.error.JournalErrorFromDbError.from.Goals as goal

pub returns-in_default : goal.returns-in_default
returns-in_default c = search rules
