-- One goal, which the search finds itself.
use Rattle.std.proofs.Common.{rules}
use Rattle.gate_journal.proofs.encoding.fits.Goals as goal

pub returns-then-payload-journal : goal.returns-then-payload-journal
returns-then-payload-journal c = search rules
