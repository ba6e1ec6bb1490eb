-- One goal, which the search finds itself.
use Rattle.std.proofs.Common.{rules}
use Rattle.gate_journal.proofs.encoding.payload_sectors.Goals as goal

pub returns : goal.returns
returns c = search rules
