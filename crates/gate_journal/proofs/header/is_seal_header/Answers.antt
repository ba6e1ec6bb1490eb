-- One goal, which the search finds itself.
use Rattle.std.proofs.Common.{rules}
use Rattle.gate_journal.proofs.header.is_seal_header.Goals as goal

pub returns : goal.returns
returns c = search rules
