-- One goal, which the search finds itself.
use Rattle.std.proofs.Common.{rules}
use Rattle.gate_journal.proofs.encoding.encode_group.Goals as goal

pub returns : goal.returns
returns c = search rules
