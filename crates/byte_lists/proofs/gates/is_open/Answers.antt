-- One goal, which the search finds itself.
use Rattle.std.proofs.Common.{rules}
use Rattle.byte_lists.proofs.gates.is_open.Goals as goal

pub returns : goal.returns
returns c = search rules
