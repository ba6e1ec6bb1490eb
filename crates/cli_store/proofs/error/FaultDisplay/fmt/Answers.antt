-- One goal, which the search finds itself.
use Rattle.std.proofs.Common.{rules}
use Rattle.cli_store.proofs.error.FaultDisplay.fmt.Goals as goal

pub returns-in-Open-Pair-clause-writes : goal.returns-in-Open-Pair-clause-writes
returns-in-Open-Pair-clause-writes g c = search rules
