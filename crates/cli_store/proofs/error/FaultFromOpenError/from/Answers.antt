-- One goal, which the search finds itself.
use Rattle.std.proofs.Common.{rules}
use Rattle.cli_store.proofs.error.FaultFromOpenError.from.Goals as goal

pub returns-in-NoMemory : goal.returns-in-NoMemory
returns-in-NoMemory c = search rules
