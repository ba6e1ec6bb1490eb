-- Goals that the search finds itself.
use Rattle.std.proofs.Common.{rules}
use Rattle.cli_store.proofs.formatting.format.Goals as goal

pub returns-clause-answer : goal.returns-clause-answer
returns-clause-answer g c = search rules

pub returns-in-Ok-format-clause-answer : goal.returns-in-Ok-format-clause-answer
returns-in-Ok-format-clause-answer g c = search rules
