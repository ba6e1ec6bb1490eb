-- Goals that the search finds itself.
use Rattle.std.proofs.Common.{rules}
use Rattle.isd_as.proofs.wildcard.covers.Goals as goal

pub returns-else-pattern-ia-clause-parts : goal.returns-else-pattern-ia-clause-parts
returns-else-pattern-ia-clause-parts c = search rules

pub returns-else-pattern-ia-clause-number : goal.returns-else-pattern-ia-clause-number
returns-else-pattern-ia-clause-number c = search rules
