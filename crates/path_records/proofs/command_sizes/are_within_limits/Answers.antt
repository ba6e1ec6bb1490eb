-- One goal, which the search finds itself.
use Rattle.std.proofs.Common.{rules}
use Rattle.path_records.proofs.command_sizes.are_within_limits.Goals as goal

pub returns-then-rows-le-MOST_REGISTERED-clause-exact : goal.returns-then-rows-le-MOST_REGISTERED-clause-exact
returns-then-rows-le-MOST_REGISTERED-clause-exact c = search rules
