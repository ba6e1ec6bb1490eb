-- Goals that the search finds itself.
use Rattle.std.proofs.Common.{rules, arith}
use Rattle.std.proofs.lemmas.Grind.{common_steps}
use Rattle.path_records.proofs.database_reader.DatabaseReader.feed_joined.Goals as goal

pub invariant_of-result : goal.invariant_of-result
invariant_of-result c = search rules

pub returns-clause-fed : goal.returns-clause-fed
returns-clause-fed c = grind (arith, common_steps)
