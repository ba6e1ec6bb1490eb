-- Goals that the search finds itself.
use Rattle.std.proofs.Common.{rules}
use Rattle.gate_journal.proofs.encoding.can_be_group.Goals as goal

pub records_len-requires-clause-most : goal.records_len-requires-clause-most
records_len-requires-clause-most c = search rules

pub returns-then-all : goal.returns-then-all
returns-then-all c = search rules
