-- Goals that the search finds itself.
use Rattle.std.proofs.Common.{rules}
use Rattle.gate_journal.proofs.header.read_header.Goals as goal

pub returns-then-not-fits-clause-reading : goal.returns-then-not-fits-clause-reading
returns-then-not-fits-clause-reading c = search rules

pub returns-then-is_group_header-clause-reading : goal.returns-then-is_group_header-clause-reading
returns-then-is_group_header-clause-reading c = search rules
