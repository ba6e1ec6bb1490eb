-- Goals that the search finds itself.
use Rattle.std.proofs.Common.{rules}
use Rattle.store_open.proofs.new_store.format.Goals as goal

pub returns-then-sectors-clause-answer : goal.returns-then-sectors-clause-answer
returns-then-sectors-clause-answer g c = search rules

pub lay_out-requires : goal.lay_out-requires
lay_out-requires g c = search rules

pub returns-in-Ok-clause-answer : goal.returns-in-Ok-clause-answer
returns-in-Ok-clause-answer g c = search rules

pub returns-in-Err-clause-answer : goal.returns-in-Err-clause-answer
returns-in-Err-clause-answer g c = search rules
