-- One goal, which the search finds itself.
use Rattle.std.proofs.Common.{rules}
use Rattle.store_open.proofs.heads.choose_half.Goals as goal

pub returns-in_err-half-clause-choice : goal.returns-in_err-half-clause-choice
returns-in_err-half-clause-choice g c = search rules
