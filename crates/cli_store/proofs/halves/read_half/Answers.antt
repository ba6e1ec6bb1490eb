-- Goals that the search finds itself.
use Rattle.std.proofs.Common.{rules}
use Rattle.cli_store.proofs.halves.read_half.Goals as goal

pub returns-in_err-area : goal.returns-in_err-area
returns-in_err-area g c = search rules

pub returns-in_err-journal : goal.returns-in_err-journal
returns-in_err-journal g c = search rules

pub returns : goal.returns
returns g c = search rules
