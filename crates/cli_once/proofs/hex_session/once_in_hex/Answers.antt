-- Goals that the search finds itself.
use Rattle.std.proofs.Common.{rules}
use Rattle.cli_once.proofs.hex_session.once_in_hex.Goals as goal

pub returns-in_err-count : goal.returns-in_err-count
returns-in_err-count g c = search rules

pub returns : goal.returns
returns g c = search rules
