-- One goal, which the search finds itself.
use Rattle.std.proofs.Common.{rules}
use Rattle.row_lines.proofs.text.row_head.Goals as goal

pub returns : goal.returns
returns c = search rules
