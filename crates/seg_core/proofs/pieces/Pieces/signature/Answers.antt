-- One goal, which the search finds itself.
use Rattle.std.proofs.Common.{rules}
use Rattle.seg_core.proofs.pieces.Pieces.signature.Goals as goal

pub returns : goal.returns
returns c = search rules
