use Rattle.ckpt_stream.proofs.Chunks.{pieces_follow, last_piece_ends}
use Rattle.ckpt_stream.proofs.laws.pieces_follow.Goals as goal

pub returns-clause-next : goal.returns-clause-next
returns-clause-next c = pieces_follow

pub returns-clause-last : goal.returns-clause-last
returns-clause-last c = last_piece_ends
