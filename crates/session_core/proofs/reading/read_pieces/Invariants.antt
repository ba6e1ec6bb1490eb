use Rattle.std.proofs.Common.{◌≡◌, length}
use Rattle.session_core.proofs.Pieces.{AreRead}
use Rattle.session_core.proofs.reading.read_pieces.Given as goal

abbrev pub invariant-loop-turn : goal.invariant-loop-turn
invariant-loop-turn g l = record {
  piece : length l.piece ≡ 65536;
  so_far : AreRead g.R.Source.gives l.fn.reader l.reader l.bytes.items l._turn;
}
