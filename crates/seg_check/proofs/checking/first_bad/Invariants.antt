use Rattle.std.proofs.Common.{◌≡◌, ◌+◌, ◌*◌, ◌<◌, length, take, drop}
use Rattle.seg_core.specs.EntryView.{entry_views}
use Rattle.seg_check.specs.Signatures.{referred_pieces, associated_pieces}
use Rattle.seg_check.specs.Checking.{first_bad_behind, first_bad}
use Rattle.seg_check.proofs.checking.first_bad.Given as goal

-- The entries before this one are verified, and `pieces` begins with their pieces.
abbrev pub invariant-loop-at : goal.invariant-loop-at
invariant-loop-at g l = record {
  pieces : l.at < length l.entries → referred_pieces (take (2 * l.at + 1) l.pieces) ≡ associated_pieces l.segment.info (entry_views (take l.at l.entries));
  left : first_bad_behind (entry_views (take l.at l.entries)) (g.V.Verifier.verifies l.verifier) l.segment.info (entry_views (drop l.at l.entries))
      ≡ first_bad (g.V.Verifier.verifies l.verifier) l.segment.info (entry_views l.entries);
}
