use Rattle.std.proofs.Common.{◌++◌, take}
use Rattle.std.specs.List.{flat_map}
use Rattle.sha2.specs.Hashers.{Holds256}
use Rattle.seg_check.specs.Keyed.{piece_encoding}
use Rattle.seg_check.proofs.keyed.keyed_signature.Given as goal

-- The hasher has the bytes of the pieces until now.
abbrev pub invariant-loop-piece : goal.invariant-loop-piece
invariant-loop-piece l =
    Holds256 l.hasher ((piece_encoding l.key ++ piece_encoding l.signed) ++ flat_map (λ piece. piece_encoding piece.now) (take l.piece-index l.associated))
