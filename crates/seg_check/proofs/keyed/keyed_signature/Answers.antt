use Rattle.std.proofs.Common.{◌++◌, List, ℕ, ap, sym, ◌∙◌, append_assoc}
use Rattle.std.specs.List.{flat_map}
use Rattle.std.specs.Borrow.{Bor}
use Rattle.std.proofs.lemmas.List.Folds.{flat_map-map}
use Rattle.sha2.specs.Sha256.{sha256}
use Rattle.seg_check.specs.Keyed.{keyed_signature, piece_encoding}
use Rattle.std.proofs.lemmas.List.{take_all}
use Rattle.seg_check.proofs.keyed.keyed_signature.Goals as goal

-- all pieces
pub returns : goal.returns
unfolding keyed_signature
returns c =
    let pieces = c.args.associated.now in
    let key = piece_encoding c.args.key.now in
    let signed = piece_encoding c.args.signed.now in
    let piece_bytes = λ (piece : Bor (List ℕ)). piece_encoding piece.now in
    c.finalize.ensures _ c.loop-piece.invariant
    ∙ ap (λ l. sha256 ((key ++ signed) ++ flat_map piece_bytes l)) (take_all c.loop-piece.piece-index pieces c.loop-piece-test.false)
    ∙ ap sha256 (append_assoc key signed (flat_map piece_bytes pieces)
    ∙ ap (λ l. key ++ (signed ++ l)) (sym (flat_map-map piece_encoding (λ piece. piece.now) pieces)))
