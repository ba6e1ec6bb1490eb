-- Pieces of bytes: for `laws`.
use Rattle.std.proofs.Common.{◌≡◌, ℕ, ◌+◌, ◌-◌, ◌*◌, ◌≤◌, List, [], ◌++◌, length, take, drop, sym, ap, ◌∙◌, append_assoc, append-nil, arith}
use Rattle.std.specs.Prelude.{replicate}
use Rattle.std.proofs.lemmas.List.{length-append, length-drop, drop-drop, take-append-le, drop-append-le}
use Rattle.std.proofs.Math.Seq.{take-append_seam}
use Rattle.byte_lists.specs.Sectors.{sectors_of, padded}
use Rattle.byte_lists.proofs.Padding.{length-padded}
use Rattle.ckpt_stream.specs.Chunks.{PiecesFollow, LastPieceEnds}

take_all : (l : List ℕ) → take (length l) l ≡ l
take_all l = ap (take (length l)) (sym (append-nil l)) ∙ take-append_seam l []

pub pieces_follow : PiecesFollow
pieces_follow total made rest written is long = record {
  piece = sym (
      ap (take (512 * 256)) (drop-append-le (512 * written) total zeros inside ∙ ap (λ (l : List ℕ). l ++ zeros) is ∙ append_assoc made rest zeros)
      ∙ ap (λ (n : ℕ). take n (made ++ (rest ++ zeros))) size
      ∙ take-append-le 131072 made (rest ++ zeros) long
      );
  left =
      ap (λ (n : ℕ). drop n total) more ∙ sym (drop-drop 131072 (512 * written) total) ∙ ap (drop 131072) is ∙ drop-append-le 131072 made rest long;
}
  where
    zeros : List ℕ
    zeros = replicate (512 * sectors_of (length total) - length total) 0

    size : 512 * 256 ≡ 131072
    size = omega arith

    more : 512 * (written + 256) ≡ 512 * written + 131072
    more = omega arith

    inside : 512 * written ≤ length total
    inside = omega (arith, long, ap length is, length-append made rest, length-drop (512 * written) total)

pub last_piece_ends : LastPieceEnds
last_piece_ends total made written inside is = record {
  piece = sym (ap (take (length (padded made))) behind ∙ take_all (padded made));
  whole = omega (arith, length-padded made, length-padded total, size);
}
  where
    size : length total ≡ 512 * written + length made
    size = omega (arith, inside, ap length is, length-drop (512 * written) total)

    zeros : 512 * sectors_of (length total) - length total ≡ 512 * sectors_of (length made) - length made
    zeros = omega (arith, size)

    behind : drop (512 * written) (padded total) ≡ padded made
    behind =
        drop-append-le (512 * written) total (replicate (512 * sectors_of (length total) - length total) 0) inside
        ∙ ap (λ (l : List ℕ). l ++ replicate (512 * sectors_of (length total) - length total) 0) is
        ∙ ap (λ (n : ℕ). made ++ replicate n 0) zeros
