-- Bytes that are written in pieces of 256 sectors. `total` are all bytes, `made` are those that are
-- made and not written, `rest` are those that are not made yet, and `written` counts the sectors
-- that are written.
use Rattle.std.specs.Prelude.{◌≡◌, ℕ, ◌+◌, ◌*◌, ◌≤◌, List, ◌++◌, length, take, drop}
use Rattle.path_records.specs.declared.format.TheConstants.{PIECE}
use Rattle.byte_lists.specs.Content.{part}
use Rattle.byte_lists.specs.Sectors.{padded}
use Rattle.byte_lists.specs.declared.format.TheConstants.{SECTOR}

-- The first piece of what is made is the next piece of all bytes.
pub record IsNextPiece (total made rest : List ℕ) (written : ℕ) : Type 0 where
  -- It is what comes after the sectors that are written.
  pub piece : take PIECE made ≡ part (SECTOR * written) PIECE (padded total)
  -- The bytes after it are what is left of those made, and then the rest.
  pub left : drop (SECTOR * (written + 256)) total ≡ drop PIECE made ++ rest

-- All that is made, filled up with zeros, is the last piece of all bytes.
pub record IsLastPiece (total made : List ℕ) (written : ℕ) : Type 0 where
  -- It is what comes after the sectors that are written.
  pub piece : padded made ≡ part (SECTOR * written) (length (padded made)) (padded total)
  -- Nothing comes after it.
  pub whole : SECTOR * written + length (padded made) ≡ length (padded total)

-- Where what comes after the sectors that are written is `made` and then `rest`, and a piece or
-- more is made, the first piece of `made` is the next piece of all bytes.
abbrev pub PiecesFollow : Type 0
PiecesFollow =
    (total made rest : List ℕ) (written : ℕ) → drop (SECTOR * written) total ≡ made ++ rest → PIECE ≤ length made → IsNextPiece total made rest written

-- Where nothing is left to be made, all that is made is the last piece of all bytes.
abbrev pub LastPieceEnds : Type 0
LastPieceEnds =
    (total made : List ℕ) (written : ℕ) → SECTOR * written ≤ length total → drop (SECTOR * written) total ≡ made → IsLastPiece total made written
