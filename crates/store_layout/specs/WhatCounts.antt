-- The bytes of an image that count for its opening, as spans. All other bytes may be anything.
use Rattle.std.specs.Prelude.{◌≡◌, ◌⊎◌, ℕ, ◌+◌, ◌*◌, ◌≤◌, Bool, true, false, List, [], ◌∷◌, Option, Some, None}
use Rattle.byte_lists.specs.Content.{part}
use Rattle.byte_lists.specs.Sectors.{is_open_gate}
use Rattle.byte_lists.specs.declared.format.TheConstants.{SECTOR}
use Rattle.store_layout.specs.declared.half.Half.{Half}
use Rattle.store_layout.specs.Journal.{Reading, sectors_read}
use Rattle.store_layout.specs.Layout.{Geometry, other, area_at, gate_at, journal_at, gate_of}
use Rattle.store_layout.specs.StoreFormat.{StoreFormat}
use Rattle.store_layout.specs.Checkpoint.{checkpoint_size}
use Rattle.store_layout.specs.Opening.{Opening}

-- Bytes at an offset.
pub record CountedSpan : Type 0 where
  -- The offset of the first byte.
  pub at : ℕ
  -- The number of bytes.
  pub size : ℕ

-- The span at an offset, of this number of bytes.
abbrev pub span : ℕ → ℕ → CountedSpan
span at size = record { at = at; size = size }

-- The head of the half that is not chosen, where that half is open.
abbrev pub head_spans : Geometry → Half → Bool → List CountedSpan → List CountedSpan
head_spans geometry half false more = more
head_spans geometry half true more = span (SECTOR * area_at geometry half) 24 ∷ more

-- The journal of the half that is not chosen, where it continues after a seal.
abbrev pub tail_spans : {C : Type 0} → Geometry → Half → Option (Reading C) → List CountedSpan
tail_spans geometry half None = []
tail_spans geometry half (Some behind) = span (SECTOR * journal_at geometry half) (SECTOR * sectors_read behind) ∷ []

-- The title in sector 0, and of the chosen half byte 0 of its gate, its checkpoint, and its journal
-- as far as it is read.
abbrev pub chosen_spans : {Db C : Type 0} → StoreFormat Db C → Opening Db C → List CountedSpan → List CountedSpan
chosen_spans format opening more =
    span 0 20
    ∷ span (SECTOR * gate_at opening.geometry opening.chosen) 1
    ∷ span (SECTOR * area_at opening.geometry opening.chosen) (checkpoint_size format.rows opening.checkpoint)
    ∷ span (SECTOR * journal_at opening.geometry opening.chosen) (SECTOR * sectors_read opening.journal)
    ∷ more

-- All spans that count for an opening: those of the chosen half, byte 0 of the other half's gate,
-- and the other half's head or its journal.
abbrev pub spans_of : {Db C : Type 0} → StoreFormat Db C → Opening Db C → Bool → List CountedSpan
spans_of format opening other_is_open =
    chosen_spans format opening
    (span (SECTOR * gate_at opening.geometry (other opening.chosen)) 1
    ∷ head_spans opening.geometry (other opening.chosen) other_is_open (tail_spans opening.geometry (other opening.chosen) opening.tail))

-- The spans of an image with this opening.
abbrev pub spans_in : {Db C : Type 0} → StoreFormat Db C → List ℕ → Opening Db C → List CountedSpan
spans_in format image opening = spans_of format opening (is_open_gate (gate_of opening.geometry (other opening.chosen) image))

-- Two images have the same bytes in a span.
abbrev pub IsSameSpan : List ℕ → List ℕ → CountedSpan → Type 0
IsSameSpan one two counted = part counted.at counted.size two ≡ part counted.at counted.size one

-- The bytes at an offset are before the span or after it.
abbrev pub IsApart : ℕ → ℕ → CountedSpan → Type 0
IsApart at size counted = (at + size ≤ counted.at) ⊎ (counted.at + counted.size ≤ at)
