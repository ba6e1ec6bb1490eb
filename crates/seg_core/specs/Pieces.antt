-- The pieces of an entry, by their ranges in an encoding: what is signed, its signature, and what
-- is not signed, which may be missing.
use Rattle.std.specs.Prelude.{ℕ, List, length, ◌≤◌}
use Rattle.std.specs.Arc.{arc_value}
use Rattle.std.specs.List.{between}
use Rattle.std.specs.Option.{option_map, ForSome}
use Rattle.seg_core.specs.SegmentView.{PiecesView}
use Rattle.seg_core.specs.declared.pieces.Span.{Span}
use Rattle.seg_core.specs.declared.pieces.Spans.{Spans}
use Rattle.seg_core.specs.declared.pieces.Pieces.TheInside.{Inside}

-- The bytes of this range.
abbrev pub piece_at : List ℕ → Span → List ℕ
piece_at bytes span = between span.start span.end bytes

-- A range is within the bytes.
pub record IsSpanWithin (bytes : List ℕ) (span : Span) : Type 0 where
  pub ordered : span.start ≤ span.end
  pub within : span.end ≤ length bytes

-- The pieces of an entry in these ranges.
abbrev pub pieces_at : List ℕ → Spans → PiecesView
pieces_at bytes spans = record {
  signed = piece_at bytes spans.signed;
  signature = piece_at bytes spans.signature;
  unsigned = option_map (λ span. piece_at bytes span) spans.unsigned;
}

-- The ranges of an entry's pieces are within the bytes.
pub record AreWithin (bytes : List ℕ) (spans : Spans) : Type 0 where
  pub signed : IsSpanWithin bytes spans.signed
  pub signature : IsSpanWithin bytes spans.signature
  pub unsigned : ForSome spans.unsigned (λ span. IsSpanWithin bytes span)

-- The encoding that contains the pieces.
abbrev encoding_of : Inside → List ℕ
encoding_of p = (arc_value p.encoding).items

-- The pieces of an entry in their encoding.
abbrev pub pieces_view : Inside → PiecesView
pieces_view p = pieces_at (encoding_of p) p.spans

-- The ranges of an entry's pieces are within their encoding.
abbrev pub ArePieces : Inside → Type 0
ArePieces p = AreWithin (encoding_of p) p.spans
