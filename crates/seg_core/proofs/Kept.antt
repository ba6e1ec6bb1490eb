-- What is read of a segment is kept: its encoding, and in the encoding its information and the
-- pieces of its entries.
use Rattle.std.proofs.Common.{◌≡◌, ℕ, List, ◌++◌, Ok, sym, ap, ◌∙◌, subst}
use Rattle.std.specs.Arc.{arc_value}
use Rattle.pw_wire.specs.Decoding.{IsBytes}
use Rattle.seg_core.specs.declared.entry.MarkedEntry.{MarkedEntry}
use Rattle.seg_core.specs.declared.segment.Parts.{Parts}
use Rattle.seg_core.specs.SegmentView.{SegmentView}
use Rattle.seg_core.specs.Pieces.{piece_at, IsSpanWithin}
use Rattle.seg_core.specs.EntryView.{entry_views, marked_views, segment_view}
use Rattle.seg_core.specs.Segment.{segment_decoding}
use Rattle.seg_core.specs.Encoding.{bytes_encoding, entries_encoding, segment_encoding, IsSegment}
use Rattle.seg_core.specs.Digest.{segment_digest}
use Rattle.seg_core.specs.Kept.{IsKept}
use Rattle.seg_core.proofs.Whole.{decoding-IsSegment}
use Rattle.seg_core.proofs.PiecesKept.{IsWithin-kept, piece-kept}

-- the segment with these parts and this information
abbrev pub view_with : Parts → List ℕ → SegmentView
view_with parts info = record { timestamp = parts.timestamp; segment_id = parts.segment_id; info = info; entries = entry_views parts.entries.items }

-- Parts whose encoding is what was put: first the information, then the entries.
pub record WerePut (parts : Parts) (info headed : List ℕ) (marked : List MarkedEntry) : Type 0 where
  pub headed_is : headed ≡ bytes_encoding 1 info
  pub within : IsSpanWithin headed parts.info
  pub there : piece_at headed parts.info ≡ info
  pub put : (arc_value parts.encoding).items ≡ headed ++ entries_encoding (marked_views (arc_value parts.encoding).items marked)
  pub entries : entry_views parts.entries.items ≡ marked_views (arc_value parts.encoding).items marked

view_is : (parts : Parts) (info headed : List ℕ) (marked : List MarkedEntry) → WerePut parts info headed marked → segment_view parts ≡ view_with parts info
view_is parts info headed marked were =
    let bytes = (arc_value parts.encoding).items in
    let behind = entries_encoding (marked_views bytes marked) in
    ap (view_with parts) (ap (λ bs. piece_at bs parts.info) were.put ∙ piece-kept headed behind parts.info were.within ∙ were.there)

encoding_is : (parts : Parts) (info headed : List ℕ) (marked : List MarkedEntry) → WerePut parts info headed marked → (arc_value parts.encoding).items ≡ segment_encoding (view_with parts info)
unfolding segment_encoding
encoding_is parts info headed marked were =
    let bytes = (arc_value parts.encoding).items in
    were.put
    ∙ ap (λ bs. bs ++ entries_encoding (marked_views bytes marked)) were.headed_is
    ∙ ap (λ views. bytes_encoding 1 info ++ entries_encoding views) (sym were.entries)

pub read-IsKept : (message : List ℕ) (parts : Parts) (info headed : List ℕ) (marked : List MarkedEntry) → IsBytes message
    → segment_decoding message ≡ Ok (view_with parts info) → WerePut parts info headed marked
    → parts.digest ≡ segment_digest (view_with parts info) → IsKept parts
read-IsKept message parts info headed marked are reading were digest =
    let view = view_is parts info headed marked were in
    record {
      whole = subst IsSegment (sym view) (decoding-IsSegment message (view_with parts info) are reading);
      encoded = encoding_is parts info headed marked were ∙ ap segment_encoding (sym view);
      info =
          let bytes = (arc_value parts.encoding).items in
          subst (λ bs. IsSpanWithin bs parts.info) (sym were.put) (IsWithin-kept headed (entries_encoding (marked_views bytes marked)) parts.info were.within);
      digest = digest ∙ ap segment_digest (sym view);
    }
