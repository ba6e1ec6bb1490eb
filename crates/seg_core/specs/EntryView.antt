-- Entries and segments as contracts see them.
use Rattle.std.specs.Prelude.{ℕ, List, map}
use Rattle.std.specs.Arc.{arc_value}
use Rattle.std.specs.Option.{option_map}
use Rattle.isd_as.specs.IsdAs.{isd_as_number}
use Rattle.seg_core.specs.declared.body.Body.{Body}
use Rattle.seg_core.specs.declared.entry.Entry.{Entry}
use Rattle.seg_core.specs.declared.entry.BorrowedEntry.{BorrowedEntry}
use Rattle.seg_core.specs.declared.entry.MarkedEntry.{MarkedEntry}
use Rattle.seg_core.specs.declared.segment.Parts.{Parts}
use Rattle.seg_core.specs.SegmentView.{EntryView, PiecesView, SegmentView}
use Rattle.seg_core.specs.Pieces.{piece_at, pieces_at}

-- An entry as contracts see it.
abbrev pub entry_view : Entry → EntryView
entry_view e = record {
  ia = isd_as_number e.ia;
  next = isd_as_number e.next;
  ingress = e.ingress;
  egress = e.egress;
  exp_time = e.exp_time;
  signed = e.pieces.signed;
  signature = e.pieces.signature;
  unsigned = e.pieces.unsigned;
}

-- The entries of a list, as contracts see them.
abbrev pub entry_views : List Entry → List EntryView
entry_views entries = map entry_view entries

-- The entry with the numbers of this body and with these pieces.
abbrev pub entry_of : Body → PiecesView → EntryView
entry_of body pieces = record {
  ia = body.ia;
  next = body.next;
  ingress = body.hop.ingress;
  egress = body.hop.egress;
  exp_time = body.hop.exp_time;
  signed = pieces.signed;
  signature = pieces.signature;
  unsigned = pieces.unsigned;
}

-- The pieces of an entry as received.
abbrev pub borrowed_pieces : BorrowedEntry → PiecesView
borrowed_pieces e = record { signed = e.signed.now; signature = e.signature.now; unsigned = option_map (λ s. s.now) e.unsigned }

-- An entry as received.
abbrev pub borrowed_view : BorrowedEntry → EntryView
borrowed_view e = entry_of e.body (borrowed_pieces e)

-- An entry whose pieces are in these bytes.
abbrev pub marked_view : List ℕ → MarkedEntry → EntryView
marked_view bytes e = entry_of e.body (pieces_at bytes e.spans)

-- The entries of a list, whose pieces are in these bytes.
abbrev pub marked_views : List ℕ → List MarkedEntry → List EntryView
marked_views bytes entries = map (λ e. marked_view bytes e) entries

-- A segment as contracts see it. Its information and its pieces are in its encoding.
abbrev pub segment_view : Parts → SegmentView
segment_view parts = record {
  timestamp = parts.timestamp;
  segment_id = parts.segment_id;
  info = piece_at (arc_value parts.encoding).items parts.info;
  entries = entry_views parts.entries.items;
}
