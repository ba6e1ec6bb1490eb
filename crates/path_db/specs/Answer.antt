-- The rows that a lookup shows.
use Rattle.std.specs.Prelude.{ℕ, List, Bool, false, ◌==◌, ◌&&◌, take, filter, map, Option, Some, None}
use Rattle.isd_as.specs.IsdAs.{covers_number}
use Rattle.seg_core.specs.declared.seg_type.SegType.{SegType}
use Rattle.seg_core.specs.SegmentView.{EntryView, SegmentView}
use Rattle.seg_core.specs.Message.{last_of}
use Rattle.seg_core.specs.Registration.{type_number}
use Rattle.row_map.specs.Database.{RowView}
use Rattle.row_map.specs.Drops.{is_valid_beyond}
use Rattle.row_map.specs.Ranges.{is_after}
use Rattle.row_map.specs.Ends.{first_entry_of}

-- An entry is present, and its ISD-AS is covered by the pattern.
abbrev pub covers_entry : ℕ → Option EntryView → Bool
covers_entry pattern None = false
covers_entry pattern (Some e) = covers_number pattern e.ia

-- A row is of the type, the start covers its first entry, and the end covers its last entry.
abbrev pub matches : SegType → ℕ → ℕ → RowView → Bool
matches kind start end row =
    (type_number row.0 == type_number kind) && (covers_entry start (first_entry_of row.1.entries) && covers_entry end (last_of row.1.entries))

-- A row matches, and it expires after this moment, in half seconds since 1970.
abbrev pub is_shown : SegType → ℕ → ℕ → ℕ → RowView → Bool
is_shown kind start end now row = matches kind start end row && is_valid_beyond now row

-- The first rows by key that match and are valid, at most `limit` of them.
unfoldable pub answer_of : ℕ → List RowView → SegType → ℕ → ℕ → ℕ → List RowView
answer_of limit rows kind start end now = take limit (filter (is_shown kind start end now) rows)

-- The first rows by key, of those above the key of the type and an id, that match and are valid, at
-- most `limit` of them.
abbrev pub answer_above : ℕ → List RowView → SegType → List ℕ → ℕ → ℕ → ℕ → List RowView
answer_above limit rows kind id start end now = answer_of limit (filter (is_after kind id) rows) kind start end now

-- The segments of rows.
abbrev pub segments_of : List RowView → List SegmentView
segments_of rows = map (λ row. row.1) rows
