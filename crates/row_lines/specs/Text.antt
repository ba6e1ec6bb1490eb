-- A row as a line of text.
use Rattle.std.specs.Prelude.{ℕ, ◌-◌, ◌*◌, ◌/◌, ◌%◌, ◌^◌, List, [], ◌∷◌, ◌++◌, length, codes, Option, Some, None}
use Rattle.std.specs.List.{slice_get}
use Rattle.std.specs.Fmt.{decimal}
use Rattle.hex.specs.Hex.{encode_lower}
use Rattle.isd_as.specs.Text.{as_text}
use Rattle.seg_core.specs.declared.seg_type.SegType.{SegType}
use Rattle.seg_core.specs.declared.seg_type.SegType.TheVariants.{Up, Down, Core}
use Rattle.seg_core.specs.SegmentView.{EntryView, SegmentView}
use Rattle.seg_core.specs.Digest.{segment_digest}
use Rattle.seg_check.specs.Expiry.{expiry_of}
use Rattle.row_map.specs.Database.{RowView}
use Rattle.row_lines.specs.Date.{date_text}

-- The word of a type.
abbrev pub type_word : SegType → List ℕ
type_word Up = codes "up"
type_word Down = codes "down"
type_word Core = codes "core"

-- The canonical text of an ISD-AS of 64 bits: the upper 16 bits in decimal, a dash, and the AS.
abbrev pub number_text : ℕ → List ℕ
number_text number = decimal (number / 2 ^ 48) ++ (codes "-" ++ as_text (number % 2 ^ 48))

-- The text of an entry's ISD-AS. Where there is no entry, the text is empty.
abbrev pub end_text : Option EntryView → List ℕ
end_text None = []
end_text (Some e) = number_text e.ia

-- The first entry.
abbrev pub first_entry : List EntryView → Option EntryView
first_entry entries = slice_get entries 0

-- The last entry.
abbrev pub last_entry : List EntryView → Option EntryView
last_entry entries = slice_get entries (length entries - 1)

-- A word, a space, and what follows.
abbrev pub before : List ℕ → List ℕ → List ℕ
before word rest = word ++ (codes " " ++ rest)

-- The front of a row's line: the type, the id in hexadecimal digits, the timestamp in seconds since
-- 1970, and when the segment expires, in half seconds.
abbrev pub row_head : RowView → List ℕ
row_head row =
    before (type_word row.0) (before (encode_lower (segment_digest row.1)) (before (decimal row.1.timestamp) (decimal (expiry_of row.1))))

-- The end of a row's line: the first and the last ISD-AS, and the number of entries.
abbrev pub row_ends : SegmentView → List ℕ
row_ends s = before (end_text (first_entry s.entries)) (before (end_text (last_entry s.entries)) (decimal (length s.entries)))

-- The line of a row.
unfoldable pub row_line : RowView → List ℕ
row_line row = before (row_head row) (row_ends row.1) ++ 0x0a ∷ []

-- The timestamp as a date.
abbrev pub made_date : SegmentView → List ℕ
made_date s = date_text (s.timestamp * 2)

-- The timestamp and the expiry as dates.
abbrev pub row_dates : SegmentView → List ℕ
row_dates s = before (made_date s) (date_text (expiry_of s))

-- The line of a row with these dates at its end.
unfoldable pub dated_line : RowView → List ℕ
dated_line row = before (row_head row) (before (row_ends row.1) (row_dates row.1 ++ 0x0a ∷ []))
