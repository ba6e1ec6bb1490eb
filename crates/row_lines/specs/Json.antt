-- A row as a line of JSON: its members in one order, without spaces.
use Rattle.std.specs.Prelude.{ℕ, List, [], ◌∷◌, ◌++◌, length, codes}
use Rattle.std.specs.Fmt.{decimal}
use Rattle.hex.specs.Hex.{encode_lower}
use Rattle.seg_core.specs.SegmentView.{SegmentView}
use Rattle.seg_core.specs.Digest.{segment_digest}
use Rattle.seg_core.specs.Encoding.{segment_encoding}
use Rattle.seg_check.specs.Expiry.{expiry_of}
use Rattle.row_map.specs.Database.{RowView}
use Rattle.row_lines.specs.Date.{date_text}
use Rattle.row_lines.specs.Text.{type_word, end_text, first_entry, last_entry, made_date}

-- A member whose value is a text that needs no escape.
abbrev pub text_member : List ℕ → List ℕ → List ℕ
text_member name text = codes "\"" ++ (name ++ (codes "\":\"" ++ (text ++ codes "\"")))

-- A member whose value is a number.
abbrev pub number_member : List ℕ → ℕ → List ℕ
number_member name number = codes "\"" ++ (name ++ (codes "\":" ++ decimal number))

-- Two members or more, joined by a comma.
abbrev pub joined : List ℕ → List ℕ → List ℕ
joined first others = first ++ (codes "," ++ others)

-- An object with these members, as a line.
abbrev pub object_line : List ℕ → List ℕ
object_line members = codes "{" ++ (members ++ (codes "}" ++ 0x0a ∷ []))

-- The type and the id.
unfoldable pub json_key : RowView → List ℕ
json_key row = joined (text_member (codes "type") (type_word row.0)) (text_member (codes "id") (encode_lower (segment_digest row.1)))

-- The timestamp and the expiry as dates.
unfoldable pub json_dates : SegmentView → List ℕ
json_dates s = joined (text_member (codes "made") (made_date s)) (text_member (codes "expires") (date_text (expiry_of s)))

-- The timestamp in seconds since 1970, and when the segment expires, in half seconds, and both as dates.
unfoldable pub json_times : SegmentView → List ℕ
json_times s =
    joined (joined (number_member (codes "timestamp") s.timestamp) (number_member (codes "expiry") (expiry_of s))) (json_dates s)

-- The members that come first: the type, the id and the times.
unfoldable pub json_front : RowView → List ℕ
json_front row = joined (json_key row) (json_times row.1)

-- The first and the last ISD-AS.
unfoldable pub json_ends : SegmentView → List ℕ
json_ends s =
    joined (text_member (codes "first") (end_text (first_entry s.entries))) (text_member (codes "last") (end_text (last_entry s.entries)))

-- The number of entries, and the segment's encoding in hexadecimal digits.
unfoldable pub json_content : SegmentView → List ℕ
json_content s =
    joined (number_member (codes "entries") (length s.entries)) (text_member (codes "segment") (encode_lower (segment_encoding s)))

-- The members that follow: the ends, the number of entries and the encoding.
unfoldable pub json_rest : SegmentView → List ℕ
json_rest s = joined (json_ends s) (json_content s)

-- All of these.
unfoldable pub json_members : RowView → List ℕ
json_members row = joined (json_front row) (json_rest row.1)

-- The line of a row.
unfoldable pub json_line : RowView → List ℕ
json_line row = object_line (json_members row)

-- The line of a row that says that there may be more rows.
unfoldable pub json_line_of_more : RowView → List ℕ
json_line_of_more row = object_line (joined (json_members row) (codes "\"more\":true"))
