-- The row of a line of JSON, and why a line has none.
use Rattle.std.specs.Prelude.{◌≡◌, ◌≢◌, ℕ, List, Ok, Err, Option, Some, None, codes, option_and_then, IsUtf8}
use Rattle.hex.specs.Hex.{decode_of}
use Rattle.serde_json.specs.Data.{Data}
use Rattle.serde_json.specs.Find.{get, as_str}
use Rattle.serde_json.specs.Read.{read}
use Rattle.seg_core.specs.declared.seg_type.SegType.{SegType}
use Rattle.seg_core.specs.SegmentView.{SegmentView}
use Rattle.seg_core.specs.Segment.{segment_decoding}
use Rattle.row_map.specs.Database.{RowView}
use Rattle.row_lines.specs.Text.{type_word}
use Rattle.row_lines.specs.declared.reading.LineError.{LineError}
use Rattle.row_lines.specs.declared.reading.LineError.TheVariants as error

-- The text under a name, where the value is an object that has one.
abbrev pub text_under : List ℕ → Data → Option (List ℕ)
text_under name json = option_and_then as_str (get name json)

-- The digits are the bytes of a message that is read as this segment.
abbrev pub AreDigitsOf : List ℕ → SegmentView → Type 0
AreDigitsOf digits s = (bytes : List ℕ) × (decode_of digits ≡ Ok bytes) × (segment_decoding bytes ≡ Ok s)

-- The value has the row's type and its segment. Its other members count for nothing.
pub record IsRowOf (json : Data) (row : RowView) : Type 0 where
  pub kind : text_under (codes "type") json ≡ Some (type_word row.0)
  pub digits : List ℕ
  pub member : text_under (codes "segment") json ≡ Some digits
  pub segment : AreDigitsOf digits row.1

-- The line is a value of JSON that has a row.
pub record IsRowLine (line : List ℕ) (row : RowView) : Type 0 where
  pub text : IsUtf8 line
  pub json : Data
  pub value : read line ≡ Some json
  pub row_of : IsRowOf json row

-- The value has the word of a type.
pub record HasType (json : Data) : Type 0 where
  pub kind : SegType
  pub word : text_under (codes "type") json ≡ Some (type_word kind)

-- Why digits have no segment: they are no bytes, or the reason of the reading of these bytes.
abbrev pub IsWhyNoSegment : LineError → List ℕ → Type 0
IsWhyNoSegment error.NoMemory digits = Unit {0}
IsWhyNoSegment error.Json digits = ⊥
IsWhyNoSegment error.Type digits = ⊥
IsWhyNoSegment error.Hex digits = (bytes : List ℕ) → decode_of digits ≢ Ok bytes
IsWhyNoSegment (error.Segment e) digits = (bytes : List ℕ) × (decode_of digits ≡ Ok bytes) × (segment_decoding bytes ≡ Err e)

-- Why a value has no row: the first of its type, its digits and their segment that it lacks.
abbrev pub IsWhyNoRow : LineError → Data → Type 0
IsWhyNoRow error.NoMemory json = Unit {0}
IsWhyNoRow error.Json json = ⊥
IsWhyNoRow error.Type json = ¬ HasType json
IsWhyNoRow error.Hex json =
    HasType json × ((digits : List ℕ) → text_under (codes "segment") json ≡ Some digits → IsWhyNoSegment error.Hex digits)
IsWhyNoRow (error.Segment e) json =
    HasType json × (digits : List ℕ) × (text_under (codes "segment") json ≡ Some digits) × IsWhyNoSegment (error.Segment e) digits

-- The line is a value of JSON that has no row for this reason.
pub record HasNoRow (e : LineError) (line : List ℕ) : Type 0 where
  pub text : IsUtf8 line
  pub json : Data
  pub value : read line ≡ Some json
  pub why : IsWhyNoRow e json

-- Why a line has no row.
abbrev pub IsWhyNoLine : LineError → List ℕ → Type 0
IsWhyNoLine error.NoMemory line = Unit {0}
IsWhyNoLine error.Json line = IsUtf8 line → read line ≡ None
IsWhyNoLine error.Type line = HasNoRow error.Type line
IsWhyNoLine error.Hex line = HasNoRow error.Hex line
IsWhyNoLine (error.Segment e) line = HasNoRow (error.Segment e) line
