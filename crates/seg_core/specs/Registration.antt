-- Reading a registration: a map from types to segments.
use Rattle.std.specs.Prelude.{ℕ, zero, suc, List, [], ◌∷◌, ◌++◌, length, map, Bool, nat_le, nat_lt, ◌+◌, ◌==◌, not, Result, Ok, Err}
use Rattle.std.specs.List.{list_any, flat_map}
use Rattle.seg_core.specs.declared.error.SegError.{SegError}
use Rattle.seg_core.specs.declared.error.SegError.TheVariants.{RepeatedMessage, BadType, TooLarge}
use Rattle.seg_core.specs.declared.format.TheConstants.{MOST_REGISTERED_BYTES, MOST_REGISTERED}
use Rattle.seg_core.specs.declared.seg_type.SegType.{SegType}
use Rattle.seg_core.specs.declared.seg_type.SegType.TheVariants.{Up, Down, Core}
use Rattle.seg_core.specs.Shapes.{map_shape, map_entry_shape, segments_shape}
use Rattle.seg_core.specs.Steps.{◌>>=◌, must_hold, result_map}
use Rattle.seg_core.specs.Message.{message_fields, number_field, bytes_fields, bytes_field_or_empty}
use Rattle.seg_core.specs.SegmentView.{SegmentView}
use Rattle.seg_core.specs.Segment.{segment_decoding}

-- The number of a type.
abbrev pub type_number : SegType → ℕ
type_number Up = 1
type_number Down = 2
type_number Core = 3

-- The type with this number; the whole number is checked, not its low bits.
abbrev pub type_of : ℕ → Result SegType SegError
type_of zero = Err BadType
type_of (suc zero) = Ok Up
type_of (suc (suc zero)) = Ok Down
type_of (suc (suc (suc zero))) = Ok Core
type_of (suc (suc (suc (suc n)))) = Err BadType

-- The rows of segments of one type.
abbrev pub typed_segments : SegType → List SegmentView → List (SegType × SegmentView)
typed_segments kind segments = map (λ s. (kind, s)) segments

-- An entry of the map: a type, and the segments of that type.
abbrev pub MapEntry : Type 0
MapEntry = SegType × List SegmentView

-- The segments of all entries, each with its type.
abbrev pub entry_rows : List MapEntry → List (SegType × SegmentView)
entry_rows entries = flat_map (λ entry. typed_segments entry.0 entry.1) entries

-- One of the entries is of this type.
abbrev pub has_type : List MapEntry → SegType → Bool
has_type entries kind = list_any (λ entry. type_number entry.0 == type_number kind) entries

-- The segments of one type, after `count` segments of the registration: the 17th is refused before
-- it is read.
unfoldable pub segments_decoding : ℕ → List (List ℕ) → Result (List SegmentView) SegError
segments_decoding count [] = Ok []
segments_decoding count (message ∷ messages) = do
  _ ← must_hold (nat_lt count MOST_REGISTERED) TooLarge
  first ← segment_decoding message
  others ← segments_decoding (count + 1) messages
  Ok (first ∷ others)

-- The type of an entry of the map, after earlier entries: each type may have one entry.
unfoldable pub new_type : List MapEntry → ℕ → Result SegType SegError
new_type earlier n = do
  kind ← type_of n
  _ ← must_hold (not (has_type earlier kind)) RepeatedMessage
  Ok kind

-- One entry of the map, after earlier entries. An entry without a value has no segments.
unfoldable pub map_entry_decoding : List MapEntry → List ℕ → Result MapEntry SegError
map_entry_decoding earlier message = do
  fs ← message_fields map_entry_shape message
  kind ← new_type earlier (number_field 1 fs)
  value ← message_fields segments_shape (bytes_field_or_empty 2 fs)
  segments ← segments_decoding (length (entry_rows earlier)) (bytes_fields 1 value)
  Ok (kind, segments)

-- All entries of the map: those that were read, and the ones of these messages.
unfoldable pub map_decoding : List MapEntry → List (List ℕ) → Result (List MapEntry) SegError
map_decoding earlier [] = Ok earlier
map_decoding earlier (message ∷ messages) = do
  entry ← map_entry_decoding earlier message
  map_decoding (earlier ++ entry ∷ []) messages

-- The messages of the map's entries. Its size, its wire format and the kinds of its fields are
-- checked without taking memory.
unfoldable pub registration_outline : List ℕ → Result (List (List ℕ)) SegError
registration_outline message = do
  _ ← must_hold (nat_le (length message) MOST_REGISTERED_BYTES) TooLarge
  fs ← message_fields map_shape message
  Ok (bytes_fields 1 fs)

-- The segments with their types, in the order of the message.
unfoldable pub registration_decoding : List ℕ → Result (List (SegType × SegmentView)) SegError
registration_decoding message = do
  messages ← registration_outline message
  result_map entry_rows (map_decoding [] messages)
