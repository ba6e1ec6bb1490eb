-- A field of a protobuf message: https://protobuf.dev/programming-guides/encoding/#structure
use Rattle.std.specs.Prelude.{◌≡◌, ◌≢◌, ℕ, ◌+◌, ◌*◌, ◌/◌, ◌%◌, ◌^◌, ◌<◌, ◌≤◌, ◌⊎◌, List, [], ◌++◌, length, take, drop, Result, Ok, Err, nat_lt, ◌==◌, if◌then◌else◌}
use Rattle.std.specs.Int.{w32, w64, from_le_bytes}
use Rattle.pw_wire.specs.declared.error.WireError.{WireError}
use Rattle.pw_wire.specs.declared.error.WireError.TheVariants.{Truncated, LongVarint, BadField, GroupWire, BadWire}
use Rattle.pw_wire.specs.Decoding.{◌>>=◌}
use Rattle.pw_wire.specs.Varint.{IsVarint, IsVarintFault, BeginsWithVarint, varint_at, varint_encoding}

-- The content of a field.
pub data FieldValue : Type 0 where
  Varint : (n : ℕ) → FieldValue
  Fixed64 : (n : ℕ) → FieldValue
  Bytes : (bytes : List ℕ) → FieldValue
  Fixed32 : (n : ℕ) → FieldValue

-- A field without its location in memory.
pub record FieldView : Type 0 where
  pub number : ℕ
  pub value : FieldValue

-- A field of wire type 0.
abbrev pub varint_field : ℕ → ℕ → FieldView
varint_field field_number n = record { number = field_number; value = Varint n }

-- A field of wire type 2.
abbrev pub bytes_field : ℕ → List ℕ → FieldView
bytes_field field_number bytes = record { number = field_number; value = Bytes bytes }

-- ---- what a field is

-- The number by which a tag gives the kind of its value.
abbrev pub wire_type : FieldValue → ℕ
wire_type (Varint n) = 0
wire_type (Fixed64 n) = 1
wire_type (Bytes bytes) = 2
wire_type (Fixed32 n) = 5

-- The bytes of a value, after its tag; fixed numbers have their lowest byte first.
abbrev pub IsValue : List ℕ → FieldValue → Type 0
IsValue encoding (Varint n) = IsVarint encoding n
IsValue encoding (Fixed64 n) = (length encoding ≡ 8) × (n ≡ from_le_bytes w64 encoding)
IsValue encoding (Bytes bytes) = BeginsWithVarint encoding (length bytes) bytes
IsValue encoding (Fixed32 n) = (length encoding ≡ 4) × (n ≡ from_le_bytes w32 encoding)

-- The bytes begin with a field of this number, value and length.
pub record IsField (bytes : List ℕ) (field_number : ℕ) (value : FieldValue) (len : ℕ) : Type 0 where
  -- The bytes of the tag.
  pub tag : List ℕ
  -- The bytes of the value.
  pub content : List ℕ
  -- The bytes after the field.
  pub rest : List ℕ
  pub parts : bytes ≡ tag ++ (content ++ rest)
  pub len_is : len ≡ length tag + length content
  -- A field number has 29 bits, and is not 0.
  pub positive : 0 < field_number
  pub below : field_number < 2 ^ 29
  -- The tag is the varint of the field's number times 8 plus its wire type.
  pub tag_is : IsVarint tag (field_number * 8 + wire_type value)
  pub content_is : IsValue content value

-- The bytes begin with some field.
pub record BeginsWithField (bytes : List ℕ) : Type 0 where
  pub field_number : ℕ
  pub value : FieldValue
  pub len : ℕ
  pub field : IsField bytes field_number value len

-- ---- what is wrong where there is no field

-- A tag of at most 32 bits, whose number is not 0.
abbrev pub HasNumber : ℕ → Type 0
HasNumber tag = (8 ≤ tag) × (tag < 2 ^ 32)

-- What is wrong with a tag: its number, else its wire type. Types 3 and 4 are groups, 6 and 7
-- unknown.
abbrev pub IsTagFault : ℕ → WireError → Type 0
IsTagFault tag BadField = (tag < 8) ⊎ (2 ^ 32 ≤ tag)
IsTagFault tag GroupWire = HasNumber tag × ((tag % 8 ≡ 3) ⊎ (tag % 8 ≡ 4))
IsTagFault tag BadWire = HasNumber tag × (6 ≤ tag % 8)
IsTagFault tag Truncated = ⊥
IsTagFault tag LongVarint = ⊥

-- What is wrong with a value of this wire type: its varint or its length's varint, or bytes are
-- missing.
pub data IsValueFault (kind : ℕ) (bytes : List ℕ) (error : WireError) : Type 0 where
  in_varint : kind ≡ 0 → IsVarintFault bytes error → IsValueFault kind bytes error
  in_fixed64 : kind ≡ 1 → error ≡ Truncated → length bytes < 8 → IsValueFault kind bytes error
  in_length : kind ≡ 2 → IsVarintFault bytes error → IsValueFault kind bytes error
  in_bytes : kind ≡ 2 → error ≡ Truncated → (len : ℕ) (rest : List ℕ) → BeginsWithVarint bytes len rest → length rest < len → IsValueFault kind bytes error
  in_fixed32 : kind ≡ 5 → error ≡ Truncated → length bytes < 4 → IsValueFault kind bytes error

-- The first check that fails where bytes begin with no field: the tag's varint, the tag, the value.
pub data IsFieldFault (bytes : List ℕ) (error : WireError) : Type 0 where
  in_tag : bytes ≢ [] → IsVarintFault bytes error → IsFieldFault bytes error
  at_tag : (tag : ℕ) (rest : List ℕ) → BeginsWithVarint bytes tag rest → IsTagFault tag error → IsFieldFault bytes error
  in_value : (tag : ℕ) (rest : List ℕ) → BeginsWithVarint bytes tag rest → HasNumber tag → IsValueFault (tag % 8) rest error → IsFieldFault bytes error

-- Some check of the first field fails.
abbrev pub HasFieldFault : List ℕ → Type 0
HasFieldFault bytes = (error : WireError) × IsFieldFault bytes error

-- ---- reading one

-- A number of eight bytes, the lowest first.
abbrev pub fixed64_at : List ℕ → Result (FieldValue × ℕ) WireError
fixed64_at bytes = if nat_lt (length bytes) 8 then Err Truncated else Ok (Fixed64 (from_le_bytes w64 (take 8 bytes)), 8)

-- A number of four bytes, the lowest first.
abbrev pub fixed32_at : List ℕ → Result (FieldValue × ℕ) WireError
fixed32_at bytes = if nat_lt (length bytes) 4 then Err Truncated else Ok (Fixed32 (from_le_bytes w32 (take 4 bytes)), 4)

-- A length, and this number of bytes.
unfoldable pub bytes_at : List ℕ → Result (FieldValue × ℕ) WireError
bytes_at bytes = do
  len ← varint_at bytes
  if nat_lt (length (drop len.1 bytes)) len.0 then Err Truncated else Ok (Bytes (take len.0 (drop len.1 bytes)), len.1 + len.0)

-- A number as a varint.
unfoldable pub number_at : List ℕ → Result (FieldValue × ℕ) WireError
number_at bytes = do
  n ← varint_at bytes
  Ok (Varint n.0, n.1)

-- The value of a wire type at the front, and how many bytes it took.
unfoldable pub value_at : ℕ → List ℕ → Result (FieldValue × ℕ) WireError
value_at kind bytes =
    if kind == 0 then number_at bytes
    else if kind == 1 then fixed64_at bytes
    else if kind == 2 then bytes_at bytes
    else if nat_lt kind 5 then Err GroupWire
    else if kind == 5 then fixed32_at bytes
    else Err BadWire

-- The value after a tag, and how many bytes the tag and the value took.
unfoldable pub field_behind : ℕ × ℕ → List ℕ → Result (FieldView × ℕ) WireError
field_behind tag bytes = if nat_lt tag.0 8 then Err BadField else if nat_lt tag.0 (2 ^ 32) then (do
  value ← value_at (tag.0 % 8) (drop tag.1 bytes)
  Ok (record { number = tag.0 / 8; value = value.0 }, tag.1 + value.1)) else Err BadField

-- The field at the front and its length, or the first check that fails.
unfoldable pub field_at : List ℕ → Result (FieldView × ℕ) WireError
field_at bytes = do
  tag ← varint_at bytes
  field_behind tag bytes

-- ---- the shortest encodings

-- A field of wire type 0.
unfoldable pub varint_field_encoding : ℕ → ℕ → List ℕ
varint_field_encoding field_number n = varint_encoding (field_number * 8) ++ varint_encoding n

-- A field of wire type 2.
unfoldable pub bytes_field_encoding : ℕ → List ℕ → List ℕ
bytes_field_encoding field_number bytes = varint_encoding (field_number * 8 + 2) ++ (varint_encoding (length bytes) ++ bytes)
