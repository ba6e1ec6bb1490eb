-- The program's values as contracts see them.
use Rattle.std.specs.Prelude.{◌≡◌, ℕ, ◌≤◌, List, [], ◌∷◌, length, drop, Option, Some, None, Result, Ok, Err}
use Rattle.pw_wire.specs.declared.error.WireError.{WireError}
use Rattle.pw_wire.specs.declared.field.Field.{Field}
use Rattle.pw_wire.specs.declared.field.Value.{Value}
use Rattle.pw_wire.specs.declared.field.Value.TheVariants as values
use Rattle.pw_wire.specs.Field.{FieldValue, Varint, Fixed64, Bytes, Fixed32, FieldView}
use Rattle.pw_wire.specs.Fields.{fields, fault}

-- A value without its location in memory.
abbrev pub value_view : Value → FieldValue
value_view (values.Varint n) = Varint n
value_view (values.Fixed64 n) = Fixed64 n
value_view (values.Bytes bytes) = Bytes bytes.now
value_view (values.Fixed32 n) = Fixed32 n

-- A field without its location in memory.
abbrev pub field_view : Field → FieldView
field_view f = record { number = f.number; value = value_view f.value }

-- The result of reading a value, without the value's location in memory.
abbrev pub value_read : Result (Value × ℕ) WireError → Result (FieldValue × ℕ) WireError
value_read (Ok found) = Ok (value_view found.0, found.1)
value_read (Err e) = Err e

-- The result of reading a field, without the field's location in memory.
abbrev pub field_read : Result (Field × ℕ) WireError → Result (FieldView × ℕ) WireError
field_read (Ok found) = Ok (field_view found.0, found.1)
field_read (Err e) = Err e

-- What was found is the field of this number and value, of this length.
pub record IsFoundField (found : Field × ℕ) (field_number : ℕ) (value : FieldValue) (len : ℕ) : Type 0 where
  pub number_is : found.0.number ≡ field_number
  pub value_is : value_view found.0.value ≡ value
  pub len_is : found.1 ≡ len

-- A call returned the field of this number and value, of this length.
abbrev pub Finds : Result (Option (Field × ℕ)) WireError → ℕ → FieldValue → ℕ → Type 0
Finds (Ok (Some next)) field_number value len = IsFoundField next field_number value len
Finds (Ok None) field_number value len = ⊥
Finds (Err e) field_number value len = ⊥

-- Nothing is left of the message.
pub record IsEnd (bytes : List ℕ) : Type 0 where
  pub nothing : bytes ≡ []
  pub no_fields : fields bytes ≡ []
  pub no_fault : fault bytes ≡ None

-- The bytes begin with a field, and then come the fields and the fault of the bytes after it.
pub record HasFirstField (bytes : List ℕ) (f : FieldView) (len : ℕ) : Type 0 where
  pub positive : 1 ≤ len
  pub within : len ≤ length bytes
  pub fields_are : fields bytes ≡ f ∷ fields (drop len bytes)
  pub fault_is : fault bytes ≡ fault (drop len bytes)

-- What the result of one call shows of the whole message: its end, its first field, or its fault.
abbrev pub Steps : List ℕ → Result (Option (Field × ℕ)) WireError → Type 0
Steps bytes (Ok None) = IsEnd bytes
Steps bytes (Ok (Some next)) = HasFirstField bytes (field_view next.0) next.1
Steps bytes (Err e) = (fields bytes ≡ []) × (fault bytes ≡ Some e)
