-- A whole message: fields in order, up to the end or to the first fault.
use Rattle.std.specs.Prelude.{◌≡◌, ℕ, zero, suc, List, [], ◌∷◌, ◌++◌, length, drop, Option, Some, None, Result, Ok, Err}
use Rattle.pw_wire.specs.declared.error.WireError.{WireError}
use Rattle.pw_wire.specs.Field.{FieldView, IsField, IsFieldFault, field_at}

-- ---- what a message is

-- The bytes begin with this field, and the bytes after it are what `Others` says.
pub record BeginsWith (f : FieldView) (Others : List ℕ → Type 0) (bytes : List ℕ) : Type 0 where
  pub len : ℕ
  pub field : IsField bytes f.number f.value len
  pub others : Others (drop len bytes)

-- The bytes are exactly these fields, in this order.
abbrev pub AreFields : List ℕ → List FieldView → Type 0
AreFields bytes [] = bytes ≡ []
AreFields bytes (f ∷ fs) = BeginsWith f (λ rest. AreFields rest fs) bytes

-- The bytes begin with these fields, and the bytes after them begin with no field, for this fault.
abbrev pub AreFieldsUntil : List ℕ → List FieldView → WireError → Type 0
AreFieldsUntil bytes [] error = IsFieldFault bytes error
AreFieldsUntil bytes (f ∷ fs) error = BeginsWith f (λ rest. AreFieldsUntil rest fs error) bytes

-- ---- reading one

-- The fields, given the result of reading the first one: this field, and the fields from a later
-- byte on, or none.
abbrev pub fields_from : Result (FieldView × ℕ) WireError → (ℕ → List FieldView) → List FieldView
fields_from (Ok next) others = next.0 ∷ others next.1
fields_from (Err e) others = []

-- The fault, given the result of reading the first field: its own fault, else the fault from a
-- later byte on.
abbrev pub fault_from : Result (FieldView × ℕ) WireError → (ℕ → Option WireError) → Option WireError
fault_from (Ok next) later = later next.1
fault_from (Err e) later = Some e

-- The fields, where `most` is at least how many there are.
unfoldable pub fields_within : ℕ → List ℕ → List FieldView
fields_within zero bytes = []
fields_within (suc most) [] = []
fields_within (suc most) (b ∷ bytes) = fields_from (field_at (b ∷ bytes)) (λ n. fields_within most (drop n (b ∷ bytes)))

-- The fault after at most this number of fields.
unfoldable pub fault_within : ℕ → List ℕ → Option WireError
fault_within zero bytes = None
fault_within (suc most) [] = None
fault_within (suc most) (b ∷ bytes) = fault_from (field_at (b ∷ bytes)) (λ n. fault_within most (drop n (b ∷ bytes)))

-- The fields of the bytes, up to the first fault.
unfoldable pub fields : List ℕ → List FieldView
fields bytes = fields_within (length bytes) bytes

-- The first fault of the bytes.
unfoldable pub fault : List ℕ → Option WireError
fault bytes = fault_within (length bytes) bytes

-- An encoding that is read as this field, whatever follows it.
abbrev pub IsDecodedAs : List ℕ → FieldView → Type 0
IsDecodedAs encoding f = (rest : List ℕ) → (fields (encoding ++ rest) ≡ f ∷ fields rest) × (fault (encoding ++ rest) ≡ fault rest)
