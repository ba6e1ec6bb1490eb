-- What all messages share: the values under a field number, and the checks that come before a
-- message's own.
use Rattle.std.specs.Prelude.{◌≡◌, ℕ, List, [], ◌∷◌, ◌++◌, Bool, true, false, ◌&&◌, not, ◌==◌, Option, Some, None, ok_or, is_some, slice_index_or, Result, Ok, if◌then◌else◌, unwrap_or}
use Rattle.std.specs.Option.{option_or, option_map}
use Rattle.pw_wire.specs.Field.{FieldValue, Varint, Fixed64, Bytes, Fixed32, FieldView}
use Rattle.pw_wire.specs.Fields.{fields, fault}
use Rattle.seg_core.specs.declared.error.SegError.{SegError}
use Rattle.seg_core.specs.declared.error.SegError.TheVariants as error
use Rattle.seg_core.specs.declared.field_kind.FieldKind.{FieldKind}
use Rattle.seg_core.specs.declared.field_kind.FieldKind.TheVariants as kind
use Rattle.seg_core.specs.Steps.{◌>>=◌, unless_refused}

-- ---- the values under a field number

-- The number that a value is, in a list; the list is empty where the value is none.
abbrev pub varint_in : FieldValue → List ℕ
varint_in (Varint n) = n ∷ []
varint_in (Fixed64 n) = []
varint_in (Bytes bytes) = []
varint_in (Fixed32 n) = []

-- The bytes that a value is, in a list; the list is empty where the value is none.
abbrev pub bytes_of_value : FieldValue → List (List ℕ)
bytes_of_value (Varint n) = []
bytes_of_value (Fixed64 n) = []
bytes_of_value (Bytes bytes) = bytes ∷ []
bytes_of_value (Fixed32 n) = []

-- The numbers under a field number, in the order of the message.
abbrev pub number_fields : ℕ → List FieldView → List ℕ
number_fields k [] = []
number_fields k (f ∷ fs) = (if f.number == k then varint_in f.value else []) ++ number_fields k fs

-- The byte strings under a field number, in the order of the message.
abbrev pub bytes_fields : ℕ → List FieldView → List (List ℕ)
bytes_fields k [] = []
bytes_fields k (f ∷ fs) = (if f.number == k then bytes_of_value f.value else []) ++ bytes_fields k fs

-- The last item of a list.
abbrev pub last_of : {A : Type 0} → List A → Option A
last_of [] = None
last_of (x ∷ xs) = option_or (last_of xs) (Some x)

-- The value of a number is its last occurrence, and 0 where there is none.
abbrev pub number_field : ℕ → List FieldView → ℕ
number_field k fs = unwrap_or (last_of (number_fields k fs)) 0

-- The value of bytes is their last occurrence.
abbrev pub last_bytes_field : ℕ → List FieldView → Option (List ℕ)
last_bytes_field k fs = last_of (bytes_fields k fs)

-- The last occurrence of bytes, and empty bytes where there is none.
abbrev pub bytes_field_or_empty : ℕ → List FieldView → List ℕ
bytes_field_or_empty k fs = unwrap_or (last_bytes_field k fs) []

-- A required message has to be present.
abbrev pub required_message : ℕ → List FieldView → Result (List ℕ) SegError
required_message k fs = ok_or (last_bytes_field k fs) error.MissingField

-- ---- whether a field fits

-- A shape lists the kinds of a message's fields by their numbers; every other number is unknown.
abbrev pub field_kind : List FieldKind → ℕ → FieldKind
field_kind shape k = slice_index_or shape k kind.Unknown

-- A value has the wire type of bytes.
abbrev pub is_bytes : FieldValue → Bool
is_bytes (Varint n) = false
is_bytes (Fixed64 n) = false
is_bytes (Bytes bytes) = true
is_bytes (Fixed32 n) = false

-- A field of this kind is a message that may occur once.
abbrev pub is_single : FieldKind → Bool
is_single kind.Unknown = false
is_single kind.Number = false
is_single kind.Bytes = false
is_single kind.Message = true
is_single kind.Messages = false

-- A value has the wire type of its kind: a varint for a number, and bytes for all other kinds.
abbrev pub suits : FieldKind → FieldValue → Bool
suits kind.Unknown value = true
suits kind.Number (Varint n) = true
suits kind.Number (Fixed64 n) = false
suits kind.Number (Bytes bytes) = false
suits kind.Number (Fixed32 n) = false
suits kind.Bytes value = is_bytes value
suits kind.Message value = is_bytes value
suits kind.Messages value = is_bytes value

-- What is wrong with a field, after the fields before it: a known field has another wire type, or a
-- message that may occur once occurs a second time.
abbrev pub misfit_at : List FieldKind → List FieldView → FieldView → Option SegError
misfit_at shape before f =
    if not (suits (field_kind shape f.number) f.value) then Some error.KindOfField
    else if is_single (field_kind shape f.number) && is_some (last_bytes_field f.number before) then Some error.RepeatedMessage
    else None

-- Nothing is wrong with any of these fields, each after the fields before it.
abbrev pub AllFit : List FieldKind → List FieldView → Type 0
AllFit shape fs = (before after : List FieldView) (f : FieldView) → fs ≡ before ++ f ∷ after → misfit_at shape before f ≡ None

-- The first field that does not fit is refused for this reason.
pub record HasFirstMisfit (shape : List FieldKind) (fs : List FieldView) (refusal : SegError) : Type 0 where
  pub before : List FieldView
  pub field : FieldView
  pub after : List FieldView
  pub parts : fs ≡ before ++ field ∷ after
  pub before_fit : AllFit shape before
  pub misfit : misfit_at shape before field ≡ Some refusal

-- ---- the fields of a message

-- What is wrong with the first of the fields that does not fit, after the fields `before`.
abbrev pub misfit_after : List FieldKind → List FieldView → List FieldView → Option SegError
misfit_after shape before [] = None
misfit_after shape before (f ∷ fs) = option_or (misfit_at shape before f) (misfit_after shape (before ++ f ∷ []) fs)

-- What is wrong with the first field that does not fit. `first_misfit_is_exact` relates this to
-- `HasFirstMisfit`.
abbrev pub first_misfit : List FieldKind → List FieldView → Option SegError
first_misfit shape fs = misfit_after shape [] fs

-- The fields of a message. It is refused where its wire format has a fault anywhere, and then where
-- a field does not fit.
unfoldable pub message_fields : List FieldKind → List ℕ → Result (List FieldView) SegError
message_fields shape bytes = do
  _ ← unless_refused (option_map error.Wire (fault bytes))
  _ ← unless_refused (first_misfit shape (fields bytes))
  Ok (fields bytes)
