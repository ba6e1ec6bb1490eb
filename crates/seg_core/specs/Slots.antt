-- What one pass over a message notes of its fields.
use Rattle.std.specs.Prelude.{◌≡◌, ℕ, ◌<◌, List, [], ◌++◌, Option, None, slice_index, slice_index_or, length}
use Rattle.std.specs.Option.{option_map, option_or}
use Rattle.std.specs.Borrow.{Bor}
use Rattle.pw_wire.specs.Field.{Bytes, FieldView}
use Rattle.pw_wire.specs.Fields.{fields, fault}
use Rattle.seg_core.specs.declared.error.SegError.{SegError}
use Rattle.seg_core.specs.declared.field_kind.FieldKind.{FieldKind}
use Rattle.seg_core.specs.Message.{number_field, last_bytes_field, misfit_at, misfit_after}

-- The last number and the last bytes under each field number that a message may have are noted.
pub record AreNoted (fs : List FieldView) (last_numbers : List ℕ) (last_bytes : List (Option (Bor (List ℕ)))) : Type 0 where
  -- The last number under each field number.
  pub number_is : (k : ℕ) → k < 7 → slice_index last_numbers k ≡ number_field k fs
  -- The last bytes under each field number.
  pub bytes_are : (k : ℕ) → k < 7 → option_map (λ s. s.now) (slice_index_or last_bytes k None) ≡ last_bytes_field k fs
  pub width : length last_bytes ≡ 7

-- What is noted after some fields of a message.
pub record IsMidway (shape : List FieldKind) (message rest : List ℕ) (misfit : Option SegError) (ns : List ℕ) (ts : List (Option (Bor (List ℕ)))) : Type 0 where
  -- The fields that were read.
  pub before : List FieldView
  -- They are the message's first fields, and `rest` has the others.
  pub parts : fields message ≡ before ++ fields rest
  -- A fault of the message is one of the rest.
  pub same_fault : fault message ≡ fault rest
  -- The values of the fields that were read are noted.
  pub noted : AreNoted before ns ts
  -- The first misfit is the one that is noted, or else one of the rest.
  pub misfits : misfit_after shape [] (fields message) ≡ option_or misfit (misfit_after shape before (fields rest))

-- Any byte string that comes next under this field number fits.
abbrev pub TakesBytes : List FieldKind → ℕ → List ℕ → List (Option (Bor (List ℕ))) → Type 0
TakesBytes shape k ns ts = (before : List FieldView) (bytes : List ℕ) → AreNoted before ns ts → misfit_at shape before (record { number = k; value = Bytes bytes }) ≡ None
