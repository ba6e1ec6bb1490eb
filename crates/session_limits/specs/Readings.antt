-- Which commands can be read.
use Rattle.std.specs.Prelude.{◌≡◌, ◌≢◌, ℕ, Bool, true, Option, Some, None, Err, IsOk}
use Rattle.std.specs.Result.{is_ok}
use Rattle.seg_core.specs.declared.error.SegError.{SegError}
use Rattle.seg_core.specs.declared.error.SegError.TheVariants.{NoMemory}
use Rattle.seg_core.specs.Registration.{registration_outline, registration_decoding, type_of}
use Rattle.session_core.specs.declared.message.Message.TheVariants.{Register, Remove}
use Rattle.session_core.specs.Frames.{MessageView}
use Rattle.reply_codes.specs.Codes.{no_commands_code, seg_code}

-- A message can be read: it is no registration, or one that can be decoded, and no removal of a
-- type that is none.
abbrev pub is_readable : MessageView → Bool
is_readable (Register body) = is_ok (registration_decoding body)
is_readable (Remove kind id) = is_ok (type_of kind)
is_readable _ = true

-- A message cannot be read, by this error. A registration may be refused memory once its outline
-- was read.
abbrev pub IsUnreadable : MessageView → SegError → Type 0
IsUnreadable (Register body) error =
    (error ≡ NoMemory → IsOk (registration_outline body)) × (error ≢ NoMemory → registration_decoding body ≡ Err error)
IsUnreadable (Remove kind id) error = type_of kind ≡ Err error
IsUnreadable _ error = ⊥

-- A message can be read, or it cannot by this error.
abbrev pub ReadsAs : MessageView → Option SegError → Type 0
ReadsAs message None = is_readable message ≡ true
ReadsAs message (Some error) = IsUnreadable message error

-- The code of a command that is not taken, by why it cannot be read.
abbrev pub untaken_code : Option SegError → ℕ
untaken_code None = no_commands_code
untaken_code (Some error) = seg_code error
