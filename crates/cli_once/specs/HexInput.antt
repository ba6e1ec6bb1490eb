-- Hexadecimal text.
use Rattle.std.specs.Prelude.{ℕ, List, Bool, ◌==◌, ◌||◌, not, filter, IsOk, IsErr}
use Rattle.hex.specs.Hex.{decode_of}
use Rattle.cli_once.specs.declared.error.SessionFault.{SessionFault}
use Rattle.cli_once.specs.declared.error.SessionFault.TheVariants as fault

-- The byte is a space, a line feed or a carriage return.
abbrev pub is_blank : ℕ → Bool
is_blank byte = (byte == 0x20) || ((byte == 0x0a) || (byte == 0x0d))

-- The text without its blanks.
abbrev pub without_blanks : List ℕ → List ℕ
without_blanks text = filter (λ byte. not (is_blank byte)) text

-- Why digits are refused: they encode no bytes, which is found without memory, or memory was
-- refused for the bytes.
abbrev pub RefusesDigits : List ℕ → SessionFault → Type 0
RefusesDigits digits fault.Hex = IsErr (decode_of digits)
RefusesDigits digits fault.Memory = IsOk (decode_of digits)
RefusesDigits digits _ = ⊥

-- Why a text is refused, with its blanks left out.
abbrev pub RefusesHex : List ℕ → SessionFault → Type 0
RefusesHex text e = RefusesDigits (without_blanks text) e
