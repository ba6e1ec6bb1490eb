-- A key as hexadecimal text.
use Rattle.std.specs.Prelude.{◌≡◌, ℕ, ◌≤◌, ◌<◌, ◌⊎◌, List, length, Ok, IsErr}
use Rattle.hex.specs.Hex.{decode_of}
use Rattle.seg_check.specs.declared.keyed.TheConstants.{MOST_KEY}
use Rattle.cli_once.specs.declared.error.SessionFault.{SessionFault}
use Rattle.cli_once.specs.declared.error.SessionFault.TheVariants as fault

-- The text encodes a key.
pub record IsKeyText (text : List ℕ) : Type 0 where
  pub key : List ℕ
  pub encoded : decode_of text ≡ Ok key
  pub short : length key ≤ MOST_KEY

-- The text encodes a key that is too long.
pub record IsKeyTooLong (text : List ℕ) : Type 0 where
  pub key : List ℕ
  pub encoded : decode_of text ≡ Ok key
  pub long : MOST_KEY < length key

-- Why a text is refused: it is no key, which is found without memory, or memory was refused for the
-- key.
abbrev pub RefusesKey : List ℕ → SessionFault → Type 0
RefusesKey text fault.Hex = IsErr (decode_of text) ⊎ IsKeyTooLong text
RefusesKey text fault.Memory = IsKeyText text
RefusesKey text _ = ⊥
