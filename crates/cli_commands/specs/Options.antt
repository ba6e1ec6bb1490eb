-- What options of commands say.
use Rattle.std.specs.Prelude.{◌≡◌, ℕ, ◌<◌, ◌^◌, List, [], Option, Some, None, Ok, IsSomeAnd}
use Rattle.std.specs.Str.Parse.{IsNumeral, digits_value, without_leading_plus}
use Rattle.clap.specs.declared.parser.matches.Found.{Found}
use Rattle.clap.specs.Words.{one_text}
use Rattle.isd_as.specs.declared.number.IsdAs.{IsdAs}
use Rattle.cli_once.specs.Cores.{AreCores, RefusesList, texts_of}
use Rattle.cli_once.specs.Key.{RefusesKey}
use Rattle.cli_commands.specs.declared.ending.Ended.{Ended}
use Rattle.cli_commands.specs.declared.ending.Ended.TheVariants as ended
use Rattle.hex.specs.Hex.{decode_of}

-- Core ASes are those of the texts of a list, and there are none without a list.
abbrev pub AreCoresOf : Option (List ℕ) → List IsdAs → Type 0
AreCoresOf None cores = cores ≡ []
AreCoresOf (Some list) cores = AreCores (texts_of list) cores

-- How the program ends where the core ASes of an option are refused.
abbrev pub RefusesCores : Option (List ℕ) → Ended → Type 0
RefusesCores (Some list) (ended.Session fault) = RefusesList list fault
RefusesCores _ _ = ⊥

-- A key is that which a text encodes, and there is none without a text.
abbrev pub IsKeyOf : Option (List ℕ) → Option (List ℕ) → Type 0
IsKeyOf None key = key ≡ None
IsKeyOf (Some text) key = IsSomeAnd key (λ it. decode_of text ≡ Ok it)

-- How the program ends where the key of an option is refused.
abbrev pub RefusesKeyOf : Option (List ℕ) → Ended → Type 0
RefusesKeyOf (Some text) (ended.Session fault) = RefusesKey text fault
RefusesKeyOf _ _ = ⊥

-- A number is that of the option of a name, or another one where the option is left out. A number
-- of an option is a decimal numeral below 2 to the power `bits`.
pub record IsNumberOf (found : Found) (name : List ℕ) (bits other number : ℕ) : Type 0 where
  pub absent : one_text found name ≡ None → number ≡ other
  pub given : (text : List ℕ) → one_text found name ≡ Some text
      → IsNumeral 10 (without_leading_plus text) → digits_value 10 (without_leading_plus text) < 2 ^ bits
      → number ≡ digits_value 10 (without_leading_plus text)
