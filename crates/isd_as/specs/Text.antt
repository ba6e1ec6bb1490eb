-- The texts of ISD-AS numbers: the grammar that is read, and the one canonical text of each number.
use Rattle.std.specs.Prelude.{◌≡◌, ℕ, ◌+◌, ◌*◌, ◌/◌, ◌%◌, ◌^◌, ◌<◌, ◌≤◌, ◌⊎◌, false, List, ◌++◌, length, nat_lt, if◌then◌else◌, codes}
use Rattle.std.specs.Str.Parse.{IsNumeral, digits_value}
use Rattle.std.specs.Fmt.{decimal, digits}
use Rattle.isd_as.specs.declared.number.IsdAs.{IsdAs}

-- One or more decimal digits, and their number, of any size.
abbrev pub IsDecimal : List ℕ → ℕ → Type 0
IsDecimal text n = IsNumeral 10 text × (digits_value 10 text ≡ n)

-- 1 to 4 hexadecimal digits of either case, and their number of 16 bits.
pub record IsHexGroup (text : List ℕ) (n : ℕ) : Type 0 where
  pub numeral : IsNumeral 16 text
  pub short : length text ≤ 4
  pub number_is : digits_value 16 text ≡ n

-- Three groups of 16 bits joined by colons, the highest first.
pub record AreHexGroups (text : List ℕ) (high middle low : ℕ) : Type 0 where
  pub first : List ℕ
  pub second : List ℕ
  pub third : List ℕ
  pub joined : text ≡ first ++ codes ":" ++ second ++ codes ":" ++ third
  pub first_says : IsHexGroup first high
  pub second_says : IsHexGroup second middle
  pub third_says : IsHexGroup third low

-- An AS as a text gives it: a decimal number of any size, or three groups of 16 bits.
pub data AsNumber : Type 0 where
  Decimal : (n : ℕ) → AsNumber
  Groups : (high middle low : ℕ) → AsNumber

-- The text is this AS.
abbrev pub IsAsText : List ℕ → AsNumber → Type 0
IsAsText text (Decimal n) = IsDecimal text n
IsAsText text (Groups high middle low) = AreHexGroups text high middle low

-- The grammar: an ISD in decimal, a dash, and an AS.
pub record Says (text : List ℕ) (isd : ℕ) (number : AsNumber) : Type 0 where
  pub front : List ℕ
  pub back : List ℕ
  pub joined : text ≡ front ++ codes "-" ++ back
  pub front_says : IsDecimal front isd
  pub back_says : IsAsText back number

-- The text is in the grammar, for some numbers.
pub record IsInGrammar (text : List ℕ) : Type 0 where
  pub isd : ℕ
  pub number : AsNumber
  pub says : Says text isd number

-- An AS fits: a decimal AS has at most 32 bits, and groups always fit.
abbrev pub FitsAs : AsNumber → Type 0
FitsAs (Decimal n) = n < 2 ^ 32
FitsAs (Groups high middle low) = Unit {0}

-- The number of an AS.
abbrev pub as_number : AsNumber → ℕ
as_number (Decimal n) = n
as_number (Groups high middle low) = high * 2 ^ 32 + middle * 2 ^ 16 + low

-- The text is in the grammar, its numbers fit, and they are those of the ISD-AS.
pub record IsIsdAsText (text : List ℕ) (ia : IsdAs) : Type 0 where
  pub number : AsNumber
  pub says : Says text ia.isd number
  pub isd : ia.isd < 2 ^ 16
  pub fits : FitsAs number
  pub asn : ia.asn ≡ as_number number

-- An AS is a decimal number of more than 32 bits.
abbrev pub IsLargeAs : AsNumber → Type 0
IsLargeAs (Decimal n) = 2 ^ 32 ≤ n
IsLargeAs (Groups high middle low) = ⊥

-- The text is in the grammar, and its ISD or its AS is too large.
pub record IsTooLargeText (text : List ℕ) : Type 0 where
  pub isd : ℕ
  pub number : AsNumber
  pub says : Says text isd number
  pub large : (2 ^ 16 ≤ isd) ⊎ IsLargeAs number

-- The canonical text of an AS: below 2 ^ 32 in decimal, else in three groups without leading zeros.
abbrev pub as_text : ℕ → List ℕ
as_text n =
    if nat_lt n (2 ^ 32)
    then decimal n
    else digits 16 false (n / 2 ^ 32) ++ codes ":" ++ digits 16 false (n / 2 ^ 16 % 2 ^ 16) ++ codes ":" ++ digits 16 false (n % 2 ^ 16)

-- The one canonical text of an ISD-AS.
abbrev pub isd_as_text : IsdAs → List ℕ
isd_as_text ia = decimal ia.isd ++ codes "-" ++ as_text ia.asn
