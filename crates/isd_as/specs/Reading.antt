-- The results of reading a text, and of reading the AS in a text.
use Rattle.std.specs.Prelude.{◌≡◌, ℕ, List, Result, Ok, Err}
use Rattle.isd_as.specs.declared.error.IaError.{IaError}
use Rattle.isd_as.specs.declared.error.IaError.TheVariants.{BadText, TooLarge}
use Rattle.isd_as.specs.declared.number.IsdAs.{IsdAs}
use Rattle.isd_as.specs.Text.{AsNumber, FitsAs, IsAsText, IsInGrammar, IsIsdAsText, IsLargeAs, IsTooLargeText, as_number}

-- The text is an AS that fits, and this is its number.
pub record SaysAs (text : List ℕ) (n : ℕ) : Type 0 where
  pub number : AsNumber
  pub says : IsAsText text number
  pub fits : FitsAs number
  pub number_is : n ≡ as_number number

-- The text is an AS that is too large.
pub record SaysLargeAs (text : List ℕ) : Type 0 where
  pub number : AsNumber
  pub says : IsAsText text number
  pub large : IsLargeAs number

-- The result of reading an AS: a number that fits, or why the text is refused.
abbrev pub ReadsAsNumber : List ℕ → Result ℕ IaError → Type 0
ReadsAsNumber text (Ok n) = SaysAs text n
ReadsAsNumber text (Err TooLarge) = SaysLargeAs text
ReadsAsNumber text (Err BadText) = (number : AsNumber) → ¬ IsAsText text number

-- The result of reading a text: the ISD-AS that the text denotes, or why the text is refused.
abbrev pub ReadsIsdAs : List ℕ → Result IsdAs IaError → Type 0
ReadsIsdAs text (Ok ia) = IsIsdAsText text ia
ReadsIsdAs text (Err TooLarge) = IsTooLargeText text
ReadsIsdAs text (Err BadText) = ¬ IsInGrammar text
