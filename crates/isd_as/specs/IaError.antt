-- The message that is printed for each refusal.
use Rattle.std.specs.Prelude.{ℕ, List, codes}
use Rattle.isd_as.specs.declared.error.IaError.{IaError}
use Rattle.isd_as.specs.declared.error.IaError.TheVariants.{BadText, TooLarge}

-- The message of a refusal.
abbrev pub message_of : IaError → List ℕ
message_of BadText = codes "not an ISD-AS text"
message_of TooLarge = codes "a number of the ISD-AS text is too large"
