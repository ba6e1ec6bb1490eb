-- Which signatures a server takes.
use Rattle.std.specs.Prelude.{ℕ, List, true, Option, Some, None}
use Rattle.seg_check.specs.Signatures.{Verdicts}
use Rattle.seg_check.specs.Keyed.{keyed_verdicts}

-- By a key, those that the test profile makes with it; without a key, all.
abbrev pub verdicts_of : Option (List ℕ) → Verdicts
verdicts_of (Some key) = keyed_verdicts key
verdicts_of None = λ ia signed signature associated. true
