-- The codes with which messages were refused.
use Rattle.std.specs.Prelude.{◌≡◌, ◌==◌, ◌||◌, ℕ, Bool, List, [], ◌∷◌, ◌++◌, zero, suc, nat_lt, if◌then◌else◌, length, get_or}
use Rattle.std.specs.List.{list_any}
use Rattle.status_page.specs.declared.counts.CodeCount.{CodeCount}
use Rattle.status_server.specs.declared.refusals.TheConstants.{KNOWN}

-- A code is one with which a message can be refused.
unfoldable pub is_known : ℕ → Bool
is_known code = list_any (λ known. known == code) KNOWN

-- A code with its count, where a message can be refused with the code, or was.
unfoldable pub refusals_with : ℕ → ℕ → List CodeCount
refusals_with code count = if is_known code || nat_lt 0 count then record { code = code; count = count } ∷ [] else []

-- The codes below a bound with which messages can be refused or were, in rising order.
abbrev pub refusals_below : ℕ → List ℕ → List CodeCount
refusals_below zero counts = []
refusals_below (suc code) counts = refusals_below code counts ++ refusals_with code (get_or counts code 0)

-- The refusals are the codes below a bound with which messages can be refused or were, for one list
-- of `bound` counts.
pub record AreRefusals (bound : ℕ) (refusals : List CodeCount) : Type 0 where
  pub counts : List ℕ
  pub each : length counts ≡ bound
  pub are : refusals ≡ refusals_below bound counts
