-- A reading of records gives a value, or the first refusal.
use Rattle.std.specs.Prelude.{◌≡◌, ◌≢◌, Bool, Result, Ok, Err, if◌then◌else◌}
use Rattle.path_records.specs.declared.error.DbError.{DbError}
use Rattle.path_records.specs.declared.error.DbError.TheVariants.{NoMemory}

-- One step, and then the next steps with its value.
infixl 10 ◌>>=◌
abbrev pub ◌>>=◌ : {A B : Type 0} → Result A DbError → (A → Result B DbError) → Result B DbError
(Ok x) >>= rest = rest x
(Err e) >>= rest = Err e

-- Goes on where the test holds; a test that fails is refused for this reason.
abbrev pub demand : Bool → DbError → Result (Unit {0}) DbError
demand holds reason = if holds then Ok tt else Err reason

-- A call returns exactly what the reading gives, seen by `view`, unless memory was refused.
abbrev pub GivesRecord : {X Y : Type 0} → (X → Y) → Result X DbError → Result Y DbError → Type 0
GivesRecord view (Ok x) reading = reading ≡ Ok (view x)
GivesRecord view (Err e) reading = e ≢ NoMemory → reading ≡ Err e

-- A call that takes no memory returns exactly what the reading gives.
abbrev pub ReadsRecord : {X Y : Type 0} → (X → Y) → Result X DbError → Result Y DbError → Type 0
ReadsRecord view (Ok x) reading = reading ≡ Ok (view x)
ReadsRecord view (Err e) reading = reading ≡ Err e
