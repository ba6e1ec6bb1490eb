-- A reading gives a value, or the first refusal: its steps, tests, limits and lists.
use Rattle.std.specs.Prelude.{◌≡◌, ◌≢◌, ℕ, List, [], ◌∷◌, Bool, nat_le, Option, Some, None, Result, Ok, Err, if◌then◌else◌}
use Rattle.seg_core.specs.declared.error.SegError.{SegError}
use Rattle.seg_core.specs.declared.error.SegError.TheVariants.{NoMemory, Range}

-- One step, and then the next steps with its value.
infixl 10 ◌>>=◌
abbrev pub ◌>>=◌ : {A B : Type 0} → Result A SegError → (A → Result B SegError) → Result B SegError
(Ok x) >>= rest = rest x
(Err e) >>= rest = Err e

-- Goes on where there is no refusal.
abbrev pub unless_refused : Option SegError → Result (Unit {0}) SegError
unless_refused None = Ok tt
unless_refused (Some refusal) = Err refusal

-- A call that takes no memory returns exactly what the reading gives, seen by `view`.
abbrev pub ReadsFields : {X Y : Type 0} → (X → Y) → Result X SegError → Result Y SegError → Type 0
ReadsFields view (Ok x) reading = reading ≡ Ok (view x)
ReadsFields view (Err e) reading = reading ≡ Err e

-- Goes on where the test holds; a test that fails is refused for this reason.
abbrev pub must_hold : Bool → SegError → Result (Unit {0}) SegError
must_hold holds reason = if holds then Ok tt else Err reason

-- The number, where it is at most the limit.
abbrev pub at_most : ℕ → ℕ → Result ℕ SegError
at_most limit n = if nat_le n limit then Ok n else Err Range

-- The readings of the items of a list, in order.
abbrev pub each : {A B : Type 0} → (A → Result B SegError) → List A → Result (List B) SegError
each read [] = Ok []
each read (x ∷ xs) = do
  first ← read x
  others ← each read xs
  Ok (first ∷ others)

-- The result of a reading, with its value mapped by a function.
abbrev pub result_map : {A B : Type 0} → (A → B) → Result A SegError → Result B SegError
result_map view (Ok x) = Ok (view x)
result_map view (Err e) = Err e

-- A call that takes memory returns what the reading gives, unless memory was refused.
abbrev pub GivesSegment : {X Y : Type 0} → (X → Y) → Result X SegError → Result Y SegError → Type 0
GivesSegment view (Ok x) reading = reading ≡ Ok (view x)
GivesSegment view (Err e) reading = e ≢ NoMemory → reading ≡ Err e
