-- A walk over a journal moves forward.
use Rattle.std.specs.Prelude.{ℕ, ◌<◌}
use Rattle.cli_store.specs.declared.walking.Step.{Step}
use Rattle.cli_store.specs.declared.walking.Step.TheVariants.{Group, End}

-- The next gate is after this one.
abbrev pub GoesOnBehind : ℕ → Step → Type 0
GoesOnBehind gate (Group next place) = gate < next
GoesOnBehind gate (End end) = Unit {0}
