-- Readings that continue, or stop at the first fault.
use Rattle.std.specs.Prelude.{ℕ, ◌<◌, List, Result, Ok, Err, slice_index}
use Rattle.pw_wire.specs.declared.error.WireError.{WireError}

-- Each number is a byte.
abbrev pub IsBytes : List ℕ → Type 0
IsBytes bytes = (i : ℕ) → slice_index bytes i < 256

-- The next reading, given the value that was read; the first fault is the result.
infixl 10 ◌>>=◌
abbrev pub ◌>>=◌ : {A B : Type 0} → Result A WireError → (A → Result B WireError) → Result B WireError
(Ok x) >>= f = f x
(Err e) >>= f = Err e
