-- The bytes that calls have moved.
use Rattle.std.specs.Prelude.{ℕ, List, ◌++◌, take, Result, Ok, Err}

-- These bytes after a call that moved a front of some bytes, or that failed and moved none.
abbrev pub grown_by : {E : Type 0} → List ℕ → Result ℕ E → List ℕ → List ℕ
grown_by old (Ok count) bytes = old ++ take count bytes
grown_by old (Err e) bytes = old
