-- Results as values, for lemmas on one of the two cases. This crate and the crates above it cite
-- these lemmas.
use Rattle.std.proofs.Common.{Result, Ok, Err}

-- a result without an error
abbrev pub success : {T : Type 0} (E : Type 0) → T → Result T E
success E value = Ok value

-- a result with this error
abbrev pub failure : {E : Type 0} (T : Type 0) → E → Result T E
failure T error = Err error
