-- Padding and gates. For the crates above.
use Rattle.std.proofs.Common.{◌≡◌, ℕ, ◌-◌, ◌*◌, List, length, replicate, true, false, arith, length-append, eq-eqb, eqb-true, ne_eqb}
use Rattle.std.proofs.lemmas.List.{length-replicate}
use Rattle.std.proofs.lemmas.Bool.{eqb-false}
use Rattle.byte_lists.specs.Sectors.{sectors_of, padded, IsLeastRoom, IsOpenGate, is_open_gate}

pub length-padded : (bytes : List ℕ) → length (padded bytes) ≡ 512 * sectors_of (length bytes)
length-padded bytes = omega (arith, length-append bytes (replicate (512 * sectors_of (length bytes) - length bytes) 0), length-replicate {A = ℕ} (512 * sectors_of (length bytes) - length bytes) 0)

pub least_room : (n : ℕ) → IsLeastRoom n
least_room n = record { enough = omega arith; least = λ sectors enough. omega arith }

-- the test is true of an open gate
pub open_true : (sector : List ℕ) → IsOpenGate sector → is_open_gate sector ≡ true
open_true sector is = eq-eqb _ _ is

pub open_false : (sector : List ℕ) → (IsOpenGate sector → ⊥) → is_open_gate sector ≡ false
open_false sector closed = ne_eqb _ _ closed

pub true_open : (sector : List ℕ) → is_open_gate sector ≡ true → IsOpenGate sector
true_open sector is = eqb-true _ _ is

pub false_open : (sector : List ℕ) → is_open_gate sector ≡ false → IsOpenGate sector → ⊥
false_open sector is = eqb-false _ _ is
