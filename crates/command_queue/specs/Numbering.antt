-- The numbers of the commands that wait.
use Rattle.std.specs.Prelude.{ℕ, zero, suc, ◌-◌, List, [], ◌∷◌}

-- The last numbers before the next one, as many as are asked for, the least first.
abbrev pub last_numbers : ℕ → ℕ → List ℕ
last_numbers next zero = []
last_numbers next (suc count) = (next - suc count) ∷ last_numbers next count
