-- How many pieces a sealed half is read in.
use Rattle.std.specs.Prelude.{ℕ, ◌^◌}

-- A bound on the number of pieces of a whole half.
abbrev pub all_pieces : ℕ
all_pieces = 2 ^ 70
