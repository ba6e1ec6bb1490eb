-- By what a server purges, and how soon again.
use Rattle.std.specs.Prelude.{ℕ, ◌+◌, ◌-◌, ◌*◌, ◌/◌, ◌^◌, if◌then◌else◌, nat_eq, nat_lt, min, max}
use Rattle.path_server.specs.declared.pace.TheConstants.{MANY}
use Rattle.path_server.specs.declared.sample.TheConstants.{MOST_STEPS}

-- The most parts into which a period of this number of nanoseconds is cut: its seconds, and at least
-- one. They are counted in 32 bits.
unfoldable pub most_parts : ℕ → ℕ
most_parts period = max (min (period / 1_000_000_000) (2 ^ 32 - 1)) 1

-- Into how many parts the period is cut after a purge that dropped this number of rows: at most
-- `most` parts, where it was cut into these parts before.
unfoldable pub parts_after : ℕ → ℕ → ℕ → ℕ
parts_after dropped most parts =
    if nat_lt MANY dropped then min (parts * (dropped / MANY + 1)) most
    else if nat_lt (MANY / 2) dropped then parts
    else max (parts / 2) 1

-- After how many moments of a sample each a purge drops about `MANY` rows, where the sample has this
-- number of rows and of moments, and the store this number of rows. There are at most `MOST_STEPS`
-- such purges.
unfoldable pub stride_of : ℕ → ℕ → ℕ → ℕ
stride_of seen moments rows =
    max (if nat_eq rows 0 then 2 ^ 64 - 1 else min (seen * MANY) (2 ^ 64 - 1) / rows) (moments / MOST_STEPS + 1)
