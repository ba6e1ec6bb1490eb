-- Moments of a clock: half seconds since 1970.
use Rattle.std.specs.Prelude.{ℕ, ◌-◌, ◌/◌, ◌^◌, min}

-- The half seconds of a number of nanoseconds: twice the seconds, and one more from the middle of a
-- second on. Where that does not fit 64 bits, it is 2^64 - 1.
abbrev pub half_seconds_of : ℕ → ℕ
half_seconds_of nanos = min (nanos / 500_000_000) (2 ^ 64 - 1)
