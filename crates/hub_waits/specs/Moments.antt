-- Times in microseconds.
use Rattle.std.specs.Prelude.{ℕ, ◌/◌, ◌-◌, ◌^◌, min}

-- A time in nanoseconds, as whole microseconds, at most 2^64 - 1.
abbrev pub microseconds_of : ℕ → ℕ
microseconds_of nanos = min (nanos / 1000) (2 ^ 64 - 1)
