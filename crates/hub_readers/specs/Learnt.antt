-- What a reader has seen once it has learnt a note: the greater place. Where there is no note,
-- nothing changes.
use Rattle.std.specs.Prelude.{ℕ, max, Option, Some, None}

-- The place that a reader has seen after a note.
abbrev pub learnt : ℕ → Option ℕ → ℕ
learnt seen (Some shown) = max seen shown
learnt seen None = seen
