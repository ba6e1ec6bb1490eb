-- Big-endian numbers at an offset in bytes.
use Rattle.std.specs.Prelude.{ℕ, List}
use Rattle.std.specs.Int.{w32, w64, from_be_bytes}
use Rattle.byte_lists.specs.Content.{part}

-- The number of the four bytes at an offset.
abbrev pub four_at : ℕ → List ℕ → ℕ
four_at at bytes = from_be_bytes w32 (part at 4 bytes)

-- The number of the eight bytes at an offset.
abbrev pub eight_at : ℕ → List ℕ → ℕ
eight_at at bytes = from_be_bytes w64 (part at 8 bytes)
