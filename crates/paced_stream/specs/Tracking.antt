-- Where a stream of frames is. A frame is a length of four bytes, big-endian, and as many bytes as
-- the length says.
use Rattle.std.specs.Prelude.{ℕ, ◌+◌, ◌*◌, ◌%◌, ◌^◌, ◌<◌, List, [], ◌∷◌, if◌then◌else◌, nat_lt}

-- How many bytes of the frame under way have gone by, which are none between two frames, and the
-- number that the bytes of its length make that have gone by.
pub record Spot : Type 0 where
  pub gone : ℕ
  pub counted : ℕ

-- Between two frames.
abbrev pub between : Spot
between = record { gone = 0; counted = 0 }

-- Within a frame, unless all of its bytes have gone by.
abbrev pub settled : ℕ → ℕ → Spot
settled gone counted = if nat_lt gone (4 + counted) then record { gone = gone; counted = counted } else between

-- The spot after one more byte, which belongs to a length where fewer than four have gone by.
abbrev pub after_byte : Spot → ℕ → Spot
after_byte spot byte = if nat_lt spot.gone 4 then settled (spot.gone + 1) ((spot.counted * 256 + byte) % 2 ^ 32) else settled (spot.gone + 1) spot.counted

-- The spot after these bytes.
abbrev pub after_bytes : Spot → List ℕ → Spot
after_bytes spot [] = spot
after_bytes spot (byte ∷ more) = after_bytes (after_byte spot byte) more

-- A frame is over once all of its bytes have gone by.
abbrev pub IsSpot : Spot → Type 0
IsSpot spot = spot.gone < 4 + spot.counted
