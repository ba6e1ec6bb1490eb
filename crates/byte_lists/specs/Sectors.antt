-- Sectors of 512 bytes. A gate is one sector.
use Rattle.std.specs.Prelude.{◌≡◌, ℕ, ◌+◌, ◌-◌, ◌*◌, ◌/◌, ◌≤◌, List, ◌∷◌, ◌++◌, length, replicate, slice_index, Bool, ◌==◌}
use Rattle.byte_lists.specs.Content.{part}
use Rattle.byte_lists.specs.declared.format.TheConstants.{SECTOR}

-- The number of sectors that n bytes take.
abbrev pub sectors_of : ℕ → ℕ
sectors_of n = (n + (SECTOR - 1)) / SECTOR

-- The number of whole sectors in a content.
abbrev pub whole_sectors : List ℕ → ℕ
whole_sectors content = length content / SECTOR

-- The sector with this number of a content; the first has number 0.
abbrev pub sector_at : ℕ → List ℕ → List ℕ
sector_at sector content = part (SECTOR * sector) SECTOR content

-- The bytes, followed by zeros up to a whole number of sectors.
abbrev pub padded : List ℕ → List ℕ
padded bytes = bytes ++ replicate (SECTOR * sectors_of (length bytes) - length bytes) 0

-- A gate is open exactly when its first byte is 0xA7; the other bytes do not matter.
abbrev pub IsOpenGate : List ℕ → Type 0
IsOpenGate sector = slice_index sector 0 ≡ 0xA7

-- `IsOpenGate` as a test.
abbrev pub is_open_gate : List ℕ → Bool
is_open_gate sector = slice_index sector 0 == 0xA7

-- The bytes of an open gate, as it is written.
abbrev pub open_gate : List ℕ
open_gate = 0xA7 ∷ replicate 511 0

-- The bytes of a closed gate, as it is written.
abbrev pub closed_gate : List ℕ
closed_gate = replicate SECTOR 0

-- `sectors_of n` is the least number of sectors that has room for n bytes.
pub record IsLeastRoom (n : ℕ) : Type 0 where
  pub enough : n ≤ SECTOR * sectors_of n
  pub least : (sectors : ℕ) → n ≤ SECTOR * sectors → sectors_of n ≤ sectors
