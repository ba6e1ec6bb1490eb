-- The front of an honest file is whole.
use Rattle.std.specs.Prelude.{◌≡◌, ℕ, ◌*◌, ◌<◌, ◌≤◌, List, length, take}
use Rattle.std.proofs.Common.{arith, get_or, get_or-take, inl, inr}
use Rattle.std.proofs.lemmas.Bool.{cases_lt}
use Rattle.std.proofs.lemmas.List.{length-take-le, get_or_past}
use Rattle.byte_lists.specs.Content.{AreBytes}
use Rattle.byte_lists.specs.declared.format.TheConstants.{SECTOR}

-- The first bytes of a file that has the sectors: bytes, 512 for each sector.
pub whole_front : (sectors : ℕ) (bytes : List ℕ) → SECTOR * sectors ≤ length bytes → AreBytes bytes → (length (take (SECTOR * sectors) bytes) ≡ SECTOR * sectors) × AreBytes (take (SECTOR * sectors) bytes)
whole_front sectors bytes covered each = (size, λ i. entry i)
  where
    size : length (take (SECTOR * sectors) bytes) ≡ SECTOR * sectors
    size = length-take-le (SECTOR * sectors) bytes covered

    entry : (i : ℕ) → get_or (take (SECTOR * sectors) bytes) i 0 < 256
    entry i = elim (cases_lt i (SECTOR * sectors)) [
      | inl below ↦ omega (arith, get_or-take (SECTOR * sectors) bytes i 0 below, each i)
      | inr past ↦ omega (arith, get_or_past (take (SECTOR * sectors) bytes) i 0 (omega (arith, size)))
    ]
