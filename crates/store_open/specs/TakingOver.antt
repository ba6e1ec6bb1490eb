-- How one half takes over from the other on a device: three writes, with a sync after each.
use Rattle.std.specs.Prelude.{◌≡◌, ◌⊎◌, ℕ, ◌*◌, List, length, replicate}
use Rattle.byte_lists.specs.Content.{overwrite}
use Rattle.store_layout.specs.declared.half.Half.{Half}
use Rattle.store_layout.specs.Layout.{Geometry, other, area_at, gate_at}
use Rattle.byte_lists.specs.Sectors.{open_gate}
use Rattle.byte_lists.specs.declared.format.TheConstants.{SECTOR}

-- A content is the old one, except for any n bytes at an offset.
pub record IsTornAt (at n : ℕ) (old content : List ℕ) : Type 0 where
  pub torn : List ℕ
  pub size : length torn ≡ n
  pub is : content ≡ overwrite at torn old

-- The image after the first write: the other half's area has a checkpoint.
abbrev pub laid : Geometry → Half → List ℕ → List ℕ → List ℕ
laid geometry half bytes image = overwrite (SECTOR * area_at geometry (other half)) bytes image

-- The image after the second write: the other half's gate is open.
abbrev pub switched : Geometry → Half → List ℕ → List ℕ → List ℕ
switched geometry half bytes image = overwrite (SECTOR * gate_at geometry (other half)) open_gate (laid geometry half bytes image)

-- The image after the third write: the old half's gate is closed, and so is the first gate of its
-- journal, in the next sector.
abbrev pub taken : Geometry → Half → List ℕ → List ℕ → List ℕ
taken geometry half bytes image = overwrite (SECTOR * gate_at geometry half) (replicate 1024 0) (switched geometry half bytes image)

-- A stop in between may leave this content: one of the three writes is torn, and those before it
-- are whole.
abbrev pub IsTakingOver : Geometry → Half → List ℕ → List ℕ → List ℕ → Type 0
IsTakingOver geometry half bytes image content =
    IsTornAt (SECTOR * area_at geometry (other half)) (length bytes) image content
    ⊎ (IsTornAt (SECTOR * gate_at geometry (other half)) SECTOR (laid geometry half bytes image) content
    ⊎ IsTornAt (SECTOR * gate_at geometry half) 1024 (switched geometry half bytes image) content)
