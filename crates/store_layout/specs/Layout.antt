-- Where the regions of an image are. Positions and sizes count sectors of 512 bytes; sector 0 has
-- the sizes.
use Rattle.std.specs.Prelude.{ℕ, ◌+◌, ◌*◌, ◌≤◌, List}
use Rattle.byte_lists.specs.Content.{part}
use Rattle.byte_lists.specs.Sectors.{sector_at}
use Rattle.byte_lists.specs.declared.format.TheConstants.{SECTOR}
use Rattle.store_layout.specs.declared.half.Half.{Half}
use Rattle.store_layout.specs.declared.half.Half.TheVariants.{First, Second}

-- The sizes of both halves, in sectors.
pub record Geometry : Type 0 where
  -- The size of the checkpoint area.
  pub checkpoint : ℕ
  -- The size of the journal.
  pub journal : ℕ

-- The fewest sectors of a checkpoint area.
abbrev pub fewest_of_area : ℕ
fewest_of_area = 2

-- The fewest sectors of a journal: room for the largest group and a seal.
abbrev pub fewest_of_journal : ℕ
fewest_of_journal = 516

-- The most sectors of an area or of a journal: 512 MiB.
abbrev pub most_of_region : ℕ
most_of_region = 1048576

-- The sizes are allowed.
pub record IsGeometry (geometry : Geometry) : Type 0 where
  pub least_checkpoint : fewest_of_area ≤ geometry.checkpoint
  pub most_checkpoint : geometry.checkpoint ≤ most_of_region
  pub least_journal : fewest_of_journal ≤ geometry.journal
  pub most_journal : geometry.journal ≤ most_of_region

-- The other half.
abbrev pub other : Half → Half
other First = Second
other Second = First

-- The number of sectors of a half: a checkpoint area, a gate and a journal.
abbrev pub half_sectors : Geometry → ℕ
half_sectors geometry = geometry.checkpoint + 1 + geometry.journal

-- The sector at which the checkpoint area of a half begins.
abbrev pub area_at : Geometry → Half → ℕ
area_at geometry First = 1
area_at geometry Second = 1 + half_sectors geometry

-- The sector of the gate of a half.
abbrev pub gate_at : Geometry → Half → ℕ
gate_at geometry half = area_at geometry half + geometry.checkpoint

-- The sector at which the journal of a half begins.
abbrev pub journal_at : Geometry → Half → ℕ
journal_at geometry half = gate_at geometry half + 1

-- The number of sectors of an image: sector 0 and both halves.
abbrev pub image_sectors : Geometry → ℕ
image_sectors geometry = 1 + half_sectors geometry + half_sectors geometry

-- The bytes of the checkpoint area of a half.
abbrev pub area_of : Geometry → Half → List ℕ → List ℕ
area_of geometry half image = part (SECTOR * area_at geometry half) (SECTOR * geometry.checkpoint) image

-- The bytes of the gate of a half.
abbrev pub gate_of : Geometry → Half → List ℕ → List ℕ
gate_of geometry half image = sector_at (gate_at geometry half) image

-- The bytes of the journal of a half.
abbrev pub journal_of : Geometry → Half → List ℕ → List ℕ
journal_of geometry half image = part (SECTOR * journal_at geometry half) (SECTOR * geometry.journal) image

-- The parts of a half.
pub data Piece : Type 0 where
  Area : Piece
  Gate : Piece
  Journal : Piece

-- The regions of an image: sector 0, and the parts of both halves.
pub data Region : Type 0 where
  FirstSector : Region
  InHalf : (half : Half) (piece : Piece) → Region

-- The sector at which a region begins.
abbrev pub region_at : Geometry → Region → ℕ
region_at geometry FirstSector = 0
region_at geometry (InHalf half Area) = area_at geometry half
region_at geometry (InHalf half Gate) = gate_at geometry half
region_at geometry (InHalf half Journal) = journal_at geometry half

-- The number of sectors of a region.
abbrev pub region_sectors : Geometry → Region → ℕ
region_sectors geometry FirstSector = 1
region_sectors geometry (InHalf half Area) = geometry.checkpoint
region_sectors geometry (InHalf half Gate) = 1
region_sectors geometry (InHalf half Journal) = geometry.journal

-- The sector after a region.
abbrev pub region_end : Geometry → Region → ℕ
region_end geometry region = region_at geometry region + region_sectors geometry region

-- The bytes of a region.
abbrev pub region_of : Geometry → Region → List ℕ → List ℕ
region_of geometry region image = part (SECTOR * region_at geometry region) (SECTOR * region_sectors geometry region) image
