-- Sector 0 of an image: the name of the format, the number of its layout, and the sizes of the
-- halves. All other bytes of it are not used. Numbers are big-endian.
use Rattle.std.specs.Prelude.{◌≡◌, ℕ, ◌≤◌, Bool, ◌&&◌, List, ◌++◌, take, Option, Some, None, if◌then◌else◌, ◌==◌, nat_le}
use Rattle.std.specs.Int.{w32, w64, to_be_bytes}
use Rattle.byte_lists.specs.Numbers.{four_at, eight_at}
use Rattle.byte_lists.specs.Sectors.{whole_sectors, padded}
use Rattle.store_layout.specs.Layout.{Geometry, IsGeometry, fewest_of_area, fewest_of_journal, most_of_region, image_sectors}

-- The eight letters SCPATHDB as one number.
abbrev pub store_magic : ℕ
store_magic = 0x5343504154484442

-- The number of the layout.
abbrev pub layout_number : ℕ
layout_number = 1

-- The 20 bytes at the front of an image: the name (8), the layout (4), and both sizes (4 each).
abbrev pub title_encoding : Geometry → List ℕ
title_encoding geometry =
    to_be_bytes w64 store_magic ++ (to_be_bytes w32 layout_number
    ++ (to_be_bytes w32 geometry.checkpoint ++ to_be_bytes w32 geometry.journal))

-- Sector 0 as it is written, padded with zeros.
abbrev pub first_sector : Geometry → List ℕ
first_sector geometry = padded (title_encoding geometry)

-- An image of a store with these sizes.
pub record IsStore (geometry : Geometry) (image : List ℕ) : Type 0 where
  -- It begins with the title.
  pub title : take 20 image ≡ title_encoding geometry
  -- The sizes are allowed.
  pub limits : IsGeometry geometry
  -- The image is large enough.
  pub room : image_sectors geometry ≤ whole_sectors image

-- The two sizes, at their offsets in sector 0.
abbrev pub sizes_in : List ℕ → Geometry
sizes_in image = record { checkpoint = four_at 12 image; journal = four_at 16 image }

-- `IsGeometry` as a test.
abbrev pub is_geometry : Geometry → Bool
is_geometry geometry =
    nat_le fewest_of_area geometry.checkpoint && nat_le geometry.checkpoint most_of_region
    && nat_le fewest_of_journal geometry.journal && nat_le geometry.journal most_of_region

-- An image is a store's, by its sector 0 and by its size.
abbrev pub is_store : List ℕ → Bool
is_store image =
    (eight_at 0 image == store_magic) && (four_at 8 image == layout_number) && is_geometry (sizes_in image)
    && nat_le (image_sectors (sizes_in image)) (whole_sectors image)

-- The sizes of the store whose image this is. `None` where it is no store's.
abbrev pub geometry_in : List ℕ → Option Geometry
geometry_in image = if is_store image then Some (sizes_in image) else None
