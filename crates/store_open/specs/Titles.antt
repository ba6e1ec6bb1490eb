-- The name at the front of a store, which a store that was cut or damaged may still have.
use Rattle.std.specs.Prelude.{ℕ, Bool, false, ◌==◌, ◌&&◌, List, Option, Some, None, if◌then◌else◌}
use Rattle.byte_lists.specs.Numbers.{four_at, eight_at}
use Rattle.byte_lists.specs.Sectors.{sector_at}
use Rattle.sector_dev.specs.Disk.{Disk, reads_of}
use Rattle.store_layout.specs.FirstSector.{store_magic, layout_number, sizes_in, is_geometry}
use Rattle.store_layout.specs.Layout.{Geometry}

-- A sector begins with the name of a store.
abbrev pub is_named_store : List ℕ → Bool
is_named_store sector = eight_at 0 sector == store_magic

-- Sector 0 of a device begins with the name of a store. A device without a sector has none.
abbrev pub has_title : Disk → Bool
has_title disk = if disk.sectors == 0 then false else is_named_store (sector_at 0 (reads_of disk))

-- A sector is the title of a store of allowed sizes.
abbrev pub is_title : List ℕ → Bool
is_title sector = (eight_at 0 sector == store_magic) && (four_at 8 sector == layout_number) && is_geometry (sizes_in sector)

-- The sizes that a sector says, where it is a title.
abbrev pub sizes_told : List ℕ → Option Geometry
sizes_told sector = if is_title sector then Some (sizes_in sector) else None

-- The sizes that sector 0 of a device says, for which the device may have too few sectors. A device
-- without a sector has no title.
abbrev pub titled_sizes : Disk → Option Geometry
titled_sizes disk = if disk.sectors == 0 then None else sizes_told (sector_at 0 (reads_of disk))
