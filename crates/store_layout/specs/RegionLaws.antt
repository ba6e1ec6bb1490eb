-- Laws of the regions of an image. Each statement is the contract of a function.
use Rattle.std.specs.Prelude.{◌≡◌, ◌≢◌, ◌⊎◌, ℕ, ◌+◌, ◌*◌, ◌≤◌, List, length}
use Rattle.byte_lists.specs.Content.{overwrite}
use Rattle.byte_lists.specs.Sectors.{whole_sectors}
use Rattle.byte_lists.specs.declared.format.TheConstants.{SECTOR}
use Rattle.store_layout.specs.Layout.{Geometry, image_sectors, Region, region_at, region_sectors, region_end, region_of}

-- Two regions do not overlap.
abbrev pub RegionsAreApart : Type 0
RegionsAreApart =
    (geometry : Geometry) (one two : Region) → one ≢ two
    → (region_end geometry one ≤ region_at geometry two) ⊎ (region_end geometry two ≤ region_at geometry one)

-- Each region is within the image.
abbrev pub RegionsAreInside : Type 0
RegionsAreInside = (geometry : Geometry) (region : Region) → region_end geometry region ≤ image_sectors geometry

-- A write before or after a region leaves it unchanged.
abbrev pub WritesLeaveRegionsApart : Type 0
WritesLeaveRegionsApart =
    (geometry : Geometry) (region : Region) (image : List ℕ) (at : ℕ) (bytes : List ℕ) → at + length bytes ≤ length image
    → (at + length bytes ≤ SECTOR * region_at geometry region) ⊎ (SECTOR * region_end geometry region ≤ at)
    → region_of geometry region (overwrite at bytes image) ≡ region_of geometry region image

-- A write within one region leaves the others unchanged.
abbrev pub WritesLeaveOtherRegions : Type 0
WritesLeaveOtherRegions =
    (geometry : Geometry) (written region : Region) (image : List ℕ) (at : ℕ) (bytes : List ℕ) → region ≢ written
    → image_sectors geometry ≤ whole_sectors image
    → SECTOR * region_at geometry written ≤ at → at + length bytes ≤ SECTOR * region_end geometry written
    → region_of geometry region (overwrite at bytes image) ≡ region_of geometry region image

-- A write within a region changes only the bytes that it writes.
abbrev pub WritesChangeTheirRegion : Type 0
WritesChangeTheirRegion =
    (geometry : Geometry) (region : Region) (image : List ℕ) (at : ℕ) (bytes : List ℕ) → image_sectors geometry ≤ whole_sectors image
    → at + length bytes ≤ SECTOR * region_sectors geometry region
    → region_of geometry region (overwrite (SECTOR * region_at geometry region + at) bytes image) ≡ overwrite at bytes (region_of geometry region image)
