-- Stores that are made with given rows at a given place, and the results of making one.
use Rattle.std.specs.Prelude.{◌≡◌, ◌⊎◌, ℕ, ◌+◌, ◌*◌, ◌<◌, ◌≤◌, List, slice_index, Result, Ok, Err}
use Rattle.byte_lists.specs.declared.format.TheConstants.{SECTOR}
use Rattle.row_map.specs.Database.{RowView, rows_len}
use Rattle.path_db.specs.declared.command.Command.{Command}
use Rattle.sector_dev.specs.Disk.{Disk, IsHonest, reads_of}
use Rattle.sector_dev.specs.Image.{EveryImage, IsFromImage}
use Rattle.sector_dev.specs.Calls.{one_more}
use Rattle.store_layout.specs.declared.format.TheConstants.{BEFORE_ROWS}
use Rattle.store_layout.specs.Layout.{Geometry, IsGeometry, image_sectors}
use Rattle.store_layout.specs.FirstSector.{IsStore}
use Rattle.store_layout.specs.Opening.{Opening, IsOpening}
use Rattle.store_layout.specs.Limits.{latest}
use Rattle.store_open.specs.PathStores.{store_format, IsStoreOf}
use Rattle.store_open.specs.Behind.{SameBehind}
use Rattle.store_open.specs.NewStore.{DeviceHasRoomFor}
use Rattle.store_open.specs.declared.copying.CopyError.{CopyError}
use Rattle.store_open.specs.declared.copying.CopyError.TheVariants.{BadGeometry, TooSmall, Unfit, NoMemory, Fault}

-- A content has zeros alone, as a file that was just made.
abbrev pub IsBlank : List ℕ → Type 0
IsBlank content = (i : ℕ) → slice_index content i ≡ 0

-- An image does not open.
abbrev pub OpensToNothing : List ℕ → Type 0
OpensToNothing image = (opening : Opening (List RowView) Command) → ¬ IsOpening store_format latest image opening

-- An image does not open, or opens to these rows at this place.
abbrev pub IsNoneOrWhole : List RowView → ℕ → List ℕ → Type 0
IsNoneOrWhole rows place image = OpensToNothing image ⊎ IsStoreOf rows place image

-- While a store is made on a device that was so at the start.
pub record IsBeingMade (geometry : Geometry) (rows : List RowView) (place : ℕ) (start : Disk) (content : List ℕ) : Type 0 where
  -- The bytes after the store are those of an image of the start.
  pub behind : IsFromImage start.history.now (SameBehind geometry) content
  -- Where the device had zeros alone, the content does not open, or opens to these rows at this
  -- place.
  pub either : EveryImage start.history.now IsBlank → IsNoneOrWhole rows place content

-- The image of a store of these sizes, which opens to these rows at this place.
pub record IsStoreWith (geometry : Geometry) (rows : List RowView) (place : ℕ) (image : List ℕ) : Type 0 where
  pub store : IsStore geometry image
  pub opens : IsStoreOf rows place image

-- A device has a store of these sizes with these rows at this place.
pub record HoldsStoreWith (geometry : Geometry) (rows : List RowView) (place : ℕ) (disk : Disk) : Type 0 where
  -- Each image that a stop may leave is such a store's.
  pub every : EveryImage disk.history.now (IsStoreWith geometry rows place)
  -- The bytes that reads return are such a store's.
  pub reads : IsStoreWith geometry rows place (reads_of disk)

-- A store of these sizes with these rows can be made on a device.
pub record MayHoldRows (geometry : Geometry) (rows : List RowView) (disk : Disk) : Type 0 where
  pub room : DeviceHasRoomFor geometry disk
  -- The checkpoint of the rows fits its area.
  pub fits : BEFORE_ROWS + rows_len rows ≤ SECTOR * geometry.checkpoint

-- The result of making a store with rows. Without an error the store is on the device. After the
-- other errors nothing was done: the sizes are not allowed, the device is too small for allowed
-- sizes, the rows do not fit the area, or memory was refused. Else the device failed.
abbrev pub FormatsWith : Geometry → List RowView → ℕ → Result (Unit {0}) CopyError → Disk → Disk → Type 0
FormatsWith geometry rows place (Ok done) old new =
    MayHoldRows geometry rows old × (new.faults ≡ old.faults) × (IsHonest old → HoldsStoreWith geometry rows place new)
FormatsWith geometry rows place (Err BadGeometry) old new = (¬ IsGeometry geometry) × (new ≡ old)
FormatsWith geometry rows place (Err TooSmall) old new = IsGeometry geometry × (old.sectors < image_sectors geometry) × (new ≡ old)
FormatsWith geometry rows place (Err Unfit) old new =
    DeviceHasRoomFor geometry old × (SECTOR * geometry.checkpoint < BEFORE_ROWS + rows_len rows) × (new ≡ old)
FormatsWith geometry rows place (Err NoMemory) old new = MayHoldRows geometry rows old × (new ≡ old)
FormatsWith geometry rows place (Err Fault) old new = MayHoldRows geometry rows old × (new.faults ≡ one_more old.faults)
