-- The bytes of a new store, and the results of making one.
use Rattle.std.specs.Prelude.{◌≡◌, ◌++◌, ℕ, ◌≤◌, ◌<◌, List, [], Result, Ok, Err}
use Rattle.std.specs.Int.{w32, to_be_bytes}
use Rattle.byte_lists.specs.Sectors.{sector_at, padded, open_gate, closed_gate}
use Rattle.sector_dev.specs.Disk.{Disk, IsHonest, reads_of}
use Rattle.sector_dev.specs.Image.{EveryImage}
use Rattle.sector_dev.specs.Calls.{one_more}
use Rattle.store_layout.specs.declared.half.Half.TheVariants.{First, Second}
use Rattle.store_layout.specs.Layout.{Geometry, IsGeometry, image_sectors, area_of, gate_of, journal_of}
use Rattle.store_layout.specs.FirstSector.{IsStore, first_sector}
use Rattle.store_layout.specs.Checkpoint.{Head, checkpoint_head_encoding}
use Rattle.store_layout.specs.StoreFormat.{StoreFormat}
use Rattle.store_layout.specs.TakeOver.{IsFormatted}
use Rattle.store_layout.specs.Limits.{latest}
use Rattle.store_open.specs.PathStores.{IsStoreOf}
use Rattle.store_open.specs.declared.new_store.FormatError.{FormatError}
use Rattle.store_open.specs.declared.new_store.FormatError.TheVariants.{BadGeometry, TooSmall, Fault}

-- The head of a new store: epoch 1, place 0.
abbrev pub first_head : Head
first_head = record { version = latest; epoch = 1; place = 0 }

-- The checkpoint of a new store: its head, and the length 0 and the number 0 of its rows.
abbrev pub first_checkpoint_bytes : List ℕ
first_checkpoint_bytes = checkpoint_head_encoding first_head ++ (to_be_bytes w32 0 ++ to_be_bytes w32 0)

-- The image of a new store. Each of its sectors is as it was written, with zeros after the bytes
-- that count.
pub record IsNewStore (geometry : Geometry) (image : List ℕ) : Type 0 where
  -- The image is that of a store.
  pub store : IsStore geometry image
  -- Sector 0 has the title.
  pub title : sector_at 0 image ≡ first_sector geometry
  -- The first half has a checkpoint without rows.
  pub begins : sector_at 0 (area_of geometry First image) ≡ padded first_checkpoint_bytes
  -- The first half is open.
  pub gate : gate_of geometry First image ≡ open_gate
  -- The first gate of its journal is closed.
  pub journal : sector_at 0 (journal_of geometry First image) ≡ closed_gate
  -- Both gates of the second half are closed.
  pub second_gate : gate_of geometry Second image ≡ closed_gate
  pub second_journal : sector_at 0 (journal_of geometry Second image) ≡ closed_gate

-- In any format of databases and commands the image of a new store is a formatted store.
abbrev pub IsFormattedInAny : Type 0 → Type 0 → Type 0
IsFormattedInAny Db C =
    (format : StoreFormat Db C) (geometry : Geometry) (image : List ℕ) → IsNewStore geometry image → IsFormatted format latest geometry image

-- The image of a new store, which opens to no rows at place 0.
pub record IsEmptyStore (geometry : Geometry) (image : List ℕ) : Type 0 where
  pub new : IsNewStore geometry image
  pub opens : IsStoreOf [] 0 image

-- A device has a new store.
pub record HoldsNewStore (geometry : Geometry) (disk : Disk) : Type 0 where
  -- Each image that a stop may leave is a new store's.
  pub every : EveryImage disk.history.now (IsEmptyStore geometry)
  -- The bytes that reads return are a new store's.
  pub reads : IsEmptyStore geometry (reads_of disk)

-- A store of these sizes can be made on a device.
pub record DeviceHasRoomFor (geometry : Geometry) (disk : Disk) : Type 0 where
  -- The sizes are allowed.
  pub allowed : IsGeometry geometry
  -- The device has room for them.
  pub room : image_sectors geometry ≤ disk.sectors

-- The result of making a store. Without an error the store is on the device. After an error nothing
-- was done, as the sizes are not allowed, or the device is too small for allowed sizes; or the
-- device failed.
abbrev pub Formats : Geometry → Result (Unit {0}) FormatError → Disk → Disk → Type 0
Formats geometry (Ok done) old new = DeviceHasRoomFor geometry old × (new.faults ≡ old.faults) × (IsHonest old → HoldsNewStore geometry new)
Formats geometry (Err BadGeometry) old new = (¬ IsGeometry geometry) × (new ≡ old)
Formats geometry (Err TooSmall) old new = IsGeometry geometry × (old.sectors < image_sectors geometry) × (new ≡ old)
Formats geometry (Err Fault) old new = DeviceHasRoomFor geometry old × (new.faults ≡ one_more old.faults)
