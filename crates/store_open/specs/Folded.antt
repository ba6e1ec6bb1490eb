-- The state of a store whose commands were folded into its rows.
use Rattle.std.specs.Prelude.{false, List}
use Rattle.row_map.specs.Database.{RowView}
use Rattle.path_db.specs.declared.command.Command.{Command}
use Rattle.sector_dev.specs.Disk.{Disk, IsHonest, reads_of}
use Rattle.store_layout.specs.Opening.{Opening, IsOpening}
use Rattle.ckpt_pair.specs.Heads.{head_view}
use Rattle.store_layout.specs.Limits.{latest}
use Rattle.store_open.specs.declared.folded.Folded.{Folded}
use Rattle.store_layout.specs.Geometry.{geometry_view}
use Rattle.store_open.specs.PathStores.{store_format}
use Rattle.store_open.specs.Store.{StoreView, HasOpening}

-- The store with this state on a device.
abbrev pub store_on : Disk → Folded → StoreView
store_on disk folded = record {
  disk = disk;
  geometry = geometry_view folded.geometry;
  chosen = folded.half;
  head = head_view folded.head;
  sealed = folded.sealed;
  gate = folded.gate;
  place = folded.place;
  rows = folded.db;
  sealed_len = folded.sealed_len;
  broken = false;
}

-- On any device the store with this state has what an image opens with.
abbrev pub TellsOnAny : Folded → Opening (List RowView) Command → Type 0
TellsOnAny folded opening = (disk : Disk) → HasOpening (store_on disk folded) opening

-- The state was read from a device.
pub record IsSeenOn (disk : Disk) (folded : Folded) : Type 0 where
  -- The opening of the device's contents.
  pub opening : Opening (List RowView) Command
  -- Reads of an honest device open with it.
  pub opens : IsHonest disk → IsOpening store_format latest (reads_of disk) opening
  -- The state has what this opening has.
  pub tells : TellsOnAny folded opening
