-- Facts of a half of the device: of its gate, its area, and the first gate of its journal. A fact
-- states what reads give, or what is clean.
use Rattle.std.specs.Prelude.{◌*◌, ◌≤◌}
use Rattle.byte_lists.specs.Sectors.{sector_at, IsOpenGate}
use Rattle.byte_lists.specs.declared.format.TheConstants.{SECTOR}
use Rattle.sector_dev.specs.Disk.{Moment}
use Rattle.sector_dev.specs.Image.{IsCleanPart}
use Rattle.store_layout.specs.declared.half.Half.{Half}
use Rattle.store_layout.specs.Layout.{Geometry, area_at, gate_at, area_of, gate_of, journal_of}
use Rattle.store_layout.specs.Checkpoint.{Head, Checkpoint, checkpoint_size, IsHead, IsCheckpoint}
use Rattle.group_phases.specs.StoreConfig.{StoreConfig, AreCleanSectors}

-- The gate of a half reads open.
abbrev pub ReadsOpen : Geometry → Half → Moment → Type 0
ReadsOpen geometry half moment = IsOpenGate (gate_of geometry half moment.reads)

-- The gate of a half is clean.
abbrev pub IsGateClean : Geometry → Half → Moment → Type 0
IsGateClean geometry half moment = IsCleanPart moment.dirty (SECTOR * gate_at geometry half) SECTOR

-- The gate of a half reads open and is clean.
pub record IsOpenHalf (geometry : Geometry) (half : Half) (moment : Moment) : Type 0 where
  pub opened : ReadsOpen geometry half moment
  pub clean : IsGateClean geometry half moment

-- The gate of a half reads closed and is clean.
pub record IsClosedHalf (geometry : Geometry) (half : Half) (moment : Moment) : Type 0 where
  pub closed : ¬ ReadsOpen geometry half moment
  pub clean : IsGateClean geometry half moment

-- The area of a half begins with this checkpoint, of a known version, which is clean.
pub record HasCheckpoint {Db C : Type 0} (config : StoreConfig Db C) (half : Half) (checkpoint : Checkpoint Db) (moment : Moment) : Type 0 where
  pub begins : IsCheckpoint config.format.rows (area_of config.geometry half moment.reads) checkpoint
  pub known : checkpoint.head.version ≤ config.latest
  pub clean : IsCleanPart moment.dirty (SECTOR * area_at config.geometry half) (checkpoint_size config.format.rows checkpoint)

-- The area of a half begins with this head, of a known version, which is clean.
pub record HasHead {Db C : Type 0} (config : StoreConfig Db C) (half : Half) (head : Head) (moment : Moment) : Type 0 where
  pub begins : IsHead (area_of config.geometry half moment.reads) head
  pub known : head.version ≤ config.latest
  pub clean : IsCleanPart moment.dirty (SECTOR * area_at config.geometry half) 24

-- The first gate of a half's journal reads closed.
abbrev pub FirstReadsClosed : Geometry → Half → Moment → Type 0
FirstReadsClosed geometry half moment = ¬ IsOpenGate (sector_at 0 (journal_of geometry half moment.reads))

-- The first gate of a half's journal reads closed and is clean.
pub record IsFirstClosed (geometry : Geometry) (half : Half) (moment : Moment) : Type 0 where
  pub closed : FirstReadsClosed geometry half moment
  pub clean : AreCleanSectors geometry half 0 1 moment
