-- What does not change while a store is open, and what of it sector 0 names.
use Rattle.std.specs.Prelude.{ℕ, ◌+◌, ◌*◌}
use Rattle.byte_lists.specs.declared.format.TheConstants.{SECTOR}
use Rattle.sector_dev.specs.Disk.{Moment}
use Rattle.sector_dev.specs.Image.{IsCleanPart}
use Rattle.store_layout.specs.declared.half.Half.{Half}
use Rattle.store_layout.specs.Layout.{Geometry, journal_at}
use Rattle.store_layout.specs.FirstSector.{IsStore}
use Rattle.store_layout.specs.StoreFormat.{StoreFormat}

-- What does not change while a store is open.
pub record StoreConfig (Db C : Type 0) : Type 0 where
  -- The formats of rows and commands.
  pub format : StoreFormat Db C
  -- The greatest format version that is known.
  pub latest : ℕ
  -- The sizes of each half's checkpoint area and journal, in sectors.
  pub geometry : Geometry

-- Sector 0 names these sizes, and its title is clean.
pub record HasTitle (geometry : Geometry) (moment : Moment) : Type 0 where
  pub store : IsStore geometry moment.reads
  pub clean : IsCleanPart moment.dirty 0 20

-- `n` sectors of a half's journal are clean, from the sector `from` of the journal on.
abbrev pub AreCleanSectors : Geometry → Half → ℕ → ℕ → Moment → Type 0
AreCleanSectors geometry half from n moment = IsCleanPart moment.dirty (SECTOR * (journal_at geometry half + from)) (SECTOR * n)
