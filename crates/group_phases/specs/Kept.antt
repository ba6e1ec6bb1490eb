-- What one actor leaves untouched, so that the other actor's part stays.
use Rattle.std.specs.Prelude.{ℕ, ◌+◌, ◌*◌, ◌≤◌, ◌⊎◌, List, length, Result}
use Rattle.byte_lists.specs.Sectors.{whole_sectors}
use Rattle.byte_lists.specs.declared.format.TheConstants.{SECTOR}
use Rattle.sector_dev.specs.Disk.{Moment, Disk, IsHonest, reads_of}
use Rattle.sector_dev.specs.Calls.{WriteCall, SyncCall}
use Rattle.store_layout.specs.declared.half.Half.{Half}
use Rattle.store_layout.specs.Limits.{Limits}
use Rattle.store_layout.specs.CommandFormat.{CommandFormat}
use Rattle.store_layout.specs.Layout.{Geometry, other, half_sectors, area_at, journal_at, image_sectors}
use Rattle.group_phases.specs.declared.phases.Flush.{Flush}
use Rattle.group_phases.specs.declared.phases.Check.{Check}
use Rattle.group_phases.specs.Range.{Untouched}
use Rattle.group_phases.specs.StoreConfig.{StoreConfig, HasTitle}
use Rattle.group_phases.specs.Tail.{GroupOrSeal, Tail}
use Rattle.group_phases.specs.FlusherPart.{FlusherPart}
use Rattle.group_phases.specs.BasePart.{CheckpointPair, BasePart}

-- The title is untouched, and so is the journal that has the tail.
pub record IsTailUntouched (geometry : Geometry) (half : Half) (old new : Moment) : Type 0 where
  pub title : Untouched 0 20 old new
  pub journal : Untouched (SECTOR * journal_at geometry half) (SECTOR * geometry.journal) old new

-- All but the tail's journal is untouched: the title, the area and the gate of the half that has
-- the tail, and the whole other half.
pub record IsBaseUntouched (geometry : Geometry) (half : Half) (old new : Moment) : Type 0 where
  pub title : Untouched 0 20 old new
  pub front : Untouched (SECTOR * area_at geometry half) (SECTOR * (geometry.checkpoint + 1)) old new
  pub beside : Untouched (SECTOR * area_at geometry (other half)) (SECTOR * half_sectors geometry) old new

-- The flusher's part stays where the title and the tail's journal are untouched.
abbrev pub KeepsFlusherPart : Type 0 → Type 0
KeepsFlusherPart C =
    (phase : Flush) (format : CommandFormat C) (limits : Limits) (geometry : Geometry) (tail : Tail C) (load : GroupOrSeal C) (old new : Moment)
    → HasTitle geometry old → IsTailUntouched geometry tail.half old new
    → FlusherPart phase format limits geometry tail load old → FlusherPart phase format limits geometry tail load new

-- The checkpointer's part stays where all but the tail's journal is untouched.
abbrev pub KeepsBasePart : Type 0 → Type 0 → Type 0
KeepsBasePart Db C =
    (phase : Check) (config : StoreConfig Db C) (base : CheckpointPair Db C) (written : ℕ) (old new : Moment)
    → HasTitle config.geometry old → IsBaseUntouched config.geometry base.half old new
    → BasePart phase config base written old → BasePart phase config base written new

-- `n` bytes from a sector on lie in the journal of a half.
pub record IsInJournal (geometry : Geometry) (half : Half) (sector n : ℕ) : Type 0 where
  pub from : journal_at geometry half ≤ sector
  pub to : SECTOR * sector + n ≤ SECTOR * (journal_at geometry half + geometry.journal)

-- `n` bytes from a sector on lie in a half, before its journal.
pub record IsBeforeJournal (geometry : Geometry) (half : Half) (sector n : ℕ) : Type 0 where
  pub from : area_at geometry half ≤ sector
  pub to : SECTOR * sector + n ≤ SECTOR * journal_at geometry half

-- `n` bytes from a sector on lie in a half.
pub record IsInHalf (geometry : Geometry) (half : Half) (sector n : ℕ) : Type 0 where
  pub from : area_at geometry half ≤ sector
  pub to : SECTOR * sector + n ≤ SECTOR * (area_at geometry half + half_sectors geometry)

-- `n` bytes from a sector on lie in the store beside the journal of a half.
abbrev pub IsBesideJournal : Geometry → Half → ℕ → ℕ → Type 0
IsBesideJournal geometry half sector n = IsBeforeJournal geometry half sector n ⊎ IsInHalf geometry (other half) sector n

-- A write into the tail's journal leaves the rest of the store untouched, whatever its result.
abbrev pub TailWritesLeaveBase : Type 0 → Type 0 → Type 0
TailWritesLeaveBase T E =
    (geometry : Geometry) (half : Half) (sector : ℕ) (bytes : List ℕ) (result : Result T E) (old new : Disk)
    → WriteCall sector bytes result old new → IsHonest old → image_sectors geometry ≤ whole_sectors (reads_of old)
    → IsInJournal geometry half sector (length bytes) → IsBaseUntouched geometry half old.history.now new.history.now

-- A write beside the tail's journal leaves that journal untouched, whatever its result.
abbrev pub BaseWritesLeaveTail : Type 0 → Type 0 → Type 0
BaseWritesLeaveTail T E =
    (geometry : Geometry) (half : Half) (sector : ℕ) (bytes : List ℕ) (result : Result T E) (old new : Disk)
    → WriteCall sector bytes result old new → IsHonest old → image_sectors geometry ≤ whole_sectors (reads_of old)
    → IsBesideJournal geometry half sector (length bytes) → IsTailUntouched geometry half old.history.now new.history.now

-- A sync leaves both untouched, whatever its result.
abbrev pub SyncsLeaveBoth : Type 0 → Type 0 → Type 0
SyncsLeaveBoth T E =
    (geometry : Geometry) (half : Half) (result : Result T E) (old new : Disk) → SyncCall result old new → IsHonest old
    → IsTailUntouched geometry half old.history.now new.history.now × IsBaseUntouched geometry half old.history.now new.history.now
