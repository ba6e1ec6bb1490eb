-- How a checkpoint is written piece by piece.
use Rattle.std.specs.Prelude.{◌≡◌, ℕ, ◌+◌, ◌*◌, List, [], ◌++◌, length, Option, Some, None}
use Rattle.byte_lists.specs.Content.{overwrite}
use Rattle.byte_lists.specs.declared.format.TheConstants.{SECTOR}
use Rattle.row_map.specs.Database.{RowView}
use Rattle.path_records.specs.RowRecord.{row_record}
use Rattle.sector_dev.specs.Disk.{Disk, IsHonest, reads_of}

-- The record of a row, where there is one.
abbrev pub record_if_any : Option RowView → List ℕ
record_if_any None = []
record_if_any (Some row) = row_record row

-- Of these bytes, which have to be written from the sector `at` on, a front is written, up to
-- `sector`. The rest is not written yet.
pub record IsWrittenUpTo (old new : Disk) (at sector : ℕ) (rest bytes : List ℕ) : Type 0 where
  -- The bytes that are written.
  pub front : List ℕ
  -- They are followed by the rest.
  pub parts : front ++ rest ≡ bytes
  -- They end where `sector` begins.
  pub reached : SECTOR * at + length front ≡ SECTOR * sector
  -- On an honest device, reads return them, and nothing else has changed.
  pub written : IsHonest old → reads_of new ≡ overwrite (SECTOR * at) front (reads_of old)
