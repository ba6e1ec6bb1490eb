-- The images that a stop may leave during several calls, from one state of a device to a later one.
use Rattle.std.specs.Prelude.{◌≡◌, ℕ, List, ◌++◌, length}
use Rattle.sector_dev.specs.Disk.{Moment, History, Disk, IsHonest, moments}
use Rattle.sector_dev.specs.Image.{EveryImageSince}
use Rattle.sector_dev.specs.Calls.{Keeps}

-- The moments until a later one continue those until an earlier one.
pub record Leaves (old new : History) (P : List ℕ → Type 0) : Type 0 where
  -- The moments since then.
  pub later : List Moment
  pub goes_on : moments new ≡ moments old ++ later
  -- Each image of each moment from the earlier one on has P.
  pub every : EveryImageSince (length old.past) new P

-- Some calls of a device, after each of which each image has P.
pub record Stretch (old new : Disk) (P : List ℕ → Type 0) : Type 0 where
  -- The fields that no call changes are the same.
  pub keeps : Keeps old new
  pub leaves : IsHonest old → Leaves old.history new.history P
