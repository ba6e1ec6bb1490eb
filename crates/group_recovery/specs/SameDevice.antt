-- The same device, from one state to a later one.
use Rattle.std.specs.Prelude.{◌≡◌, List, ◌++◌}
use Rattle.sector_dev.specs.Disk.{Moment, History, Disk, IsHonest, moments}
use Rattle.sector_dev.specs.Calls.{Keeps}

-- The moments of a history, and then later ones.
pub record MomentsGoOn (old new : History) : Type 0 where
  pub later : List Moment
  pub are : moments new ≡ moments old ++ later

-- The device is the same: the fields that no call changes are the same, and the moments of an
-- honest device continue.
pub record DeviceGoesOn (old new : Disk) : Type 0 where
  pub keeps : Keeps old new
  pub goes_on : IsHonest old → MomentsGoOn old.history new.history
