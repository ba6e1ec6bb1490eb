-- The effect of a call that only reads a device.
use Rattle.std.specs.Prelude.{◌≡◌, Result}
use Rattle.sector_dev.specs.Disk.{Disk, IsHonest}
use Rattle.sector_dev.specs.Calls.{Keeps, count_after}

-- A call only reads a device.
pub record LooksAt {T E : Type 0} (result : Result T E) (old new : Disk) : Type 0 where
  pub keeps : Keeps old new
  -- The call fails only where the device does.
  pub faults : new.faults ≡ count_after result old.faults
  -- The contents of an honest device are unchanged.
  pub history : IsHonest old → new.history ≡ old.history
