-- The effect of each call of a device, one record for each call. The effect on an honest device is
-- defined under that premise.
use Rattle.std.specs.Prelude.{◌≡◌, ℕ, ◌+◌, ◌-◌, ◌*◌, ◌^◌, min, List, length, Result, Ok, Err, OnOk, OnErr}
use Rattle.byte_lists.specs.Content.{part}
use Rattle.byte_lists.specs.declared.format.TheConstants.{SECTOR}
use Rattle.sector_dev.specs.Disk.{Disk, IsHonest, History, reads_of, after_write, after_sync}

-- A count of failures plus one. The count stays at 2^64 - 1.
abbrev pub one_more : ℕ → ℕ
one_more count = min (count + 1) (2 ^ 64 - 1)

-- The count of failed calls after a call with this result.
abbrev pub count_after : {T E : Type 0} → Result T E → ℕ → ℕ
count_after (Ok _) faults = faults
count_after (Err _) faults = one_more faults

-- The fields of a device that no call changes are the same.
pub record Keeps (old new : Disk) : Type 0 where
  pub is_honest : new.is_honest ≡ old.is_honest
  pub sectors : new.sectors ≡ old.sectors

-- A read of bytes at a sector.
pub record ReadCall {T E : Type 0} (sector : ℕ) (into : List ℕ) (result : Result T E) (old new : Disk) : Type 0 where
  -- A read changes the count of failed calls at most.
  pub keeps : Keeps old new
  pub faults : new.faults ≡ count_after result old.faults
  pub history : IsHonest old → new.history ≡ old.history
  -- The bytes that are read are those at the sector.
  pub bytes : IsHonest old → OnOk result (into ≡ part (SECTOR * sector) (length into) (reads_of old))

-- What a write leaves in its range.
pub record Lands {T E : Type 0} (sector : ℕ) (bytes : List ℕ) (result : Result T E) (old new : History) : Type 0 where
  -- The bytes that landed; a write that failed may leave any bytes.
  pub landed : List ℕ
  pub size : length landed ≡ length bytes
  -- The given bytes landed where the write succeeded.
  pub done : OnOk result (landed ≡ bytes)
  -- Nothing else changed.
  pub history : new ≡ after_write (SECTOR * sector) landed old

-- A write of bytes at a sector.
pub record WriteCall {T E : Type 0} (sector : ℕ) (bytes : List ℕ) (result : Result T E) (old new : Disk) : Type 0 where
  pub keeps : Keeps old new
  pub faults : new.faults ≡ count_after result old.faults
  pub lands : IsHonest old → Lands sector bytes result old.history new.history

-- A sync.
pub record SyncCall {T E : Type 0} (result : Result T E) (old new : Disk) : Type 0 where
  pub keeps : Keeps old new
  pub faults : new.faults ≡ count_after result old.faults
  -- Nothing is dirty after a sync that succeeded.
  pub done : IsHonest old → OnOk result (new.history ≡ after_sync old.history)
  -- Nothing changed where the sync failed.
  pub unchanged : IsHonest old → OnErr result (new.history ≡ old.history)
