-- What is known of a device, whatever a command over it ends with.
use Rattle.std.specs.Prelude.{◌≡◌, ℕ, List, [], Option, Result, Ok, Err}
use Rattle.std.specs.Io.KnownBytes.{Appends}
use Rattle.sector_dev.specs.Disk.{Disk, IsHonest, reads_of}
use Rattle.sector_dev.specs.Calls.{Keeps, one_more}
use Rattle.store_layout.specs.OpeningReading.{opening_of}
use Rattle.store_layout.specs.Limits.{latest}
use Rattle.store_open.specs.PathStores.{store_format}
use Rattle.store_open.specs.Open.{RefusesOpening, WantsMemoryToOpen}
use Rattle.store_open.specs.declared.error.OpenError.{OpenError}
use Rattle.store_open.specs.declared.error.OpenError.TheVariants.{Device}
use Rattle.store_open.specs.declared.error.StoreError.{StoreError}
use Rattle.store_open.specs.declared.error.StoreError.TheVariants as checkpoint
use Rattle.cli_store.specs.declared.error.Fault.{Fault}
use Rattle.cli_store.specs.declared.error.Fault.TheVariants.{Open, Checkpoint}

-- The device is returned in every case.
abbrev pub device_after : {D : Type 0} → Result D (D × Fault) → D
device_after (Ok device) = device
device_after (Err back) = back.0

-- Nothing on the device is changed.
pub record LeavesDevice (old new : Disk) : Type 0 where
  pub keeps : Keeps old new
  pub history : IsHonest old → new.history ≡ old.history

-- The number of the device's failed calls after an opening that failed.
abbrev pub faults_after_opening : OpenError → ℕ → ℕ
faults_after_opening Device faults = one_more faults
faults_after_opening _ faults = faults

-- The number of the device's failed calls after a checkpoint that failed.
abbrev pub faults_after_checkpoint : StoreError → ℕ → ℕ
faults_after_checkpoint checkpoint.Fault faults = one_more faults
faults_after_checkpoint _ faults = faults

-- The number of the device's failed calls after a command that ended with this fault.
abbrev pub faults_after_fault : Fault → ℕ → ℕ
faults_after_fault (Open e) faults = faults_after_opening e faults
faults_after_fault (Checkpoint e) faults = faults_after_checkpoint e faults
faults_after_fault _ faults = faults

-- The number of the device's failed calls after a command that returns the device.
abbrev pub faults_left : {D : Type 0} → Result D (D × Fault) → ℕ → ℕ
faults_left (Ok device) faults = faults
faults_left (Err back) faults = faults_after_fault back.1 faults

-- The number of the device's failed calls after a command.
abbrev pub faults_after_command : Result (Unit {0}) Fault → ℕ → ℕ
faults_after_command (Ok done) faults = faults
faults_after_command (Err fault) faults = faults_after_fault fault faults

-- The device is not opened for this reason, which is true of what reads gave. Nothing was written.
pub record IsNotOpened (e : OpenError) (disk : Disk) (output output_left : Option (List ℕ)) : Type 0 where
  pub refused : IsHonest disk → RefusesOpening e (opening_of store_format latest (reads_of disk))
  pub nothing : Appends output output_left []

-- Memory was refused in the opening, where all that is judged without memory was in order. Nothing
-- was written.
pub record OpeningLacksMemory (disk : Disk) (output output_left : Option (List ℕ)) : Type 0 where
  pub wanted : IsHonest disk → WantsMemoryToOpen (reads_of disk)
  pub nothing : Appends output output_left []
