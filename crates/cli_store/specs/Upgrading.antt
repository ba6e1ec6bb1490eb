-- What bringing a store to the version that is written returns and prints.
use Rattle.std.specs.Prelude.{◌≡◌, ◌≢◌, ◌⊎◌, ℕ, List, [], Option, Result, Ok, Err}
use Rattle.std.specs.Io.KnownBytes.{Appends}
use Rattle.sector_dev.specs.Disk.{Disk, IsHonest, reads_of}
use Rattle.store_layout.specs.Limits.{latest}
use Rattle.store_open.specs.Open.{IsOpened}
use Rattle.store_open.specs.PathStores.{IsStoreOf}
use Rattle.store_open.specs.Store.{StoreView, IsAtRest, Checkpoints}
use Rattle.store_open.specs.declared.error.StoreError.{StoreError}
use Rattle.store_open.specs.declared.error.StoreError.TheVariants as checkpoint
use Rattle.cli_store.specs.Text.{version_line}
use Rattle.whole_writes.specs.Written.{IsWrittenInPart}
use Rattle.cli_store.specs.Devices.{IsNotOpened, OpeningLacksMemory}
use Rattle.cli_store.specs.declared.error.Fault.{Fault}
use Rattle.cli_store.specs.declared.error.Fault.TheVariants.{Open, Checkpoint, Memory, Output}

-- A store of version 1 had a checkpoint made, or was refused one. A store of another version is
-- unchanged.
abbrev pub BecomesLatest : Result (Unit {0}) StoreError → StoreView → StoreView → Type 0
BecomesLatest (Ok done) old new =
    ((old.head.version ≢ 1) × (new ≡ old)) ⊎ ((old.head.version ≡ 1) × Checkpoints (Ok done) old new)
BecomesLatest (Err e) old new = (old.head.version ≡ 1) × Checkpoints (Err e) old new

-- The device holds a store at rest in the version that is written, with the rows and the place that
-- reads gave before.
pub record IsUpgraded (old new : Disk) : Type 0 where
  -- The store.
  pub store : StoreView
  -- The store is on the device.
  pub device : store.disk ≡ new
  -- Its version is the one that is written.
  pub version : store.head.version ≡ latest
  -- The store is at rest.
  pub rest : IsAtRest store
  -- Reads gave its rows and its place before.
  pub same : IsStoreOf store.rows store.place (reads_of old)

-- The store was opened, in version 1, and no checkpoint was made for this reason. Nothing was
-- written.
pub record IsNotUpgraded (e : StoreError) (old new : Disk) (output output_left : Option (List ℕ)) : Type 0 where
  -- The store that was opened.
  pub store : StoreView
  -- The store after the refusal.
  pub after : StoreView
  -- An honest device opens to the store.
  pub opened : IsHonest old → IsOpened (reads_of old) store
  -- The store is of version 1.
  pub version : store.head.version ≡ 1
  -- The checkpoint was refused for this reason.
  pub refused : Checkpoints (Err e) store after
  -- The device is that of the store after the refusal.
  pub device : after.disk ≡ new
  -- Nothing was written.
  pub nothing : Appends output output_left []

-- Why a store is not in that version, or why its version is not printed.
abbrev pub FailsToUpgrade : Fault → Disk → Disk → Option (List ℕ) → Option (List ℕ) → Type 0
FailsToUpgrade (Open e) old new output output_left = IsNotOpened e old output output_left
FailsToUpgrade (Checkpoint e) old new output output_left = IsNotUpgraded e old new output output_left
FailsToUpgrade Memory old new output output_left = OpeningLacksMemory old output output_left ⊎ IsNotUpgraded checkpoint.NoMemory old new output output_left
FailsToUpgrade Output old new output output_left = (IsHonest old → IsUpgraded old new) × IsWrittenInPart output output_left version_line
FailsToUpgrade _ old new output output_left = ⊥
