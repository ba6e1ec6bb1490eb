-- What holds for a store on any device.
use Rattle.std.specs.Prelude.{◌≡◌, ℕ, ◌+◌, ◌≤◌, true, false}
use Rattle.row_map.specs.Database.{IsDatabase}
use Rattle.sector_dev.specs.Disk.{IsHonest}
use Rattle.store_layout.specs.Limits.{latest}
use Rattle.store_open.specs.NewStore.{DeviceHasRoomFor}
use Rattle.store_open.specs.Store.{StoreView, IsSound}

-- What holds for the last gate of a store, and for its version.
pub record IsSealWithin (journal last version : ℕ) : Type 0 where
  -- The journal has room for a seal after the gate.
  pub seal : last + 2 ≤ journal
  -- The version is known.
  pub known : version ≤ latest

-- What holds for every store.
pub record IsStoreWhole (view : StoreView) : Type 0 where
  -- Its rows are a database.
  pub rows : IsDatabase view.rows
  -- Its sizes are allowed, and its device has room for them.
  pub room : DeviceHasRoomFor view.geometry view.disk
  -- Its last journal has room for a seal, and its version is known.
  pub within : IsSealWithin view.geometry.journal view.gate view.head.version
  -- Its journal is not sealed where a checkpoint has failed.
  pub unsealed : view.broken ≡ true → view.sealed ≡ false
  -- An honest device has its contents.
  pub sound : IsHonest view.disk → IsSound view
