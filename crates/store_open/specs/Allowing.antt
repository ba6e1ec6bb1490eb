-- Whether a store may make a checkpoint.
use Rattle.std.specs.Prelude.{◌≡◌, ◌-◌, ◌^◌, ◌<◌, true, false, Result, Ok, Err}
use Rattle.store_open.specs.Store.{StoreView, HasNoRoomInArea, MayCheckpoint}
use Rattle.store_open.specs.declared.error.StoreError.{StoreError}
use Rattle.store_open.specs.declared.error.StoreError.TheVariants.{Fault, Sealed, NoMemory, Exhausted, Unfit, Broken}

-- The store may make a checkpoint, or this is the first reason why not.
abbrev pub AllowsCheckpoint : Result (Unit {0}) StoreError → StoreView → Type 0
AllowsCheckpoint (Ok done) view = MayCheckpoint view
AllowsCheckpoint (Err Broken) view = view.broken ≡ true
AllowsCheckpoint (Err Sealed) view = (view.broken ≡ false) × (view.sealed ≡ true)
AllowsCheckpoint (Err Exhausted) view = (view.broken ≡ false) × (view.sealed ≡ false) × (view.head.epoch ≡ 2 ^ 64 - 1)
AllowsCheckpoint (Err Unfit) view = (view.broken ≡ false) × (view.sealed ≡ false) × (view.head.epoch < 2 ^ 64 - 1) × HasNoRoomInArea view
AllowsCheckpoint (Err Fault) view = ⊥
AllowsCheckpoint (Err NoMemory) view = ⊥
