-- A store in memory as it starts.
use Rattle.std.specs.Prelude.{◌≡◌, false, [], None}
use Rattle.store_open.specs.NewStore.{first_head}
use Rattle.store_open.specs.Store.{StoreView}
use Rattle.group_core.specs.StateView.{StateView}
use Rattle.once_store.specs.Resting.{sizes}
use Rattle.once_store.specs.OnceView.{once_view, no_rows, IsLone}

-- A new store, as it is opened.
pub record IsFirst (store : StoreView) : Type 0 where
  -- The sizes are those of a store in memory.
  pub geometry : store.geometry ≡ sizes
  -- The head is that of a new store.
  pub head : store.head ≡ first_head
  -- No journal is sealed.
  pub unsealed : store.sealed ≡ false
  -- The tail's gate is the journal's first sector.
  pub gate : store.gate ≡ 0
  -- No command was committed.
  pub place : store.place ≡ 0
  -- There are no rows.
  pub rows : store.rows ≡ []
  -- No checkpoint has failed.
  pub whole : store.broken ≡ false

-- The state of a new store.
pub record IsFirstState (state : StateView) : Type 0 where
  pub lone : IsLone state None
  pub empty : once_view state ≡ no_rows
