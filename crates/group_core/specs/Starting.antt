-- The state that is made of a store.
use Rattle.std.specs.Prelude.{◌≡◌, ◌↔◌, ℕ, ◌+◌, ◌*◌, ◌≤◌, Bool, true, false, List, []}
use Rattle.byte_lists.specs.declared.format.TheConstants.{SECTOR}
use Rattle.row_map.specs.Database.{RowView, rows_len}
use Rattle.store_layout.specs.declared.format.TheConstants.{BEFORE_ROWS}
use Rattle.store_layout.specs.Opening.{StoreValue}
use Rattle.store_open.specs.Store.{StoreView, half_of_tail}
use Rattle.group_phases.specs.declared.phases.Flush.TheVariants.{Resting}
use Rattle.group_phases.specs.declared.phases.Check.{Check}
use Rattle.group_phases.specs.declared.phases.Check.TheVariants.{Ready, Sealed}
use Rattle.group_core.specs.declared.bookkeeping.Turn.{Turn}
use Rattle.group_core.specs.StateView.{StateView, all_unprepared}

-- The value that a store represents.
abbrev pub value_of_store : StoreView → StoreValue (List RowView)
value_of_store store = record { db = store.rows; place = store.place }

-- A state of the store goes on: no checkpoint of the store has failed, and its rows, and those up
-- to its seal, have room in an area.
pub record CanContinue (store : StoreView) : Type 0 where
  -- No checkpoint of the store has failed.
  pub whole : store.broken ≡ false
  -- The rows have room in an area.
  pub rows : BEFORE_ROWS + rows_len store.rows ≤ SECTOR * store.geometry.checkpoint
  -- The rows up to the seal have room in an area.
  pub sealed : store.sealed ≡ true → BEFORE_ROWS + store.sealed_len ≤ SECTOR * store.geometry.checkpoint

-- The checkpointer's phase at the start: a sealed journal awaits its checkpoint.
abbrev pub check_in : Bool → Check
check_in false = Ready
check_in true = Sealed

-- The turn before any commit value is given.
abbrev pub no_turn : Turn
no_turn = record { number = 0; out = false }

-- The state of a store in which nothing has begun.
abbrev pub started : StoreView → ℕ → Bool → StateView
started store home stopped = record {
  disk = store.disk;
  geometry = store.geometry;
  home = home;
  value = value_of_store store;
  shown = [];
  pending = [];
  kept = [];
  taken = 0;
  following = 0;
  flush = Resting;
  group = no_turn;
  check = check_in store.sealed;
  plan = no_turn;
  half = half_of_tail store.chosen store.sealed;
  gate = store.gate;
  epoch = store.head.epoch;
  version = store.head.version;
  checkpoint = [];
  written = 0;
  unprepared = all_unprepared;
  stopped = stopped;
}

-- The state is one of the store, and has stopped from its start exactly where it cannot go on.
pub record IsStarted (store : StoreView) (home : ℕ) (state : StateView) : Type 0 where
  pub is : state ≡ started store home state.stopped
  pub going : state.stopped ≡ false ↔ CanContinue store
