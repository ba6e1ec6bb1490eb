-- What holds of each server, and of openings after it.
use Rattle.std.specs.Prelude.{ℕ, List}
use Rattle.row_map.specs.Database.{RowView}
use Rattle.sector_dev.specs.Disk.{Disk, IsHonest}
use Rattle.sector_dev.specs.Image.{EveryImage}
use Rattle.sector_dev.specs.Stretch.{Stretch}
use Rattle.store_layout.specs.Opening.{StoreValue, OpensTo}
use Rattle.store_layout.specs.Limits.{latest}
use Rattle.store_open.specs.PathStores.{store_format}
use Rattle.store_open.specs.Store.{StoreView}
use Rattle.group_core.specs.Starting.{value_of_store}
use Rattle.logged_state.specs.Left.{OpensToFrontOf}
use Rattle.logged_state.specs.LeftView.{LeftView}
use Rattle.logged_state.specs.Kept.{AllClaimsKept, AllShownKept}
use Rattle.prefix_recovery.specs.servers.Survival.{ServerView, IsStopAt, Survives, acknowledged_at, looked_at}

-- What a server of this store says, by its log and claims, of the device that it hands out.
pub record IsServed (start : StoreView) (left : LeftView) (end : Disk) : Type 0 where
  -- At every moment since the store was opened, each image opens to a front of the log.
  pub moments : Stretch start.disk end (OpensToFrontOf (value_of_store start) left.log.commands 0)
  -- Each image has a claimed command from the moment on at which it was committed.
  pub since : IsHonest start.disk → AllClaimsKept (value_of_store start) left.log end.history left.acknowledged
  -- What each session was shown last is committed, and each image has it from the moment on at which
  -- its last command was committed.
  pub looked : IsHonest start.disk → AllShownKept (value_of_store start) left.log end.history left.looked

-- The image opens to whatever a stop of the server at a moment left: it is what the stop left, or
-- what a stop of an opening left after that.
pub record IsLeftAt (server : ServerView) (t : ℕ) (image : List ℕ) : Type 0 where
  -- What the stop of the server left.
  pub before : List ℕ
  pub stop : IsStopAt server t before
  pub alike : (value : StoreValue (List RowView)) → OpensTo store_format latest before value → OpensTo store_format latest image value

-- A device has such images.
abbrev pub MayHoldAt : ServerView → ℕ → Disk → Type 0
MayHoldAt server t disk = EveryImage disk.history.now (IsLeftAt server t)

-- `Recovers` after stops of openings, too.
abbrev pub RecoversAgain : ServerView → Disk → StoreView → Type 0
RecoversAgain server disk store =
    (t : ℕ) → MayHoldAt server t disk
    → Survives (value_of_store server.start) server.left.log.commands (acknowledged_at t server.left) (looked_at t server.left) (value_of_store store)
