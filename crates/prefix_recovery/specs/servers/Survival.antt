-- What survives a stop of a server at any moment: the definitions of the recovery theorem over
-- threads, to be read from top to bottom.
use Rattle.std.specs.Prelude.{◌≡◌, ℕ, zero, suc, ◌≤◌, nat_le, List, length, take, filter, Some, slice_get}
use Rattle.std.specs.List.{AllByRecursion}
use mathlib.Core.List.{IsPrefix}
use Rattle.row_map.specs.Database.{RowView}
use Rattle.path_db.specs.declared.command.Command.{Command}
use Rattle.sector_dev.specs.Disk.{Moment, Disk, IsHonest, moments}
use Rattle.sector_dev.specs.Image.{IsImage, EveryImage}
use Rattle.store_layout.specs.Opening.{StoreValue}
use Rattle.store_open.specs.Store.{StoreView}
use Rattle.command_log.specs.declared.rule.Claim.{Claim}
use Rattle.command_log.specs.Log.{Log, since_of}
use Rattle.group_core.specs.Starting.{value_of_store}
use Rattle.logged_state.specs.LeftView.{LeftView}
use Rattle.prefix_recovery.specs.Survival.{IsAfterFront}

-- ---- a server

-- A server at its end as contracts see it.
pub record ServerView : Type 0 where
  -- The store that it was started with.
  pub start : StoreView
  -- Its log of accepted commands, the claims of those that its sessions acknowledged, and what its
  -- sessions were shown last.
  pub left : LeftView
  -- Its device.
  pub end : Disk

-- ---- what a stop leaves

-- A stop of the server's honest device left this image, at the moment of this number, which is one
-- since the store was opened.
pub record IsStopAt (server : ServerView) (t : ℕ) (image : List ℕ) : Type 0 where
  pub honest : IsHonest server.start.disk
  pub since : length server.start.disk.history.past ≤ t
  pub moment : Moment
  pub at : slice_get (moments server.end.history) t ≡ Some moment
  pub left : IsImage moment image

-- A device has what such a stop left.
abbrev pub HoldsStopAt : ServerView → ℕ → Disk → Type 0
HoldsStopAt server t disk = EveryImage disk.history.now (IsStopAt server t)

-- ---- what survives

-- The value is that of the start after a front of the order. The front has each claimed command at
-- its index, and begins with each of the lists that lookups showed.
pub record Survives (start : StoreValue (List RowView)) (order : List Command) (claims : List Claim) (looked : List (List Command)) (value : StoreValue (List RowView)) : Type 0 where
  pub front : IsAfterFront start order value
  pub claimed : AllByRecursion (λ claim. slice_get (take front.kept order) claim.index ≡ Some claim.command) claims
  pub shown : AllByRecursion (λ list. IsPrefix list (take front.kept order)) looked

-- The claims of the acknowledged commands that were committed at the moment of this number.
abbrev pub acknowledged_at : ℕ → LeftView → List Claim
acknowledged_at t left = filter (λ claim. nat_le (since_of left.log claim.index) t) left.acknowledged

-- The number of the moment at which the last one of the first commands, as many as this, was
-- committed. No command is committed at moment 0.
abbrev pub committed_by : Log → ℕ → ℕ
committed_by log zero = 0
committed_by log (suc index) = since_of log index

-- What sessions were shown last of the commands that were committed at the moment of this number.
abbrev pub looked_at : ℕ → LeftView → List (List Command)
looked_at t left = filter (λ list. nat_le (committed_by left.log (length list)) t) left.looked

-- For each moment: where a device has what a stop at that moment left, the store that is opened has
-- a front of the log. It has the acknowledged commands that were committed then, and all that
-- lookups showed of those.
abbrev pub Recovers : ServerView → Disk → StoreView → Type 0
Recovers server disk store =
    (t : ℕ) → HoldsStopAt server t disk
    → Survives (value_of_store server.start) server.left.log.commands (acknowledged_at t server.left) (looked_at t server.left) (value_of_store store)
