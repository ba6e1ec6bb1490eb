-- What a stop at any moment leaves, by the log.
use Rattle.std.specs.Prelude.{◌≡◌, ℕ, zero, suc, ◌+◌, ◌<◌, ◌≤◌, List, length, take}
use Rattle.std.specs.List.{AllByRecursion}
use mathlib.Core.List.{IsPrefix}
use Rattle.path_db.specs.declared.command.Command.{Command}
use Rattle.row_map.specs.Database.{RowView}
use Rattle.sector_dev.specs.Disk.{History, Disk, IsHonest}
use Rattle.sector_dev.specs.Image.{EveryImageSince}
use Rattle.sector_dev.specs.Stretch.{Stretch}
use Rattle.store_layout.specs.Opening.{StoreValue}
use Rattle.command_log.specs.declared.rule.Claim.{Claim}
use Rattle.command_log.specs.Log.{Log, since_of, HasAt}
use Rattle.group_core.specs.StateView.{StateView}
use Rattle.logged_state.specs.LoggedView.{IsLogOf}
use Rattle.logged_state.specs.Left.{OpensToFrontOf}

-- From the moment at which the command of this index was committed, each image has it.
pub record IsKeptSince (opening : StoreValue (List RowView)) (log : Log) (history : History) (index : ℕ) : Type 0 where
  -- That moment is one of the history's.
  pub reached : since_of log index ≤ length history.past
  -- Each image of each moment from then on opens to a front of the log that has the command.
  pub every : EveryImageSince (since_of log index) history (OpensToFrontOf opening log.commands (index + 1))

-- Each committed command is kept since its moment.
abbrev pub AllKept : StoreValue (List RowView) → Log → History → Type 0
AllKept opening log history = (index : ℕ) → index < log.committed → IsKeptSince opening log history index

-- The first commands of the log, as many as this: from the moment at which the last of them was
-- committed, each image opens to a front of the log that has them.
abbrev pub IsFrontKept : StoreValue (List RowView) → Log → History → ℕ → Type 0
IsFrontKept opening log history zero = Unit {0}
IsFrontKept opening log history (suc index) = IsKeptSince opening log history index

-- What was shown after these commands: they are the first committed ones of the log, and from the
-- moment at which the last of them was committed, each image opens to a front of the log that has
-- them.
pub record IsShownKept (opening : StoreValue (List RowView)) (log : Log) (history : History) (front : List Command) : Type 0 where
  pub committed : IsPrefix front (take log.committed log.commands)
  pub kept : IsFrontKept opening log history (length front)

-- The same of each of these lists.
abbrev pub AllShownKept : StoreValue (List RowView) → Log → History → List (List Command) → Type 0
AllShownKept opening log history fronts = AllByRecursion (IsShownKept opening log history) fronts

-- What a log says of the device of a state that was made with it.
pub record IsKeptFrom (start : Disk) (opening : StoreValue (List RowView)) (log : Log) (disk : Disk) : Type 0 where
  -- At every moment since the state was made, each image opens to a front of the log.
  pub moments : Stretch start disk (OpensToFrontOf opening log.commands 0)
  -- Each committed command has the number of its moment.
  pub numbered : length log.since ≡ log.committed
  pub kept : IsHonest disk → AllKept opening log disk.history

-- The state with its log: the committed commands make the value, the others are pending, and at
-- every moment since the start a stop leaves a front of the log.
pub record IsTied (start : Disk) (opening : StoreValue (List RowView)) (log : Log) (view : StateView) : Type 0 where
  pub tie : IsLogOf opening log view
  pub kept : IsKeptFrom start opening log view.disk

-- The claimed command is in the log, and from the moment at which it was committed, each image has
-- it there.
pub record IsClaimKept (opening : StoreValue (List RowView)) (log : Log) (history : History) (claim : Claim) : Type 0 where
  pub has : HasAt log claim
  pub kept : IsKeptSince opening log history claim.index

-- The same of each of these claims.
abbrev pub AllClaimsKept : StoreValue (List RowView) → Log → History → List Claim → Type 0
AllClaimsKept opening log history claims = AllByRecursion (IsClaimKept opening log history) claims
