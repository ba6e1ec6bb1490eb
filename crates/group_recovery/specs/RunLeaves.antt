-- What a stop within a run leaves: the rows that were committed when it began, with a front of the
-- commands in the order of the lock.
use Rattle.std.specs.Prelude.{◌≡◌, ℕ, ◌-◌, ◌≤◌, List, [], ◌∷◌, ◌++◌, length, take, drop}
use Rattle.path_db.specs.declared.command.Command.{Command}
use Rattle.sector_dev.specs.Disk.{IsHonest}
use Rattle.sector_dev.specs.Image.{EveryImage, IsFromImage}
use Rattle.sector_dev.specs.Stretch.{Stretch}
use Rattle.store_layout.specs.Opening.{OpensTo}
use Rattle.store_layout.specs.StoreValues.{value_after}
use Rattle.store_layout.specs.Limits.{latest}
use Rattle.store_open.specs.Behind.{SameBehind}
use Rattle.store_open.specs.PathStores.{store_format}
use Rattle.group_recovery.specs.declared.events.Event.{Event}
use Rattle.group_recovery.specs.declared.events.Event.TheVariants as event
use Rattle.group_recovery.specs.declared.events.Reply.{Reply}
use Rattle.group_recovery.specs.declared.events.Reply.TheVariants as reply
use Rattle.group_core.specs.StateView.{StateView}

-- The command that an event submitted, where its reply is that it was accepted.
abbrev pub accepted_by : Event → Reply → List Command
accepted_by (event.Submit command) (reply.Accepted place) = command ∷ []
accepted_by _ _ = []

-- The commands that a list of events submitted and that were accepted.
abbrev pub accepted_in : List Event → List Reply → List Command
accepted_in [] replies = []
accepted_in (e ∷ events) [] = []
accepted_in (e ∷ events) (r ∷ replies) = accepted_by e r ++ accepted_in events replies

-- The order of the lock: the commands that are pending at the start, and then those that are
-- accepted.
abbrev pub lock_order : StateView → List Event → List Reply → List Command
lock_order start events replies = start.pending ++ accepted_in events replies

-- A front of the order is committed at the end, and the rest of the order is pending.
pub record IsFrontCommitted (start : StateView) (order : List Command) (end : StateView) : Type 0 where
  -- The length of that front, which is all that was committed since the start.
  pub done : ℕ
  -- The front is within the order.
  pub inside : done ≤ length order
  -- The value at the end is that after the front.
  pub value : end.value ≡ value_after store_format start.value (take done order)
  -- The rest of the order is pending at the end.
  pub pending : end.pending ≡ drop done order

-- The image opens to the rows that were committed at the start, after a front of this order that
-- has at least `least` commands.
pub record OpensToPrefix (start : StateView) (order : List Command) (least : ℕ) (image : List ℕ) : Type 0 where
  -- The length of the front that the image has.
  pub kept : ℕ
  -- The front has at least `least` commands.
  pub enough : least ≤ kept
  -- The front is within the order.
  pub inside : kept ≤ length order
  -- The image opens to the value after the front.
  pub opens : OpensTo store_format latest image (value_after store_format start.value (take kept order))

-- What a run leaves.
pub record RunLeaves (start : StateView) (order : List Command) (end : StateView) : Type 0 where
  -- A front of the order is committed.
  pub committed : IsFrontCommitted start order end
  -- At each moment since the run's entry, every image opens to a front.
  pub moments : Stretch start.disk end.disk (OpensToPrefix start order 0)
  -- At the run's exit, every image opens to a front that has all that is committed then.
  pub exit : IsHonest end.disk → EveryImage end.disk.history.now (OpensToPrefix start order (end.value.place - start.value.place))
  -- The sizes are unchanged.
  pub geometry : end.geometry ≡ start.geometry
  -- At every moment, the bytes after the store are unchanged.
  pub behind : Stretch start.disk end.disk (IsFromImage start.disk.history.now (SameBehind start.geometry))
