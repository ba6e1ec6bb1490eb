-- What contracts see of a store in memory that one caller drives.
use Rattle.std.specs.Prelude.{◌≡◌, ℕ, List, [], Option, Some, None}
use Rattle.row_map.specs.Database.{RowView}
use Rattle.group_phases.specs.declared.phases.Flush.TheVariants.{Resting}
use Rattle.group_core.specs.StateView.{StateView}
use Rattle.group_core.specs.Submitting.{accepted_rows, next_place}
use Rattle.once_store.specs.declared.committing.Held.{Held}
use Rattle.once_store.specs.Resting.{IsSteady, HasOnePending}
use Rattle.once_store.specs.Committing.{HoldsDurable}

-- A store that one caller drives, as contracts see it.
pub record OnceView : Type 0 where
  -- The rows after all commands that are taken.
  pub rows : List RowView
  -- The place of the next command.
  pub place : ℕ

-- The view of a state.
abbrev pub once_view : StateView → OnceView
once_view state = record { rows = accepted_rows state; place = next_place state }

-- The view of a new store.
abbrev pub no_rows : OnceView
no_rows = record { rows = []; place = 0 }

-- Nothing is pending and nothing is held, or a pending command's ticket is held, with the value of
-- its group where the group is durable.
abbrev pub HoldsPending : Option Held → StateView → Type 0
HoldsPending None view = (view.pending ≡ []) × (view.kept ≡ []) × (view.flush ≡ Resting)
HoldsPending (Some held) view = HasOnePending held.ticket view × HoldsDurable held.durable view

-- What is true of a store between two calls.
pub record IsLone (view : StateView) (held : Option Held) : Type 0 where
  pub steady : IsSteady view
  pub holds : HoldsPending held view
