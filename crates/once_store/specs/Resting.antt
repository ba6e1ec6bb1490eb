-- The states of a store in memory between two calls.
use Rattle.std.specs.Prelude.{◌≡◌, ◌+◌, ◌<◌, ◌≤◌, false, [], ◌∷◌, IsSome}
use Rattle.path_db.specs.declared.command.Command.{Command}
use Rattle.store_layout.specs.Layout.{Geometry}
use Rattle.store_layout.specs.Group.{last_place}
use Rattle.store_layout.specs.Limits.{latest}
use Rattle.group_phases.specs.declared.phases.Check.{Check}
use Rattle.group_phases.specs.declared.phases.Check.TheVariants.{Ready, Sealed}
use Rattle.group_core.specs.declared.ticket.Ticket.{Ticket}
use Rattle.group_core.specs.StateView.{StateView}
use Rattle.group_core.specs.Redeeming.{outcome_at, kept_without}

-- The sizes of a store in memory: 4,096 sectors for each area and for each journal.
abbrev pub sizes : Geometry
sizes = record { checkpoint = 4096; journal = 4096 }

-- The checkpointer rests: no journal is sealed, or one is and the tail's journal is empty. A seal
-- comes only after a group, so that there are never more seals than committed commands.
abbrev pub CheckRests : Check → StateView → Type 0
CheckRests Ready view = (view.epoch ≤ view.value.place + 1) × (1 ≤ view.gate → view.epoch ≤ view.value.place)
CheckRests Sealed view = (view.epoch ≤ view.value.place) × (view.gate ≡ 0)
CheckRests _ view = ⊥

-- The state goes on, in the latest version, no plan is out, and the checkpointer rests.
pub record IsSteady (view : StateView) : Type 0 where
  -- The sizes are those of a store in memory.
  pub geometry : view.geometry ≡ sizes
  -- The version is the latest.
  pub version : view.version ≡ latest
  -- The state goes on.
  pub going : view.stopped ≡ false
  -- No plan is out.
  pub plan : view.plan.out ≡ false
  -- The checkpointer rests.
  pub check : CheckRests view.check view

-- One command is pending, and this is its ticket. Its outcome is kept, and no other is.
pub record HasOnePending (ticket : Ticket) (view : StateView) : Type 0 where
  -- The pending command.
  pub command : Command
  -- No other command is pending.
  pub pending : view.pending ≡ command ∷ []
  -- The ticket is of this state.
  pub home : ticket.home ≡ view.home
  -- The ticket's place is that of the pending command.
  pub place : ticket.place ≡ view.value.place
  -- The command has a place.
  pub last : view.value.place < last_place
  -- The command's outcome is kept.
  pub kept : IsSome (outcome_at ticket.place view.kept)
  -- No other outcome is kept.
  pub alone : kept_without ticket.place view.kept ≡ []
