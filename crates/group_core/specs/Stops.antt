-- What a stop may leave of a state's device, and what each call leaves.
use Rattle.std.specs.Prelude.{ℕ, List}
use Rattle.row_map.specs.Database.{RowView}
use Rattle.path_db.specs.declared.command.Command.{Command}
use Rattle.sector_dev.specs.Disk.{IsHonest}
use Rattle.sector_dev.specs.Image.{EveryImage, IsFromImage}
use Rattle.sector_dev.specs.Stretch.{Stretch}
use Rattle.store_layout.specs.Limits.{latest}
use Rattle.store_open.specs.PathStores.{store_format}
use Rattle.store_open.specs.Behind.{SameBehind}
use Rattle.group_phases.specs.StoreConfig.{StoreConfig}
use Rattle.group_phases.specs.CommitState.{CommitState, OpensToFront}
use Rattle.group_phases.specs.HeldSteps.{OpensAroundCall}
use Rattle.group_core.specs.StateView.{StateView}

-- What does not change while the state exists.
abbrev pub config_of : StateView → StoreConfig (List RowView) Command
config_of view = record { format = store_format; latest = latest; geometry = view.geometry }

-- The fields of a state that count for its device.
abbrev pub commit_state_of : StateView → CommitState (List RowView) Command
commit_state_of view = record {
  value = view.value;
  pending = view.pending;
  taken = view.taken;
  following = view.following;
  flush = view.flush;
  check = view.check;
  half = view.half;
  gate = view.gate;
  version = view.version;
  written = view.written;
}

-- What a stop may leave of a state. Such an image opens to what is committed, with a front of the
-- pending commands as long as the flusher's phase allows, and by a half of the state's version or a
-- later one.
abbrev pub MayOpen : StateView → List ℕ → Type 0
MayOpen view image = OpensToFront (config_of view) (commit_state_of view) image

-- What a call leaves.
pub record StepLeaves (old new : StateView) : Type 0 where
  -- At each moment since the call's entry, a stop leaves what one may leave of the state before the
  -- call or after it.
  pub moments : Stretch old.disk new.disk (OpensAroundCall (config_of old) (commit_state_of old) (commit_state_of new))
  -- At the call's exit, a stop leaves what one may leave of the state after it.
  pub exit : IsHonest new.disk → EveryImage new.disk.history.now (MayOpen new)
  -- At every moment, the bytes after the store are unchanged.
  pub behind : Stretch old.disk new.disk (IsFromImage old.disk.history.now (SameBehind old.geometry))
