-- What taking a command returns, and what it leaves.
use Rattle.std.specs.Prelude.{◌≡◌, ◌≢◌, ◌⊎◌, ◌+◌, ◌*◌, ◌≤◌, List, Result, Ok, Err}
use Rattle.byte_lists.specs.declared.format.TheConstants.{SECTOR}
use Rattle.row_map.specs.Database.{RowView, rows_len}
use Rattle.path_db.specs.Command.{database_after, outcome_of}
use Rattle.path_db.specs.declared.command.Command.{Command}
use Rattle.store_layout.specs.declared.format.TheConstants.{BEFORE_ROWS}
use Rattle.store_layout.specs.Group.{last_place}
use Rattle.once_store.specs.declared.error.Taken.{Taken}
use Rattle.once_store.specs.declared.error.TakeError.{TakeError}
use Rattle.once_store.specs.declared.error.TakeError.TheVariants.{NoMemory, Full, Exhausted}
use Rattle.once_store.specs.OnceView.{OnceView}

-- The rows have room in a checkpoint area of 4,096 sectors.
abbrev pub FitStore : List RowView → Type 0
FitStore rows = BEFORE_ROWS + rows_len rows ≤ SECTOR * 4096

-- The view after a command is taken.
abbrev pub once_view_with_command : OnceView → Command → OnceView
once_view_with_command old command = record { rows = database_after old.rows command; place = old.place + 1 }

-- The command is taken at the next place: a place is left, and the rows after the command fit.
pub record TakesCommand (old : OnceView) (command : Command) (new : OnceView) : Type 0 where
  pub left : old.place ≢ last_place
  pub fits : FitStore (database_after old.rows command)
  pub taken : new ≡ once_view_with_command old command

-- The command is taken, with its place and its outcome. Otherwise nothing changes: the last place
-- is reached, or the rows after the command do not fit. Where memory is refused, either nothing
-- changes, or the command is taken and its outcome is not reported.
abbrev pub MayTake : OnceView → Command → Result Taken TakeError → OnceView → Type 0
MayTake old command (Ok taken) new =
    (taken ≡ record { place = old.place; outcome = outcome_of old.rows command }) × TakesCommand old command new
MayTake old command (Err NoMemory) new = (new ≡ old) ⊎ TakesCommand old command new
MayTake old command (Err Full) new = (old.place ≢ last_place) × (¬ FitStore (database_after old.rows command)) × (new ≡ old)
MayTake old command (Err Exhausted) new = (old.place ≡ last_place) × (new ≡ old)
