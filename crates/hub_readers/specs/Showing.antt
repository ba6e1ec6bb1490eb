-- What contracts see of a hub's showcase.
use Rattle.std.specs.Prelude.{List}
use Rattle.row_map.specs.Database.{RowView}
use Rattle.path_db.specs.declared.command.Command.{Command}
use Rattle.store_layout.specs.Opening.{StoreValue}

-- A hub's showcase as contracts see it.
pub record Showing : Type 0 where
  -- The groups that were published.
  pub groups : List (List Command)
  -- The rows and the place after those groups.
  pub value : StoreValue (List RowView)
  -- The commands of the next group that are already noted in the history of what is shown.
  pub owed : List Command
