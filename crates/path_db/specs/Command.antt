-- The database after commands, and their outcomes.
use Rattle.std.specs.Prelude.{List, [], ◌∷◌, not, count_by, if◌then◌else◌}
use Rattle.std.specs.Option.{is_some}
use Rattle.path_db.specs.declared.command.Command.{Command}
use Rattle.path_db.specs.declared.command.Command.TheVariants.{Register, Purge, Remove}
use Rattle.path_db.specs.declared.outcome.Outcome.{Outcome}
use Rattle.row_map.specs.Database.{RowView, key, row_under, AreWhole}
use Rattle.row_map.specs.Put.{database_after_puts, changes_of}
use Rattle.row_map.specs.Drops.{is_valid_beyond, database_after_purge, database_after_removal}
use Rattle.path_db.specs.Outcome.{outcome_of_puts, outcome_of_drops}

-- The database after a command.
unfoldable pub database_after : List RowView → Command → List RowView
database_after rows (Register new) = database_after_puts rows new
database_after rows (Purge moment) = database_after_purge rows moment
database_after rows (Remove kind id) = database_after_removal rows (key kind id)

-- The database after several commands, in order.
unfoldable pub database_after_all : List RowView → List Command → List RowView
database_after_all rows [] = rows
database_after_all rows (command ∷ commands) = database_after_all (database_after rows command) commands

-- The outcome of a command: how many of its puts add, replace and keep a row, and how many rows the
-- command drops.
unfoldable pub outcome_of : List RowView → Command → Outcome
outcome_of rows (Register new) = outcome_of_puts (changes_of rows new)
outcome_of rows (Purge moment) = outcome_of_drops (count_by (λ row. not (is_valid_beyond moment row)) rows)
outcome_of rows (Remove kind id) = outcome_of_drops (if is_some (row_under (key kind id) rows) then 1 else 0)

-- A command is a registration of at least one segment. No other command takes memory.
abbrev pub TakesMemory : Command → Type 0
TakesMemory (Register []) = ⊥
TakesMemory (Register (row ∷ new)) = Unit {0}
TakesMemory (Purge moment) = ⊥
TakesMemory (Remove kind id) = ⊥

-- The segments that a command registers are whole.
abbrev pub HasWholeSegments : Command → Type 0
HasWholeSegments (Register new) = AreWhole new
HasWholeSegments (Purge moment) = Unit {0}
HasWholeSegments (Remove kind id) = Unit {0}
