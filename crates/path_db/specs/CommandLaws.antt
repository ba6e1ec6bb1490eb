-- The row under one key after commands, and laws of the database after commands.
use Rattle.std.specs.Prelude.{◌≡◌, ◌≢◌, ◌↔◌, ℕ, ◌<◌, ◌≤◌, List, [], ◌∷◌, ◌++◌, not, filter, Contains, Option, MatchOption}
use Rattle.std.specs.List.{AllByRecursion}
use Rattle.std.specs.Option.{option_to_list}
use Rattle.seg_core.specs.declared.seg_type.SegType.{SegType}
use Rattle.seg_check.specs.Expiry.{expiry_of}
use Rattle.path_db.specs.declared.command.Command.{Command}
use Rattle.path_db.specs.declared.command.Command.TheVariants.{Register, Purge, Remove}
use Rattle.row_map.specs.Database.{RowView, key, key_of, is_under, row_under, IsRising, IsDatabase}
use Rattle.path_db.specs.Command.{database_after, database_after_all, HasWholeSegments}
use Rattle.row_map.specs.Drops.{is_valid_beyond}
use Rattle.row_map.specs.Left.{left_by_puts, kept_if}

-- The row under a key after a command, given the row before.
abbrev pub left_under : List ℕ → Option RowView → Command → Option RowView
left_under k found (Register new) = left_by_puts k found new
left_under k found (Purge moment) = kept_if (is_valid_beyond moment) found
left_under k found (Remove kind id) = kept_if (λ row. not (is_under (key kind id) row)) found

-- The row under a key after several commands in order, given the row before.
abbrev pub left_under_all : List ℕ → Option RowView → List Command → Option RowView
left_under_all k found [] = found
left_under_all k found (command ∷ commands) = left_under_all k (left_under k found command) commands

-- The row under a key after commands depends on the row under that key before, and on no other row.
abbrev pub KeysAreSeparate : Type 0
KeysAreSeparate =
    (k : List ℕ) (rows : List RowView) (commands : List Command) → IsRising rows
    → row_under k (database_after_all rows commands) ≡ left_under_all k (row_under k rows) commands

-- The database after two lists of commands is the database after the first list and then the
-- second.
abbrev pub CommandsAppend : Type 0
CommandsAppend =
    (rows : List RowView) (commands more : List Command)
    → database_after_all rows (commands ++ more) ≡ database_after_all (database_after_all rows commands) more

-- The empty list of rows is a database.
abbrev pub NoRowsAreDatabase : Type 0
NoRowsAreDatabase = IsDatabase []

-- After a command whose segments are whole, a database is a database again.
abbrev pub CommandsKeepDatabase : Type 0
CommandsKeepDatabase =
    (rows : List RowView) (command : Command) → IsDatabase rows → HasWholeSegments command
    → IsDatabase (database_after rows command)

-- Two databases with the same row under every key are the same list.
abbrev pub DatabaseIsCanonical : Type 0
DatabaseIsCanonical =
    (rows others : List RowView) → IsRising rows → IsRising others
    → ((k : List ℕ) → row_under k rows ≡ row_under k others) → rows ≡ others

-- The candidates of a key: the row that was under it, and then the rows registered under it, in
-- order.
abbrev pub candidates : List ℕ → List RowView → List RowView → List RowView
candidates k rows new = option_to_list (row_under k rows) ++ filter (is_under k) new

-- A row is the newest of a list.
pub record IsNewest (rows : List RowView) (row : RowView) : Type 0 where
  pub before : List RowView
  pub after : List RowView
  -- The row is in the list.
  pub split : rows ≡ before ++ row ∷ after
  -- All rows before it are strictly older.
  pub older : AllByRecursion (λ other. other.1.timestamp < row.1.timestamp) before
  -- No row after it is newer.
  pub no_newer : AllByRecursion (λ other. other.1.timestamp ≤ row.1.timestamp) after

-- After a registration the row under a key is the newest of its candidates, the first of them where
-- timestamps are equal.
abbrev pub RegisterLeavesNewest : Type 0
RegisterLeavesNewest =
    (k : List ℕ) (rows new : List RowView) → IsRising rows
    → MatchOption (row_under k (database_after rows (Register new))) (candidates k rows new ≡ []) (λ row. IsNewest (candidates k rows new) row)

-- The rows after a purge are exactly those that expire after its moment.
abbrev pub PurgeLeavesValid : Type 0
PurgeLeavesValid =
    (rows : List RowView) (moment : ℕ) (row : RowView)
    → Contains (database_after rows (Purge moment)) row ↔ (Contains rows row × (moment < expiry_of row.1))

-- The rows after a removal are exactly those of other keys.
abbrev pub RemoveLeavesOthers : Type 0
RemoveLeavesOthers =
    (rows : List RowView) (kind : SegType) (id : List ℕ) (row : RowView)
    → Contains (database_after rows (Remove kind id)) row ↔ (Contains rows row × (key_of row ≢ key kind id))
