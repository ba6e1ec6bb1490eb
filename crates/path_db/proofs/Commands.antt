-- The row under a key after commands: for `command_laws`.
use Rattle.std.proofs.Common.{◌≡◌, ℕ, not, List, [], ◌∷◌, refl, ap, ◌∙◌}
use Rattle.path_db.specs.declared.command.Command.{Command}
use Rattle.path_db.specs.declared.command.Command.TheVariants.{Register, Purge, Remove}
use Rattle.row_map.specs.Database.{RowView, key, IsRising, is_under, row_under}
use Rattle.row_map.specs.Drops.{is_valid_beyond}
use Rattle.path_db.specs.Command.{database_after, database_after_all}
use Rattle.path_db.specs.CommandLaws.{left_under, left_under_all, KeysAreSeparate, CommandsAppend, CommandsKeepDatabase}
use Rattle.row_map.proofs.Exports.{rising_puts, rising_filtered, database_puts, database_filtered, puts_leave, test_leaves}

pub command_leaves : (k : List ℕ) (rows : List RowView) (command : Command) → IsRising rows → row_under k (database_after rows command) ≡ left_under k (row_under k rows) command
unfolding database_after
command_leaves k rows (Register new) rising = puts_leave k rows new rising
command_leaves k rows (Purge moment) rising = test_leaves k (is_valid_beyond moment) rows rising
command_leaves k rows (Remove kind id) rising = test_leaves k (λ row. not (is_under (key kind id) row)) rows rising

pub rising_after : (rows : List RowView) (command : Command) → IsRising rows → IsRising (database_after rows command)
unfolding database_after
rising_after rows (Register new) rising = rising_puts rows new rising
rising_after rows (Purge moment) rising = rising_filtered (is_valid_beyond moment) rows rising
rising_after rows (Remove kind id) rising = rising_filtered (λ row. not (is_under (key kind id) row)) rows rising

pub keys_are_separate : KeysAreSeparate
unfolding database_after_all
keys_are_separate k rows [] rising = refl
keys_are_separate k rows (command ∷ commands) rising =
    keys_are_separate k (database_after rows command) commands (rising_after rows command rising)
    ∙ ap (λ found. left_under_all k found commands) (command_leaves k rows command rising)

pub commands_append : CommandsAppend
unfolding database_after_all
commands_append rows [] more = refl
commands_append rows (command ∷ commands) more = commands_append (database_after rows command) commands more

pub commands_keep_database : CommandsKeepDatabase
unfolding database_after
commands_keep_database rows (Register new) all whole = database_puts rows new all whole
commands_keep_database rows (Purge moment) all whole = database_filtered (is_valid_beyond moment) rows all
commands_keep_database rows (Remove kind id) all whole = database_filtered (λ row. not (is_under (key kind id) row)) rows all
