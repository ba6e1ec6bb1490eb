-- When servers with the same registrations have the same rows.
use Rattle.std.specs.Prelude.{◌≡◌, ◌↔◌, List, map, Contains}
use Rattle.std.specs.List.{flat_map}
use Rattle.path_db.specs.declared.command.Command.{Command}
use Rattle.path_db.specs.declared.command.Command.TheVariants.{Register}
use Rattle.row_map.specs.Database.{RowView, key_of, AreWhole, IsDatabase}
use Rattle.path_db.specs.Command.{database_after, database_after_all}

-- The commands of registrations, each of some rows.
abbrev pub register_commands : List (List RowView) → List Command
register_commands registrations = map (λ rows. Register rows) registrations

-- All rows of the registrations, in order.
abbrev pub all_rows_of : List (List RowView) → List RowView
all_rows_of registrations = flat_map (λ rows. rows) registrations

-- Each row of one list is in the other, in any order and any number of times.
abbrev pub HaveSameRows : List RowView → List RowView → Type 0
HaveSameRows one other = (row : RowView) → Contains one row ↔ Contains other row

-- No two different rows of one key have the same timestamp.
abbrev pub HaveDistinctTimestamps : List RowView → Type 0
HaveDistinctTimestamps rows =
    (row other : RowView) → Contains rows row → Contains rows other → key_of row ≡ key_of other → row.1.timestamp ≡ other.1.timestamp → row ≡ other

-- Two servers with the same rows have the same rows after registrations of the same segments, which
-- are whole and apart.
abbrev pub RegistrationsCommute : Type 0
RegistrationsCommute =
    (rows : List RowView) (one other : List (List RowView)) → IsDatabase rows → AreWhole (all_rows_of one) → AreWhole (all_rows_of other)
    → HaveSameRows (all_rows_of one) (all_rows_of other) → HaveDistinctTimestamps (all_rows_of one)
    → database_after_all rows (register_commands one) ≡ database_after_all rows (register_commands other)

-- Registering segments again that were all registered before changes nothing, whatever commands
-- came between.
abbrev pub RegistrationsRepeat : Type 0
RegistrationsRepeat =
    (rows : List RowView) (registrations : List (List RowView)) (again : List RowView) → IsDatabase rows → AreWhole (all_rows_of registrations) → AreWhole again
    → ((row : RowView) → Contains again row → Contains (all_rows_of registrations) row)
    → database_after (database_after_all rows (register_commands registrations)) (Register again) ≡ database_after_all rows (register_commands registrations)
