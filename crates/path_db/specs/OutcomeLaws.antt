-- How an outcome's counts relate to its command.
use Rattle.std.specs.Prelude.{◌≡◌, ◌+◌, ◌^◌, ◌<◌, List, length}
use Rattle.path_db.specs.declared.command.Command.{Command}
use Rattle.path_db.specs.declared.command.Command.TheVariants.{Register, Purge, Remove}
use Rattle.row_map.specs.Database.{RowView, IsRising}
use Rattle.path_db.specs.Command.{database_after, outcome_of}

-- A command registers fewer than 2^32 segments.
abbrev pub RegistersFew : Command → Type 0
RegistersFew (Register new) = length new < 2 ^ 32
RegistersFew (Purge moment) = Unit {0}
RegistersFew (Remove kind id) = Unit {0}

-- Each segment that is registered inserts a row, updates a row or keeps one: these three counts add
-- up to the number of segments.
abbrev pub EachPutIsCounted : Type 0
EachPutIsCounted =
    (rows new : List RowView) → length new < 2 ^ 32
    → let outcome = outcome_of rows (Register new) in (outcome.inserted + outcome.updated) + outcome.kept ≡ length new

-- The number of rows before a command and those inserted is the number of rows after it and those
-- dropped.
abbrev pub RowsAreCounted : Type 0
RowsAreCounted =
    (rows : List RowView) (command : Command) → IsRising rows → length rows < 2 ^ 32 → RegistersFew command
    → length rows + (outcome_of rows command).inserted ≡ length (database_after rows command) + (outcome_of rows command).purged
