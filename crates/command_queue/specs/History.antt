-- The rule of the history, and what one step of it makes known.
use Rattle.std.specs.Prelude.{ℕ, ◌≡◌, ◌==◌, true, List, [], ◌∷◌, ◌++◌, length}
use Rattle.std.specs.Bool.{OnTrue}
use Rattle.logbook.specs.Pages.{Cell, Step, View, Book, Named}
use Rattle.path_db.specs.declared.command.Command.{Command}

-- The first word is the length of the history. A book has two words, of which the second stays 0.
abbrev pub IsKept : List Cell → List Command → Type 0
IsKept cells log = cells ≡ (length log, true) ∷ (0, true) ∷ []

-- The word that is the length of a history.
abbrev pub head_of : Book → Named
head_of book = record { tracked = true; key = 0; book = book }

-- Where the history was as long as all that had been seen, the command was added to it.
abbrev pub Adds : Step Command → View Command ℕ → ℕ → View Command ℕ → Type 0
Adds step before found after = OnTrue (found == step.old) (after.0 ≡ before.0 ++ step.ask ∷ [])
