-- What contracts see of a sender, and of what was handed in.
use Rattle.std.specs.Prelude.{ℕ, List, [], ◌∷◌, ◌++◌}
use Rattle.path_db.specs.declared.command.Command.{Command}

-- The commands that a sender has handed in and that were taken, in their order.
pub record Handed : Type 0 where
  pub commands : List Command

-- Nothing was handed in yet.
abbrev pub nothing_handed : Handed
nothing_handed = record { commands = [] }

-- One more command was taken.
abbrev pub handed_with : Command → Handed → Handed
handed_with command handed = record { commands = handed.commands ++ command ∷ [] }

-- A command, and its number among all that were handed in, counted from 0.
pub record NumberedView : Type 0 where
  pub number : ℕ
  pub command : Command

-- The commands that were submitted, in their order, and a number above theirs.
pub record SubmittedView : Type 0 where
  pub next : ℕ
  pub commands : List Command
