-- The order of the commands that were handed in, and that of those which were submitted.
use Rattle.std.specs.Prelude.{◌≡◌, ◌⊎◌, ℕ, ◌==◌, Bool, List, [], ◌∷◌, ◌++◌, map}
use Rattle.std.specs.List.{AllByRecursion, filter}
use Rattle.path_db.specs.declared.command.Command.{Command}
use Rattle.command_queue.specs.Handed.{Handed}
use Rattle.command_queue.specs.declared.ghosts.rule.SentCommand.{SentCommand}
use Rattle.command_queue.specs.declared.ghosts.rule.SenderList.{SenderList}

-- The commands alone, without their senders.
abbrev pub commands_of : List SentCommand → List Command
commands_of sent = map (λ s. s.command) sent

-- Whether a command is of the sender of this number.
abbrev pub is_by : ℕ → SentCommand → Bool
is_by by sent = sent.by == by

-- The commands of the sender of this number.
abbrev pub commands_by : ℕ → List SentCommand → List Command
commands_by by sent = commands_of (filter (is_by by) sent)

-- The first list is what is left of the second one where some of it is left out: each is in the
-- second list, in the same order, and each once.
abbrev pub IsWithin : {A : Type 0} → List A → List A → Type 0
IsWithin [] ys = Unit {0}
IsWithin (x ∷ xs) [] = ⊥
IsWithin (x ∷ xs) (y ∷ ys) = ((x ≡ y) × IsWithin xs ys) ⊎ IsWithin (x ∷ xs) ys

-- A sender has handed in just these commands, in this order, among all that were handed in.
abbrev pub IsAllOf : List SentCommand → SenderList → Type 0
IsAllOf sent list = list.commands ≡ commands_by list.by sent

-- So it is of each sender of a list.
abbrev pub AreAllOf : List SentCommand → List SenderList → Type 0
AreAllOf sent lists = AllByRecursion (IsAllOf sent) lists

-- The list of a sender that has ended is the last one. A sender that has handed nothing in has
-- none.
abbrev pub Keeps : Handed → List SenderList → List SenderList → Type 0
Keeps sender old new = ((sender.commands ≡ []) × (new ≡ old)) ⊎ ((by : ℕ) × (new ≡ old ++ record { by = by; commands = sender.commands } ∷ []))

-- What is known of a queue at its end.
pub record QueuedView : Type 0 where
  -- All commands that were handed in, with the numbers of their senders.
  pub history : List SentCommand
  -- What each sender handed in that has ended.
  pub senders : List SenderList
