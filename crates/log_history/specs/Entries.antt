-- What contracts see of a log and of what it was.
use Rattle.std.specs.Prelude.{ℕ, ◌≡◌, ◌+◌, ◌≤◌, List, [], ◌∷◌, ◌++◌, flat_map, sum_by}
use mathlib.Core.List.{IsPrefix}
use Rattle.logbook.specs.Pages.{Book}
use Rattle.path_db.specs.declared.command.Command.{Command}
use Rattle.log_history.specs.declared.rule.Entry.{Entry}

-- A log at a moment.
pub record LogMoment : Type 0 where
  -- The book that its history is in.
  pub book : Book
  -- All commands that were accepted by then, in their order.
  pub commands : List Command
  -- The number of the first commands that were committed by then.
  pub committed : ℕ

-- The log in which nothing is accepted yet.
abbrev pub new_log : Book → LogMoment
new_log book = record { book = book; commands = []; committed = 0 }

-- The log with one more accepted command.
abbrev pub log_accepting : Command → LogMoment → LogMoment
log_accepting command log = record { book = log.book; commands = log.commands ++ command ∷ []; committed = log.committed }

-- The log of which some more commands are committed.
abbrev pub log_committing : ℕ → LogMoment → LogMoment
log_committing more log = record { book = log.book; commands = log.commands; committed = log.committed + more }

-- One log is a past one of another: that begins with its commands, and no fewer are committed.
pub record IsPastOf (past log : LogMoment) : Type 0 where
  pub front : IsPrefix past.commands log.commands
  pub committed : past.committed ≤ log.committed

-- The entry of a command that was accepted.
abbrev pub accepting : Command → ℕ → Entry
accepting command next = record { accepted = command ∷ []; committed = 0; next = next }

-- The entry of commands that were committed.
abbrev pub committing : ℕ → ℕ → Entry
committing more next = record { accepted = []; committed = more; next = next }

abbrev pub accepted_in : Entry → List Command
accepted_in entry = entry.accepted

abbrev pub committed_in : Entry → ℕ
committed_in entry = entry.committed

-- The log of these entries.
abbrev pub log_of : Book → List Entry → LogMoment
log_of book entries = record { book = book; commands = flat_map accepted_in entries; committed = sum_by committed_in entries }
