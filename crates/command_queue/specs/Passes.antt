-- What the passes of a queue's table know.
use Rattle.std.specs.Prelude.{◌≡◌, ℕ, suc, ◌<◌, ◌≤◌, List, [], ◌∷◌, ◌++◌, length, take, Some, slice_get, true, false, if◌then◌else◌}
use Rattle.std.specs.List.{AllByRecursion}
use mathlib.Core.Option.{some}
use lib.ListN.{get_elem?}
use Rattle.atomic_table.specs.Seated.{TableId}
use Rattle.path_db.specs.declared.command.Command.{Command}
use Rattle.path_db.specs.declared.command.Command.TheVariants.{Purge}
use Rattle.command_queue.specs.declared.ghosts.rule.SentCommand.{SentCommand}
use Rattle.command_queue.specs.declared.ghosts.rule.SenderList.{SenderList}
use Rattle.command_queue.specs.declared.ghosts.rule.QueueView.{QueueView}
use Rattle.command_queue.specs.Orders.{commands_of, commands_by, IsWithin, AreAllOf}

-- The name of no table.
abbrev pub no_table : TableId
no_table = record { words = 0; slots = 0; views_name = 0; atom = 0; block = 0; offset = 0; slot_names = [] }

-- The command of a pass that claims none.
abbrev pub no_command : Command
no_command = Purge 0

-- The view of the pass that knows all commands that were handed in, and how many senders they have.
abbrev pub keeper_view : List SentCommand → ℕ → QueueView
keeper_view history senders = record {
  keeps = true;
  history = history;
  senders = senders;
  lists = [];
  claims = false;
  number = 0;
  command = no_command;
  submits = false;
  next = 0;
  submitted = [];
}

-- The view of a pass that has the lists of senders. With no list, it knows nothing.
abbrev pub lists_view : List SenderList → QueueView
lists_view lists = record {
  keeps = false;
  history = [];
  senders = 0;
  lists = lists;
  claims = false;
  number = 0;
  command = no_command;
  submits = false;
  next = 0;
  submitted = [];
}

-- The view of a pass that claims the command of a number.
abbrev pub number_view : ℕ → Command → QueueView
number_view number command = record {
  keeps = false;
  history = [];
  senders = 0;
  lists = [];
  claims = true;
  number = number;
  command = command;
  submits = false;
  next = 0;
  submitted = [];
}

-- The view of the pass of who submits: each command that was submitted has a number below the next.
abbrev pub submitted_view : ℕ → List Command → QueueView
submitted_view next submitted = record {
  keeps = false;
  history = [];
  senders = 0;
  lists = [];
  claims = false;
  number = 0;
  command = no_command;
  submits = true;
  next = next;
  submitted = submitted;
}

-- What a pass knows once it has taken in what another one knows.
abbrev pub view_with : QueueView → QueueView → QueueView
view_with view other = record {
  keeps = view.keeps;
  history = view.history;
  senders = view.senders;
  lists = view.lists ++ other.lists;
  claims = other.claims;
  number = other.number;
  command = other.command;
  submits = if view.submits then true else other.submits;
  next = if view.submits then view.next else other.next;
  submitted = if view.submits then view.submitted else other.submitted;
}

-- The view is the keeper's, which has taken in nothing.
abbrev pub IsKeeper : QueueView → Type 0
IsKeeper view = view ≡ keeper_view view.history view.senders

-- The view is of a pass that has the lists of senders alone.
abbrev pub IsLists : QueueView → Type 0
IsLists view = view ≡ lists_view view.lists

-- The view is of a pass of one sender: it has handed in nothing, or it has one list.
abbrev pub IsSender : QueueView → Type 0
IsSender view = IsLists view × (length view.lists ≤ 1)

-- The view is of a pass that claims the command of a number.
abbrev pub IsNumber : QueueView → Type 0
IsNumber view = view ≡ number_view view.number view.command

-- The view is of the pass of who submits.
abbrev pub IsSubmitter : QueueView → Type 0
IsSubmitter view = view ≡ submitted_view view.next view.submitted

-- The number of the sender that the first list of a view is of; with no list, the next number.
abbrev pub first_number : ℕ → List SenderList → ℕ
first_number next [] = next
first_number next (list ∷ lists) = list.by

-- The commands of the first list; with no list, none.
abbrev pub first_commands : List SenderList → List Command
first_commands [] = []
first_commands (list ∷ lists) = list.commands

-- The number of senders, where one of these lists hands in a command: one more, where there is no
-- list.
abbrev pub senders_after : ℕ → List SenderList → ℕ
senders_after senders [] = suc senders
senders_after senders (list ∷ lists) = senders

-- The list of a sender that has handed in one command more.
abbrev pub list_with : ℕ → Command → List SenderList → SenderList
list_with next command lists = record { by = first_number next lists; commands = first_commands lists ++ command ∷ [] }

-- All commands that were handed in, once a sender has handed in one more.
abbrev pub history_with : List SentCommand → ℕ → Command → List SentCommand
history_with history by command = history ++ record { by = by; command = command } ∷ []

-- One more command was handed in, by some sender.
abbrev pub AddsOne : Command → List SentCommand → List SentCommand → Type 0
AddsOne command old new = (by : ℕ) × (new ≡ history_with old by command)

-- The command of a number, counted from 0, among all that were handed in.
abbrev pub HasNumber : List SentCommand → ℕ → Command → Type 0
HasNumber history number command = slice_get (commands_of history) number ≡ Some command

-- What was submitted is a part, in order, of the commands whose numbers are below the next one.
pub record AreSubmitted (history : List SentCommand) (next : ℕ) (submitted : List Command) : Type 0 where
  pub below : next ≤ length (commands_of history)
  pub within : IsWithin submitted (take next (commands_of history))

-- A list has all commands of its sender, and one pass alone has the list of that sender.
pub record IsListOf (history : List SentCommand) (senders : ℕ) (seat : ℕ → ℕ) (pass : ℕ) (list : SenderList) : Type 0 where
  pub here : seat list.by ≡ pass
  pub begun : list.by < senders
  pub all : list.commands ≡ commands_by list.by history

-- What the pass of a number knows is true: only one pass knows all commands that were handed in.
pub record IsPassOf (keeper : ℕ) (history : List SentCommand) (senders : ℕ) (seat : ℕ → ℕ) (pass : ℕ) (view : QueueView) : Type 0 where
  pub whose : view.keeps ≡ true → pass ≡ keeper
  pub knows : view.keeps ≡ true → (view.history ≡ history) × (view.senders ≡ senders)
  pub lists : AllByRecursion (IsListOf history senders seat pass) view.lists
  pub claim : view.claims ≡ true → HasNumber history view.number view.command
  pub front : view.submits ≡ true → AreSubmitted history view.next view.submitted

-- The rule of the table: there is one history, of which each pass knows what is true.
pub record AreOfQueue (views : List QueueView) : Type 0 where
  -- The number of the pass that knows the whole history.
  pub keeper : ℕ
  -- All commands that were handed in, with the numbers of their senders.
  pub history : List SentCommand
  -- How many senders have handed something in.
  pub senders : ℕ
  -- The pass that has the list of each sender.
  pub seat : ℕ → ℕ
  -- No later sender has handed anything in.
  pub fresh : (by : ℕ) → senders ≤ by → commands_by by history ≡ []
  -- What each pass knows is true.
  pub each : (pass : ℕ) (view : QueueView) → get_elem? views pass ≡ some view → IsPassOf keeper history senders seat pass view

-- The keeper compares what it has taken in with the history.
pub record IsChecked (before after : QueueView) : Type 0 where
  pub same : after ≡ before
  pub lists : AreAllOf before.history before.lists
  pub front : before.submits ≡ true → AreSubmitted before.history before.next before.submitted
