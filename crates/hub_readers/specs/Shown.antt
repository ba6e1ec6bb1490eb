-- What a hub publishes, and what the seats at it have seen.
use Rattle.std.specs.Prelude.{◌≡◌, ℕ, ◌+◌, ◌≤◌, List, [], ◌∷◌, ◌++◌, length, fold, map}
use Rattle.std.specs.List.{AllByRecursion}
use mathlib.Core.Option.{some}
use mathlib.Core.List.{IsPrefix}
use lib.ListN.{get_elem?}
use Rattle.logbook.specs.Pages.{Book}
use Rattle.log_history.specs.Entries.{LogMoment}
use Rattle.row_map.specs.Database.{RowView}
use Rattle.path_db.specs.Command.{database_after}
use Rattle.path_db.specs.declared.command.Command.{Command}
use Rattle.store_layout.specs.Journal.{all_of}
use Rattle.store_layout.specs.Opening.{StoreValue}
use Rattle.store_layout.specs.StoreValues.{value_after}
use Rattle.store_open.specs.PathStores.{store_format}
use Rattle.hub_readers.specs.declared.published.ShownCommand.{ShownCommand}
use Rattle.hub_readers.specs.declared.ghosts.rule.SeenGroups.{SeenGroups}

-- What is published.
pub record PublishedView : Type 0 where
  -- The rows and the place.
  pub value : StoreValue (List RowView)
  -- The past log of all commands that were shown by then.
  pub past : LogMoment

-- The history of what is shown, in a book, once these commands were shown.
abbrev pub shown_log : Book → List Command → LogMoment
shown_log book commands = record { book = book; commands = commands; committed = 0 }

-- The rows and their place after one more command.
abbrev pub value_with_command : StoreValue (List RowView) → Command → StoreValue (List RowView)
value_with_command value command = record { db = database_after value.db command; place = value.place + 1 }

-- What is published after one more command, with the past log after it.
abbrev pub published_with : PublishedView → ShownCommand → PublishedView
published_with published shown = record { value = value_with_command published.value shown.command; past = shown.past }

-- Commands that are shown after others, each with the past log after it.
abbrev pub shown_as : Book → List Command → List Command → List ShownCommand
shown_as book before [] = []
shown_as book before (command ∷ more) =
    record { command = command; past = shown_log book (before ++ command ∷ []) } ∷ shown_as book (before ++ command ∷ []) more

abbrev pub command_in : ShownCommand → Command
command_in shown = shown.command

-- The commands of these.
abbrev pub commands_of : List ShownCommand → List Command
commands_of shown = map command_in shown

-- What a hub that opened with this value shows after these groups.
abbrev pub shown_after : StoreValue (List RowView) → List (List Command) → StoreValue (List RowView)
shown_after opening groups = fold (value_after store_format) opening groups

-- No group is empty.
abbrev pub AreGroups : List (List Command) → Type 0
AreGroups groups = AllByRecursion (λ group. 1 ≤ length group) groups

-- The groups with one more, where that one is not empty.
abbrev pub groups_with : List (List Command) → List Command → List (List Command)
groups_with groups [] = groups
groups_with groups (command ∷ more) = groups ++ (command ∷ more) ∷ []

-- The view of a seat that has seen nothing.
abbrev pub newcomer : SeenGroups
newcomer = record { groups = [] }

-- This is published after these groups, of which none is empty. The book is that of the history of
-- what is shown.
pub record IsShownAfter (opening : StoreValue (List RowView)) (book : Book) (published : PublishedView) (groups : List (List Command)) : Type 0 where
  pub is : published.value ≡ shown_after opening groups
  pub past : published.past ≡ shown_log book (all_of groups)
  pub whole : AreGroups groups

-- The readers' rule: there are groups after which this is published, and each seat has seen a front
-- of them.
pub record KeepsRule (opening : StoreValue (List RowView)) (book : Book) (published : PublishedView) (views : List SeenGroups) : Type 0 where
  -- The groups that were published.
  pub groups : List (List Command)
  -- This is what is published after them.
  pub shown : IsShownAfter opening book published groups
  -- Each seat has seen a front of them.
  pub seats : (seat : ℕ) (view : SeenGroups) → get_elem? views seat ≡ some view → IsPrefix view.groups groups

-- A reader's step: the reader has then seen all groups that are published, and they begin with those
-- that it had seen.
pub record IsSeen (opening : StoreValue (List RowView)) (book : Book) (old : SeenGroups) (before after : PublishedView) (new : SeenGroups) : Type 0 where
  pub shown : IsShownAfter opening book after new.groups
  pub later : IsPrefix old.groups new.groups

-- The writer's step: the writer has then seen one more group.
abbrev pub HasSeenGroup : List Command → SeenGroups → PublishedView → PublishedView → SeenGroups → Type 0
HasSeenGroup group old before after new = new.groups ≡ old.groups ++ group ∷ []
