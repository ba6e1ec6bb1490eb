-- A group that was passed to the writer whole, and then published.
use Rattle.std.proofs.Common.{◌≡◌, ◌+◌, ◌<◌, ◌≤◌, List, [], ◌∷◌, ◌++◌, length, drop, refl, sym, ap, ◌∙◌, arith}
use Rattle.std.proofs.lemmas.List.{append-nil}
use Rattle.std.proofs.Math.Seq.{drop-append_seam}
use Rattle.logbook.specs.Pages.{Book}
use Rattle.log_history.specs.Entries.{LogMoment}
use Rattle.row_map.specs.Database.{RowView}
use Rattle.path_db.specs.declared.command.Command.{Command}
use Rattle.store_layout.specs.Journal.{all_of}
use Rattle.store_layout.specs.Limits.{limits_of, latest}
use Rattle.store_layout.specs.Opening.{StoreValue}
use Rattle.store_layout.specs.StoreValues.{value_after}
use Rattle.store_layout.proofs.Exports.{all_of_more}
use Rattle.store_open.specs.PathStores.{store_format}
use Rattle.hub_readers.specs.declared.published.ShownCommand.{ShownCommand}
use Rattle.hub_readers.specs.declared.show.Progress.{Progress}
use Rattle.hub_readers.specs.Shown.{PublishedView, shown_log, shown_as, commands_of, groups_with, IsShownAfter}
use Rattle.hub_readers.specs.Showcase.{beyond, IsHanded, AreNext}
use Rattle.hub_readers.proofs.Groups.{commands_back, commands_long}
use Rattle.hub_readers.proofs.Handing.{whole_pending, whole_history, handed_none}

-- a group that is not empty is one more
one_more : (groups : List (List Command)) (group : List Command) → 1 ≤ length group → groups ++ group ∷ [] ≡ groups_with groups group
one_more groups [] full = absurd (omega (arith, full))
one_more groups (c ∷ group) full = refl

module _ (book : Book) (groups : List (List Command)) (group : List Command) (history : LogMoment) (queue : List ShownCommand) (progress : Progress)
    (handed : IsHanded book (all_of groups) group history queue progress) (all : length group ≤ progress.handed) where
  whole : queue ≡ shown_as book (all_of groups) group
  whole = whole_pending book (all_of groups) group history queue progress handed all

  commands : commands_of queue ≡ group
  commands = ap commands_of whole ∙ commands_back book (all_of groups) group

  pub next_of : AreNext book groups queue
  next_of = whole ∙ ap (shown_as book (all_of groups)) (sym commands)

  pub some_of : 1 ≤ length group → 0 < length queue
  some_of full =
      let long = commands_long queue in
      let same = ap (λ (l : List Command). length l) commands in
      omega (arith, full, long, same)

  module _ (opening : StoreValue (List RowView)) (published new : PublishedView) (left : List ShownCommand) (grown : List (List Command))
      (done : (left ≡ []) × (new.value ≡ value_after store_format published.value (commands_of queue)) × (grown ≡ groups ++ commands_of queue ∷ []) × IsShownAfter opening book new grown) where
    grown_is : grown ≡ groups ++ group ∷ []
    grown_is = done.2 ∙ ap (λ (l : List Command). groups ++ l ∷ []) commands

    pub value_of : new.value ≡ value_after store_format published.value group
    value_of = done.1 ∙ ap (value_after store_format published.value) commands

    pub listed_of : all_of grown ≡ all_of groups ++ group
    listed_of = ap (λ (l : List (List Command)). all_of l) grown_is ∙ all_of_more store_format.commands (limits_of latest) groups group

    history_is : history ≡ shown_log book (all_of grown)
    history_is = whole_history book (all_of groups) group history queue progress handed all ∙ ap (shown_log book) (sym listed_of)

    pub paid_of : beyond grown history ≡ []
    paid_of =
        ap (λ (l : LogMoment). drop (length (all_of grown)) l.commands) history_is
        ∙ ap (λ (l : List Command). drop (length (all_of grown)) l) (sym (append-nil (all_of grown))) ∙ drop-append_seam (all_of grown) []

    pub kept_of : IsShownAfter opening book new grown × (0 ≡ length (beyond grown history)) × IsHanded book (all_of grown) (beyond grown history) history left (record { noted = 0; handed = 0 })
    kept_of = (done.3, sym (ap (λ (l : List Command). length l) paid_of), handed_none book (all_of grown) (beyond grown history) history left history_is done.0)

    pub groups_of : 1 ≤ length group → grown ≡ groups_with groups group
    groups_of full = grown_is ∙ one_more groups group full
