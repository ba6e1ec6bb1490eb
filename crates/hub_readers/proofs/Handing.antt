-- What the showcase has of the next group.
use Rattle.std.proofs.Common.{◌≡◌, ◌≢◌, ℕ, ◌+◌, ◌<◌, ◌≤◌, List, [], ◌∷◌, ◌++◌, length, get_or, take, drop, sym, ap, ◌∙◌, arith, append_assoc}
use Rattle.std.proofs.lemmas.List.{take-take, take_more, take_all, length-take, length-take-le, append-nil}
use Rattle.std.proofs.Math.Seq.{drop-append_seam}
use Rattle.logbook.specs.Pages.{Book}
use Rattle.log_history.specs.Entries.{LogMoment, log_accepting}
use Rattle.path_db.specs.declared.command.Command.{Command}
use Rattle.hub_readers.specs.declared.published.ShownCommand.{ShownCommand}
use Rattle.hub_readers.specs.declared.show.Progress.{Progress}
use Rattle.hub_readers.specs.Shown.{shown_log, shown_as}
use Rattle.hub_readers.specs.Showcase.{IsHanded}
use Rattle.hub_readers.proofs.Groups.{shown_as_more}

module _ (book : Book) (before group : List Command) where
  -- nothing is noted yet
  pub handed_none : (history : LogMoment) (pending : List ShownCommand) → history ≡ shown_log book before → pending ≡ [] → IsHanded book before group history pending (record { noted = 0; handed = 0 })
  handed_none history pending is none = record {
    history = is ∙ ap (shown_log book) (sym (append-nil before));
    pending = none;
    inside = omega arith;
    least = omega arith;
    most = omega arith;
  }

  -- what is noted of a front of a group is noted of the group
  pub handed_front : (owed : List Command) (history : LogMoment) (pending : List ShownCommand) (progress : Progress) → progress.noted ≡ length owed → IsHanded book before owed history pending progress
      → take (length owed) group ≡ owed → IsHanded book before group history pending progress
  handed_front owed history pending progress all h front =
      let fits : length owed ≤ length group = let l = ap (λ (l : List Command). length l) front in omega (arith, l, length-take (length owed) group) in
      let part : (n : ℕ) → n ≤ length owed → take n owed ≡ take n group = λ n few. ap (λ (l : List Command). take n l) (sym front) ∙ take-take n (length owed) group few in
      let least = h.least in record {
        history = h.history ∙ ap (λ (l : List Command). shown_log book (before ++ l)) (part progress.noted (omega (arith, all)));
        pending = h.pending ∙ ap (shown_as book before) (part progress.handed (omega (arith, all, least)));
        inside = omega (arith, all, fits);
        least = h.least;
        most = h.most;
      }

  -- the history has what is noted beyond the commands before
  pub beyond_is : (history : LogMoment) (pending : List ShownCommand) (progress : Progress) → IsHanded book before group history pending progress → drop (length before) history.commands ≡ take progress.noted group
  beyond_is history pending progress h = ap (λ (l : LogMoment). drop (length before) l.commands) h.history ∙ drop-append_seam before (take progress.noted group)

  pub beyond_long : (history : LogMoment) (pending : List ShownCommand) (progress : Progress) → IsHanded book before group history pending progress → progress.noted ≡ length (drop (length before) history.commands)
  beyond_long history pending progress h = sym (ap (λ (l : List Command). length l) (beyond_is history pending progress h) ∙ length-take-le progress.noted group h.inside)

  pub handed_beyond : (history : LogMoment) (pending : List ShownCommand) (progress : Progress) → IsHanded book before group history pending progress
      → IsHanded book before (drop (length before) history.commands) history pending progress
  handed_beyond history pending progress h =
      let is = sym (beyond_is history pending progress h) in
      let part : (n : ℕ) → n ≤ progress.noted → take n group ≡ take n (drop (length before) history.commands) = λ n few. sym (take-take n progress.noted group few) ∙ ap (λ (l : List Command). take n l) is in
      let long = beyond_long history pending progress h in record {
        history = h.history ∙ ap (λ (l : List Command). shown_log book (before ++ l)) (part progress.noted (omega arith));
        pending = h.pending ∙ ap (shown_as book before) (part progress.handed h.least);
        inside = omega (arith, long);
        least = h.least;
        most = h.most;
      }

  -- which is a front of the group
  pub beyond_front : (history : LogMoment) (pending : List ShownCommand) (progress : Progress) → IsHanded book before group history pending progress
      → take (length (drop (length before) history.commands)) group ≡ drop (length before) history.commands
  beyond_front history pending progress h =
      ap (λ (n : ℕ). take n group) (sym (beyond_long history pending progress h)) ∙ sym (beyond_is history pending progress h)

  -- one more command is noted, where it was not noted yet
  pub noted_now : (history : LogMoment) (pending : List ShownCommand) (progress : Progress) (c : Command) → IsHanded book before group history pending progress → progress.handed ≡ progress.noted
      → progress.handed < length group → c ≡ get_or group progress.handed c → log_accepting c history ≡ shown_log book (before ++ take (progress.handed + 1) group)
  noted_now history pending progress c h same below is =
      let more : take (progress.handed + 1) group ≡ take progress.noted group ++ c ∷ [] = take_more group progress.handed c below ∙ ap (λ (x : Command). take progress.handed group ++ x ∷ []) (sym is) ∙ ap (λ (n : ℕ). take n group ++ c ∷ []) same in
      ap (log_accepting c) h.history ∙ ap (shown_log book) (append_assoc before (take progress.noted group) (c ∷ []) ∙ ap (λ (l : List Command). before ++ l) (sym more))

  pub noted_already : (history : LogMoment) (pending : List ShownCommand) (progress : Progress) → IsHanded book before group history pending progress → progress.handed ≢ progress.noted
      → (history ≡ shown_log book (before ++ take (progress.handed + 1) group)) × (progress.noted ≡ progress.handed + 1)
  noted_already history pending progress h other =
      let least = h.least in
      let most = h.most in
      let next : progress.noted ≡ progress.handed + 1 = omega (arith, least, most, other) in
      (h.history ∙ ap (λ (n : ℕ). shown_log book (before ++ take n group)) next, next)

  -- the writer does not have the command yet, and then it has it
  pub handed_less : (history : LogMoment) (pending : List ShownCommand) (progress : Progress) → history ≡ shown_log book (before ++ take (progress.handed + 1) group) → progress.noted ≡ progress.handed + 1 → progress.handed < length group
      → pending ≡ shown_as book before (take progress.handed group) → IsHanded book before group history pending progress
  handed_less history pending progress is next below handed = record {
    history = is ∙ ap (λ (n : ℕ). shown_log book (before ++ take n group)) (sym next);
    pending = handed;
    inside = omega (arith, next, below);
    least = omega (arith, next);
    most = omega (arith, next);
  }

  pub handed_more : (history : LogMoment) (pending now : List ShownCommand) (index noted : ℕ) (c : Command) → history ≡ shown_log book (before ++ take (index + 1) group) → noted ≡ index + 1 → index < length group
      → c ≡ get_or group index c → pending ≡ shown_as book before (take index group) → now ≡ pending ++ record { command = c; past = history } ∷ []
      → IsHanded book before group history now (record { noted = noted; handed = index + 1 })
  handed_more history pending now index noted c is next below at handed grown =
      let more : take (index + 1) group ≡ take index group ++ c ∷ [] = take_more group index c below ∙ ap (λ (x : Command). take index group ++ x ∷ []) (sym at) in record {
        history = is ∙ ap (λ (n : ℕ). shown_log book (before ++ take n group)) (sym next);
        pending =
            grown
            ∙ ap (λ (l : List ShownCommand). l ++ record { command = c; past = history } ∷ []) handed
            ∙ ap (λ (m : LogMoment). shown_as book before (take index group) ++ record { command = c; past = m } ∷ []) (is ∙ ap (λ (l : List Command). shown_log book (before ++ l)) more)
            ∙ sym (ap (shown_as book before) more ∙ shown_as_more book before (take index group) c);
        inside = omega (arith, next, below);
        least = omega (arith, next);
        most = omega (arith, next);
      }

  -- once the writer has the whole group, it is what is pending
  pub whole_pending : (history : LogMoment) (pending : List ShownCommand) (progress : Progress) → IsHanded book before group history pending progress → length group ≤ progress.handed → pending ≡ shown_as book before group
  whole_pending history pending progress h all = h.pending ∙ ap (shown_as book before) (take_all progress.handed group all)

  pub whole_history : (history : LogMoment) (pending : List ShownCommand) (progress : Progress) → IsHanded book before group history pending progress → length group ≤ progress.handed → history ≡ shown_log book (before ++ group)
  whole_history history pending progress h all =
      let least = h.least in h.history ∙ ap (λ (l : List Command). shown_log book (before ++ l)) (take_all progress.noted group (omega (arith, least, all)))

  -- all that is noted is in the history
  pub noted_all : (history : LogMoment) (pending : List ShownCommand) (progress : Progress) → progress.noted ≡ length group → IsHanded book before group history pending progress → history ≡ shown_log book (before ++ group)
  noted_all history pending progress all h =
      h.history ∙ ap (λ (l : List Command). shown_log book (before ++ l)) (take_all progress.noted group (omega (arith, all)))
