-- Each step keeps the readers' rule.
use Rattle.std.proofs.Common.{◌≡◌, ◌≢◌, ℕ, ◌≤◌, List, [], ◌∷◌, ◌++◌, length, fold, set, Result, Ok, Err, MatchResult, refl, sym, ap, ◌∙◌, subst, ⊎_elim, arith}
use mathlib.Core.Option.{some}
use mathlib.Core.List.{IsPrefix}
use lib.ListN.{get_elem?}
use Rattle.crossbeam_utils.specs.Register.{Admits, TurnsAt, Turns}
use Rattle.atomic_table.proofs.Lists.{at_set, at_snoc}
use Rattle.logbook.specs.Pages.{Book}
use Rattle.row_map.specs.Database.{RowView}
use Rattle.path_db.specs.declared.command.Command.{Command}
use Rattle.store_layout.specs.Opening.{StoreValue}
use Rattle.hub_readers.specs.declared.published.ShownCommand.{ShownCommand}
use Rattle.hub_readers.specs.declared.ghosts.rule.SeenGroups.{SeenGroups}
use Rattle.hub_readers.specs.Shown.{PublishedView, published_with, commands_of, newcomer, shown_after, IsShownAfter, KeepsRule, IsSeen, HasSeenGroup}
use Rattle.hub_readers.specs.Showcase.{AreNext, Publishes}
use Rattle.hub_readers.proofs.Groups.{prefix_whole, prefix_more, commands_long, same_groups, shown_more, next_is}

-- each seat has still seen a beginning, where one has come to see another
seats_set : (groups now : List (List Command)) (views : List SeenGroups) (by : ℕ) (w : SeenGroups)
    → ((seat : ℕ) (v : SeenGroups) → get_elem? views seat ≡ some v → IsPrefix v.groups groups) → ((front : List (List Command)) → IsPrefix front groups → IsPrefix front now)
    → IsPrefix w.groups now → (seat : ℕ) (v : SeenGroups) → get_elem? (set views by w) seat ≡ some v → IsPrefix v.groups now
seats_set groups now views by w seats more mine seat v at =
    ⊎_elim (λ (t : (seat ≡ by) × (w ≡ v)). subst (λ (u : SeenGroups). IsPrefix u.groups now) t.1 mine)
    (λ (t : (seat ≢ by) × (get_elem? views seat ≡ some v)). more v.groups (seats seat v t.1))
    (at_set views by seat w v at)

seats_snoc : (groups : List (List Command)) (views : List SeenGroups)
    → ((seat : ℕ) (v : SeenGroups) → get_elem? views seat ≡ some v → IsPrefix v.groups groups)
    → (seat : ℕ) (v : SeenGroups) → get_elem? (views ++ newcomer ∷ []) seat ≡ some v → IsPrefix v.groups groups
seats_snoc groups views seats seat v at =
    ⊎_elim (seats seat v) (λ (t : newcomer ≡ v). subst (λ (u : SeenGroups). IsPrefix u.groups groups) t (groups, refl)) (at_snoc views newcomer v seat at)

module _ (opening : StoreValue (List RowView)) (book : Book) where
  -- nothing is published yet, and only the writer has a seat
  pub begins : (x : PublishedView) → IsShownAfter opening book x [] → KeepsRule opening book x (newcomer ∷ [])
  begins x shown = record { groups = []; shown = shown; seats = seats_snoc [] [] (λ seat v at. absurd (cc)) }

  pub admits : Admits (KeepsRule opening book) newcomer
  admits x views h = record { groups = h.groups; shown = h.shown; seats = seats_snoc h.groups views h.seats }

  pub sees : (seat : ℕ) (v : SeenGroups) → Turns (KeepsRule opening book) seat v (λ x. x) (IsSeen opening book)
  sees seat v x views h at =
      let w : SeenGroups = record { groups = h.groups } in (
        w,
        record { groups = h.groups; shown = h.shown; seats = seats_set h.groups h.groups views seat w h.seats (λ front p. p) (prefix_whole h.groups) },
        record { shown = h.shown; later = h.seats seat v at },
      )

  -- what is published after the pending commands
  after_next : (x : PublishedView) (groups : List (List Command)) (pending : List ShownCommand) → IsShownAfter opening book x groups → AreNext book groups pending → 1 ≤ length pending
      → IsShownAfter opening book (fold published_with x pending) (groups ++ commands_of pending ∷ [])
  after_next x groups pending shown next full =
      let long : 1 ≤ length (commands_of pending) = omega (arith, full, commands_long pending) in
      subst (λ (y : PublishedView). IsShownAfter opening book y (groups ++ commands_of pending ∷ [])) (sym (next_is opening book x groups pending shown next)) (shown_more opening book x groups (commands_of pending) shown long)

  pub grows : (seat : ℕ) (v : SeenGroups) (x new : PublishedView) (pending : List ShownCommand) → IsShownAfter opening book x v.groups → AreNext book v.groups pending → 1 ≤ length pending
      → new ≡ fold published_with x pending → TurnsAt (KeepsRule opening book) seat v x new (HasSeenGroup (commands_of pending))
  grows seat v x new pending mine next full is views h at =
      let places : (shown_after opening h.groups).place ≡ (shown_after opening v.groups).place = ap (λ s. s.place) (sym h.shown.is ∙ mine.is) in
      let same : v.groups ≡ h.groups = same_groups opening v.groups h.groups (h.seats seat v at) h.shown.whole (omega (arith, places)) in
      let group = commands_of pending in
      let now = h.groups ++ group ∷ [] in
      let w : SeenGroups = record { groups = now } in (
        w,
        record {
          groups = now;
          shown = subst (λ (y : PublishedView). IsShownAfter opening book y now) (sym is) (after_next x h.groups pending h.shown (subst (λ (l : List (List Command)). AreNext book l pending) same next) full);
          seats = seats_set h.groups now views seat w h.seats (λ front p. prefix_more front h.groups (group ∷ []) p) (prefix_whole now);
        },
        ap (λ l. l ++ group ∷ []) (sym same),
      )

  -- what a step of the writer gives, put together
  pub publishes : {E : Type 0} (x y : PublishedView) (before left : List ShownCommand) (v w : SeenGroups) (r : Result (Unit {0}) E)
      → IsShownAfter opening book x v.groups → AreNext book v.groups before → 1 ≤ length before
      → MatchResult r (λ _. (y ≡ fold published_with x before) × (left ≡ [])) (λ _. (y ≡ x) × (left ≡ before))
      → MatchResult r (λ _. w.groups ≡ v.groups ++ commands_of before ∷ []) (λ _. w ≡ v)
      → Publishes opening book r before x v.groups left y w.groups
  publishes x y before left v w (Ok u) shown next full values rule = (
    values.1,
    ap (λ (p : PublishedView). p.value) (values.0 ∙ next_is opening book x v.groups before shown next),
    rule,
    subst (λ (z : PublishedView). IsShownAfter opening book z w.groups) (sym values.0) (subst (IsShownAfter opening book (fold published_with x before)) (sym rule) (after_next x v.groups before shown next full)),
  )
  publishes x y before left v w (Err e) shown next full values rule = (
    values.1,
    values.0,
    ap (λ u. u.groups) rule,
    subst (λ (z : PublishedView). IsShownAfter opening book z w.groups) (sym values.0) (subst (IsShownAfter opening book x) (sym (ap (λ u. u.groups) rule)) shown),
  )
