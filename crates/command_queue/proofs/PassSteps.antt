-- Each step of a pass keeps the rule of the table.
use Rattle.std.proofs.Common.{◌≡◌, ◌≢◌, ◌⊎◌, inl, inr, ℕ, zero, suc, ◌<◌, ◌≤◌, ◌==◌, List, [], ◌∷◌, ◌++◌, length, take, set, Some, Bool, true, false, true≢false, refl, sym, ap, ◌∙◌, subst, ⊎_elim, arith}
use Rattle.std.specs.Prelude.{slice_get, if◌then◌else◌}
use Rattle.std.specs.List.{AllByRecursion, filter}
use Rattle.std.proofs.lemmas.List.{append-nil, length-append, length-map, map-append, take-append-le}
use Rattle.std.proofs.lemmas.List.Elements.{filter-append}
use Rattle.std.proofs.lemmas.Option.{slice_get_within}
use Rattle.std.proofs.lemmas.Bool.Decides.{eqb_tells}
use mathlib.Core.Option.{some, some-ne-none, some-injective}
use lib.ListN.{get_elem?}
use Rattle.atomic_table.proofs.Lists.{at_set, at_snoc}
use Rattle.path_db.specs.declared.command.Command.{Command}
use Rattle.command_queue.specs.declared.ghosts.rule.SentCommand.{SentCommand}
use Rattle.command_queue.specs.declared.ghosts.rule.SenderList.{SenderList}
use Rattle.command_queue.specs.declared.ghosts.rule.QueueView.{QueueView}
use Rattle.command_queue.specs.Orders.{commands_of, is_by, commands_by, IsWithin, IsAllOf}
use Rattle.command_queue.specs.Passes.{keeper_view, lists_view, number_view, submitted_view, view_with, first_number, first_commands, senders_after, list_with, history_with, HasNumber, AreSubmitted, IsListOf, IsPassOf, AreOfQueue, IsChecked}
use Rattle.command_queue.proofs.Fronts.{get_front, get_last}

off : false ≡ true → ⊥
off e = true≢false (sym e)

-- tests of two numbers
same_test : (a b : ℕ) → a ≡ b → (a == b) ≡ true
same_test a b e = ⊎_elim (λ t. t.0) (λ t. absurd (t.1 e)) (eqb_tells a b)

other_test : (a b : ℕ) → a ≢ b → (a == b) ≡ false
other_test a b n = ⊎_elim (λ t. absurd (n t.1)) (λ t. t.0) (eqb_tells a b)

-- all commands, with one more
commands_with : (history : List SentCommand) (by : ℕ) (command : Command) → commands_of (history_with history by command) ≡ commands_of history ++ command ∷ []
commands_with history by command = map-append (λ (s : SentCommand). s.command) history (record { by = by; command = command } ∷ [])

-- those of a sender, once it or another one has handed in one more
by_same : (history : List SentCommand) (by : ℕ) (command : Command) → commands_by by (history_with history by command) ≡ commands_by by history ++ command ∷ []
by_same history by command =
    let s : SentCommand = record { by = by; command = command } in
    let one : filter (is_by by) (s ∷ []) ≡ s ∷ [] = ap (λ (b : Bool). if b then s ∷ [] else []) (same_test by by refl) in
    ap commands_of (filter-append (is_by by) history (s ∷ []) ∙ ap (λ (xs : List SentCommand). filter (is_by by) history ++ xs) one)
    ∙ map-append (λ (x : SentCommand). x.command) (filter (is_by by) history) (s ∷ [])

by_other : (history : List SentCommand) (by other : ℕ) (command : Command) → other ≢ by → commands_by by (history_with history other command) ≡ commands_by by history
by_other history by other command apart =
    let s : SentCommand = record { by = other; command = command } in
    let none : filter (is_by by) (s ∷ []) ≡ [] = ap (λ (b : Bool). if b then s ∷ [] else []) (other_test other by apart) in
    ap commands_of (filter-append (is_by by) history (s ∷ []) ∙ ap (λ (xs : List SentCommand). filter (is_by by) history ++ xs) none ∙ append-nil (filter (is_by by) history))

-- a number keeps its command, and the new command has the next number
number_stays : (history : List SentCommand) (by : ℕ) (command : Command) (number : ℕ) (c : Command) → HasNumber history number c → HasNumber (history_with history by command) number c
number_stays history by command number c has =
    subst (λ (xs : List Command). slice_get xs number ≡ Some c) (sym (commands_with history by command)) (get_front (commands_of history) (command ∷ []) number c has)

pub next_number : (history : List SentCommand) (by : ℕ) (command : Command) → HasNumber (history_with history by command) (length history) command
next_number history by command =
    subst (λ (xs : List Command). slice_get xs (length history) ≡ Some command) (sym (commands_with history by command))
    (subst (λ (n : ℕ). slice_get (commands_of history ++ command ∷ []) n ≡ Some command) (length-map history (λ (s : SentCommand). s.command)) (get_last (commands_of history) command))

-- what was submitted stays so
front_stays : (history : List SentCommand) (by : ℕ) (command : Command) (next : ℕ) (submitted : List Command) → AreSubmitted history next submitted → AreSubmitted (history_with history by command) next submitted
front_stays history by command next submitted s =
    let cs = commands_of history in
    let is = commands_with history by command in
    record {
      below = subst (λ (xs : List Command). next ≤ length xs) (sym is) (let b = s.below in omega (arith, length-append cs (command ∷ []), b));
      within = subst (λ (xs : List Command). IsWithin submitted (take next xs)) (sym is)
          (subst (λ (xs : List Command). IsWithin submitted xs) (sym (take-append-le next cs (command ∷ []) s.below)) s.within);
    }

-- one more is submitted, whose number is above those before
one_more : (xs cs : List Command) (next number : ℕ) (c : Command) → next ≤ number → slice_get cs number ≡ Some c → IsWithin xs (take next cs) → IsWithin (xs ++ c ∷ []) (take (suc number) cs)
one_more xs [] next number c le at within = absurd (cc at)
one_more [] (y ∷ ys) next zero c le at within = inl (cc at, tt)
one_more [] (y ∷ ys) next (suc number) c le at within = inr (one_more [] ys zero number c (omega arith) at tt)
one_more (x ∷ xs) (y ∷ ys) zero number c le at within = absurd within
one_more (x ∷ xs) (y ∷ ys) (suc next) zero c le at within = absurd (omega arith)
one_more (x ∷ xs) (y ∷ ys) (suc next) (suc number) c le at within =
    ⊎_elim (λ (t : (x ≡ y) × IsWithin xs (take next ys)). inl (t.0, one_more xs ys next number c (omega arith) at t.1))
    (λ (t : IsWithin (x ∷ xs) (take next ys)). inr (one_more (x ∷ xs) ys next number c (omega arith) at t))
    within

-- what is within a front is within the whole
pub within_whole : (xs cs : List Command) (next : ℕ) → IsWithin xs (take next cs) → IsWithin xs cs
within_whole [] cs next within = tt
within_whole (x ∷ xs) [] zero within = absurd within
within_whole (x ∷ xs) [] (suc next) within = absurd within
within_whole (x ∷ xs) (y ∷ ys) zero within = absurd within
within_whole (x ∷ xs) (y ∷ ys) (suc next) within =
    ⊎_elim (λ (t : (x ≡ y) × IsWithin xs (take next ys)). inl (t.0, within_whole xs ys next t.1))
    (λ (t : IsWithin (x ∷ xs) (take next ys)). inr (within_whole (x ∷ xs) ys next t))
    within

-- facts of the lists of a pass
each_list : (P Q : SenderList → Type 0) → ((l : SenderList) → P l → Q l) → (ls : List SenderList) → AllByRecursion P ls → AllByRecursion Q ls
each_list P Q f [] all = tt
each_list P Q f (l ∷ ls) all = (f l all.0, each_list P Q f ls all.1)

both_lists : (P : SenderList → Type 0) (ls ms : List SenderList) → AllByRecursion P ls → AllByRecursion P ms → AllByRecursion P (ls ++ ms)
both_lists P [] ms all more = more
both_lists P (l ∷ ls) ms all more = (all.0, both_lists P ls ms all.1 more)

-- the passes after one of them has another view, and with one more
module _ (P : ℕ → QueueView → Type 0) where
  all_set : (views : List QueueView) (by : ℕ) (new : QueueView) → ((j : ℕ) (u : QueueView) → j ≢ by → get_elem? views j ≡ some u → P j u) → P by new
      → (j : ℕ) (u : QueueView) → get_elem? (set views by new) j ≡ some u → P j u
  all_set views by new others mine j u e =
      ⊎_elim
      (λ (x : (j ≡ by) × (new ≡ u)). subst (λ (y : ℕ × QueueView). P y.0 y.1) (λ i. (sym x.0 i, x.1 i)) mine)
      (λ (x : (j ≢ by) × (get_elem? views j ≡ some u)). others j u x.0 x.1)
      (at_set views by j new u e)

  all_with : (views : List QueueView) (new : QueueView) → ((j : ℕ) (u : QueueView) → get_elem? views j ≡ some u → P j u) → ((j : ℕ) → P j new)
      → (j : ℕ) (u : QueueView) → get_elem? (views ++ new ∷ []) j ≡ some u → P j u
  all_with views new each one j u e =
      ⊎_elim (λ (was : get_elem? views j ≡ some u). each j u was) (λ (same : new ≡ u). subst (P j) same (one j)) (at_snoc views new u j e)

  at_end : (l : List QueueView) (a b : QueueView) (j : ℕ) → get_elem? (l ++ a ∷ []) j ≡ some b → (get_elem? l j ≡ some b) ⊎ ((j ≡ length l) × (a ≡ b))
  at_end [] a b zero e = inr (refl, some-injective a b e)
  at_end [] a b (suc j) e = absurd (some-ne-none b (sym e))
  at_end (x ∷ xs) a b zero e = inl e
  at_end (x ∷ xs) a b (suc j) e = ⊎_elim (λ t. inl t) (λ t. inr (ap suc t.0, t.1)) (at_end xs a b j e)

  all_with_last : (views : List QueueView) (new : QueueView) → ((j : ℕ) (u : QueueView) → get_elem? views j ≡ some u → P j u) → P (length views) new
      → (j : ℕ) (u : QueueView) → get_elem? (views ++ new ∷ []) j ≡ some u → P j u
  all_with_last views new each last j u e =
      ⊎_elim (λ (was : get_elem? views j ≡ some u). each j u was)
      (λ (x : (j ≡ length views) × (new ≡ u)). subst (λ (y : ℕ × QueueView). P y.0 y.1) (λ i. (sym x.0 i, x.1 i)) last)
      (at_end views new u j e)

-- passes that know little
module _ (keeper : ℕ) (history : List SentCommand) (senders : ℕ) (seat : ℕ → ℕ) where
  keeper_pass : IsPassOf keeper history senders seat keeper (keeper_view history senders)
  keeper_pass = record { whose = λ _. refl; knows = λ _. (refl, refl); lists = tt; claim = λ e. absurd (off e); front = λ e. absurd (off e) }

  lists_pass : (pass : ℕ) (ls : List SenderList) → AllByRecursion (IsListOf history senders seat pass) ls → IsPassOf keeper history senders seat pass (lists_view ls)
  lists_pass pass ls all = record { whose = λ e. absurd (off e); knows = λ e. absurd (off e); lists = all; claim = λ e. absurd (off e); front = λ e. absurd (off e) }

  nobody : (pass : ℕ) → IsPassOf keeper history senders seat pass (lists_view [])
  nobody pass = lists_pass pass [] tt

  number_pass : (pass number : ℕ) (c : Command) → HasNumber history number c → IsPassOf keeper history senders seat pass (number_view number c)
  number_pass pass number c has = record { whose = λ e. absurd (off e); knows = λ e. absurd (off e); lists = tt; claim = λ _. has; front = λ e. absurd (off e) }

  front_pass : (pass next : ℕ) (submitted : List Command) → AreSubmitted history next submitted → IsPassOf keeper history senders seat pass (submitted_view next submitted)
  front_pass pass next submitted are = record { whose = λ e. absurd (off e); knows = λ e. absurd (off e); lists = tt; claim = λ e. absurd (off e); front = λ _. are }

-- a table begins with the keeper alone
pub begins : AreOfQueue (keeper_view [] 0 ∷ [])
begins = record { keeper = 0; history = []; senders = 0; seat = λ _. 0; fresh = λ by le. refl; each = one }
  where
    one : (pass : ℕ) (view : QueueView) → get_elem? (keeper_view [] 0 ∷ []) pass ≡ some view → IsPassOf 0 [] 0 (λ _. 0) pass view
    one zero view e = subst (IsPassOf 0 [] 0 (λ _. 0) 0) (some-injective (keeper_view [] 0) view e) (keeper_pass 0 [] 0 (λ _. 0))
    one (suc pass) view e = absurd (some-ne-none view (sym e))

-- one more pass that knows nothing
pub issues : (views : List QueueView) → AreOfQueue views → AreOfQueue (views ++ lists_view [] ∷ [])
issues views h = record {
  keeper = h.keeper;
  history = h.history;
  senders = h.senders;
  seat = h.seat;
  fresh = h.fresh;
  each = all_with (IsPassOf h.keeper h.history h.senders h.seat) views (lists_view []) h.each (nobody h.keeper h.history h.senders h.seat);
}

-- who had the lists of one pass now has those of another one
abbrev moved : (ℕ → ℕ) → ℕ → ℕ → ℕ → ℕ
moved seat from to by = if seat by == from then to else seat by

moved_there : (seat : ℕ → ℕ) (from to by : ℕ) → seat by ≡ from → moved seat from to by ≡ to
moved_there seat from to by e = ap (λ (b : Bool). if b then to else seat by) (same_test (seat by) from e)

moved_not : (seat : ℕ → ℕ) (from to by : ℕ) → seat by ≢ from → moved seat from to by ≡ seat by
moved_not seat from to by n = ap (λ (b : Bool). if b then to else seat by) (other_test (seat by) from n)

-- what was submitted is known of either pass
either_front : (history : List SentCommand) (v u : QueueView) → (v.submits ≡ true → AreSubmitted history v.next v.submitted) → (u.submits ≡ true → AreSubmitted history u.next u.submitted)
    → (b : Bool) → v.submits ≡ b → (if b then true else u.submits) ≡ true → AreSubmitted history (if b then v.next else u.next) (if b then v.submitted else u.submitted)
either_front history v u one other true is e = one is
either_front history v u one other false is e = other e

-- a pass takes in what another one knows
pub takes : (by : ℕ) (v : QueueView) (views : List QueueView) → AreOfQueue views → get_elem? views by ≡ some v
    → (other : ℕ) (u : QueueView) → ¬ (other ≡ by) → get_elem? (set views by (view_with v u)) other ≡ some u
    → AreOfQueue (set (set views by (view_with v u)) other (lists_view []))
takes by v views h at other u apart there =
    let w = view_with v u in
    let seat = moved h.seat other by in
    let P = IsPassOf h.keeper h.history h.senders seat in
    let mine = h.each by v at in
    let theirs = ⊎_elim (λ (t : (other ≡ by) × (w ≡ u)). absurd (apart t.0)) (λ (t : (other ≢ by) × (get_elem? views other ≡ some u)). h.each other u t.1) (at_set views by other w u there) in
    let stays : (j : ℕ) → j ≢ other → (l : SenderList) → IsListOf h.history h.senders h.seat j l → IsListOf h.history h.senders seat j l =
    λ j n l i. record { here = moved_not h.seat other by l.by (λ e. n (sym i.here ∙ e)) ∙ i.here; begun = i.begun; all = i.all } in
    let comes : (l : SenderList) → IsListOf h.history h.senders h.seat other l → IsListOf h.history h.senders seat by l =
    λ l i. record { here = moved_there h.seat other by l.by i.here; begun = i.begun; all = i.all } in
    let others : (j : ℕ) (x : QueueView) → j ≢ other → get_elem? views j ≡ some x → P j x =
    λ j x n e. let p = h.each j x e in record {
      whose = p.whose;
      knows = p.knows;
      lists = each_list (IsListOf h.history h.senders h.seat j) (IsListOf h.history h.senders seat j) (stays j n) x.lists p.lists;
      claim = p.claim;
      front = p.front;
    } in
    let both : P by w = record {
      whose = mine.whose;
      knows = mine.knows;
      lists = both_lists (IsListOf h.history h.senders seat by) v.lists u.lists
          (each_list (IsListOf h.history h.senders h.seat by) (IsListOf h.history h.senders seat by) (stays by (λ e. apart (sym e))) v.lists mine.lists)
          (each_list (IsListOf h.history h.senders h.seat other) (IsListOf h.history h.senders seat by) comes u.lists theirs.lists);
      claim = theirs.claim;
      front = either_front h.history v u mine.front theirs.front v.submits refl;
    } in record {
      keeper = h.keeper;
      history = h.history;
      senders = h.senders;
      seat = seat;
      fresh = h.fresh;
      each = all_set P (set views by w) other (lists_view [])
          (λ j x n e. all_set (λ (i : ℕ) (y : QueueView). i ≢ other → P i y) views by w (λ i y _ e' n'. others i y n' e') (λ _. both) j x e n)
          (nobody h.keeper h.history h.senders seat other);
    }

-- the sender of the first list, or the next sender where there is no list
record IsFirst (history : List SentCommand) (senders : ℕ) (seat : ℕ → ℕ) (by : ℕ) (ls : List SenderList) : Type 0 where
  below : first_number senders ls < senders_after senders ls
  more : senders ≤ senders_after senders ls
  apart : (j : ℕ) → j ≢ by → (l : SenderList) → IsListOf history senders seat j l → l.by ≢ first_number senders ls
  all : first_commands ls ≡ commands_by (first_number senders ls) history

is_first : (history : List SentCommand) (senders : ℕ) (seat : ℕ → ℕ) (by : ℕ) (ls : List SenderList) → ((other : ℕ) → senders ≤ other → commands_by other history ≡ [])
    → AllByRecursion (IsListOf history senders seat by) ls → IsFirst history senders seat by ls
is_first history senders seat by [] fresh all = record {
  below = omega arith;
  more = omega arith;
  apart = λ j n l i e. let b = i.begun in omega (arith, b, e);
  all = sym (fresh senders (omega arith));
}
is_first history senders seat by (m ∷ ms) fresh all = record {
  below = all.0.begun;
  more = omega arith;
  apart = λ j n l i e. n (sym i.here ∙ ap seat e ∙ all.0.here);
  all = all.0.all;
}

-- the list of a sender is in another pass
abbrev placed : (ℕ → ℕ) → ℕ → ℕ → ℕ → ℕ
placed seat by to other = if other == by then to else seat other

placed_there : (seat : ℕ → ℕ) (by to : ℕ) → placed seat by to by ≡ to
placed_there seat by to = ap (λ (b : Bool). if b then to else seat by) (same_test by by refl)

placed_not : (seat : ℕ → ℕ) (by to other : ℕ) → other ≢ by → placed seat by to other ≡ seat other
placed_not seat by to other n = ap (λ (b : Bool). if b then to else seat other) (other_test other by n)

-- what all passes know, by what the keeper knows
module _ (by : ℕ) (v : QueueView) (keeps : v.keeps ≡ true) (views : List QueueView) (h : AreOfQueue views) (at : get_elem? views by ≡ some v) where
  own : IsPassOf h.keeper h.history h.senders h.seat by v
  own = h.each by v at

  history_is : h.history ≡ v.history
  history_is = sym (own.knows keeps).0

  senders_are : h.senders ≡ v.senders
  senders_are = sym (own.knows keeps).1

  known : (j : ℕ) (u : QueueView) → get_elem? views j ≡ some u → IsPassOf by v.history v.senders h.seat j u
  known j u e =
      subst (λ (y : ℕ × (List SentCommand × ℕ)). IsPassOf y.0 y.1.0 y.1.1 h.seat j u) (λ i. (sym (own.whose keeps) i, (history_is i, senders_are i))) (h.each j u e)

  fresh : (other : ℕ) → v.senders ≤ other → commands_by other v.history ≡ []
  fresh = subst (λ (y : List SentCommand × ℕ). (other : ℕ) → y.1 ≤ other → commands_by other y.0 ≡ []) (λ i. (history_is i, senders_are i)) h.fresh

  first : IsFirst v.history v.senders h.seat by v.lists
  first = is_first v.history v.senders h.seat by v.lists fresh (known by v at).lists

  -- the sender that the keeper has taken in hands in a command
  pub sends : (c : Command)
      → AreOfQueue (set views by (keeper_view (history_with v.history (first_number v.senders v.lists) c) (senders_after v.senders v.lists)) ++ lists_view (list_with v.senders c v.lists ∷ []) ∷ [])
  sends c =
      let n = first_number v.senders v.lists in
      let history = history_with v.history n c in
      let senders = senders_after v.senders v.lists in
      let left = keeper_view history senders in
      let right = lists_view (list_with v.senders c v.lists ∷ []) in
      let seat = placed h.seat n (length (set views by left)) in
      let P = IsPassOf by history senders seat in
      let grows : (j : ℕ) → j ≢ by → (l : SenderList) → IsListOf v.history v.senders h.seat j l → IsListOf history senders seat j l =
      λ j a l i. let apart = first.apart j a l i in record {
        here = placed_not h.seat n (length (set views by left)) l.by apart ∙ i.here;
        begun = let b = i.begun in let m = first.more in omega (arith, b, m);
        all = i.all ∙ sym (by_other v.history l.by n c (λ e. apart (sym e)));
      } in
      let others : (j : ℕ) (u : QueueView) → j ≢ by → get_elem? views j ≡ some u → P j u =
      λ j u a e. let p = known j u e in record {
        whose = p.whose;
        knows = λ k. absurd (a (p.whose k));
        lists = each_list (IsListOf v.history v.senders h.seat j) (IsListOf history senders seat j) (grows j a) u.lists p.lists;
        claim = λ k. number_stays v.history n c u.number u.command (p.claim k);
        front = λ k. front_stays v.history n c u.next u.submitted (p.front k);
      } in
      let mine : IsListOf history senders seat (length (set views by left)) (list_with v.senders c v.lists) = record {
        here = placed_there h.seat n (length (set views by left));
        begun = first.below;
        all = ap (λ (xs : List Command). xs ++ c ∷ []) first.all ∙ sym (by_same v.history n c);
      } in record {
        keeper = by;
        history = history;
        senders = senders;
        seat = seat;
        fresh = λ other le.
            let b = first.below in
            let m = first.more in
            by_other v.history other n c (λ e. omega (arith, b, le, e)) ∙ fresh other (omega (arith, m, le));
        each = all_with_last P (set views by left) right (all_set P views by left others (keeper_pass by history senders seat))
            (lists_pass by history senders seat (length (set views by left)) (list_with v.senders c v.lists ∷ []) (mine, tt));
      }

  -- the rule with the same views, and one more
  with_one : (new : QueueView) → ((j : ℕ) → IsPassOf by v.history v.senders h.seat j new) → AreOfQueue (set views by v ++ new ∷ [])
  with_one new one =
      let P = IsPassOf by v.history v.senders h.seat in record {
        keeper = by;
        history = v.history;
        senders = v.senders;
        seat = h.seat;
        fresh = fresh;
        each = all_with P (set views by v) new (all_set P views by v (λ j u _ e. known j u e) (known by v at)) one;
      }

  -- a number has a command
  pub numbers : (number : ℕ) (c : Command) → HasNumber v.history number c → AreOfQueue (set views by v ++ number_view number c ∷ [])
  numbers number c has = with_one (number_view number c) (λ j. number_pass by v.history v.senders h.seat j number c has)

  -- the keeper compares what it has taken in
  pub checks : AreOfQueue (set views by v) × IsChecked v v
  checks =
      let P = IsPassOf by v.history v.senders h.seat in
      let p = known by v at in (
        record {
          keeper = by;
          history = v.history;
          senders = v.senders;
          seat = h.seat;
          fresh = fresh;
          each = all_set P views by v (λ j u _ e. known j u e) p;
        },
        record {
          same = refl;
          lists = each_list (IsListOf v.history v.senders h.seat by) (IsAllOf v.history) (λ l i. i.all) v.lists p.lists;
          front = p.front;
        },
      )

-- nothing was submitted yet
pub begins_front : (by : ℕ) (v : QueueView) (views : List QueueView) → AreOfQueue views → get_elem? views by ≡ some v → AreOfQueue (set views by v ++ submitted_view 0 [] ∷ [])
begins_front by v views h at =
    let P = IsPassOf h.keeper h.history h.senders h.seat in record {
      keeper = h.keeper;
      history = h.history;
      senders = h.senders;
      seat = h.seat;
      fresh = h.fresh;
      each = all_with P (set views by v) (submitted_view 0 []) (all_set P views by v (λ j u _ e. h.each j u e) (h.each by v at))
          (λ j. front_pass h.keeper h.history h.senders h.seat j 0 [] (record { below = omega arith; within = tt }));
    }

-- the claimed command is submitted
pub submits : (by : ℕ) (v : QueueView) → v.submits ≡ true → v.claims ≡ true → v.next ≤ v.number → (views : List QueueView) → AreOfQueue views → get_elem? views by ≡ some v
    → AreOfQueue (set views by (submitted_view (suc v.number) (v.submitted ++ v.command ∷ [])) ++ lists_view [] ∷ [])
submits by v is claims later views h at =
    let P = IsPassOf h.keeper h.history h.senders h.seat in
    let mine = h.each by v at in
    let has = mine.claim claims in
    let cs = commands_of h.history in
    let left = submitted_view (suc v.number) (v.submitted ++ v.command ∷ []) in
    let are : AreSubmitted h.history (suc v.number) (v.submitted ++ v.command ∷ []) = record {
      below = slice_get_within cs v.number v.command has;
      within = one_more v.submitted cs v.next v.number v.command later has (mine.front is).within;
    } in record {
      keeper = h.keeper;
      history = h.history;
      senders = h.senders;
      seat = h.seat;
      fresh = h.fresh;
      each = all_with P (set views by left) (lists_view []) (all_set P views by left (λ j u _ e. h.each j u e) (front_pass h.keeper h.history h.senders h.seat by (suc v.number) (v.submitted ++ v.command ∷ []) are))
          (nobody h.keeper h.history h.senders h.seat);
    }
