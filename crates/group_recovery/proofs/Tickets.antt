-- The tickets that a run holds, with one more and with one less.
use Rattle.std.proofs.Common.{◌≡◌, ◌≢◌, ◌⊎◌, inl, inr, ℕ, zero, suc, ◌+◌, ◌<◌, ◌≤◌, true, false, List, [], ◌∷◌, ◌++◌, length, map, Option, Some, None, IsSome, Ok, eqb, refl, sym, ◌∙◌, ap, subst, arith, get_or-set_same, get_or-set_other, length-append}
use Rattle.std.specs.Prelude.{slice_set}
use Rattle.std.proofs.Math.ListN.{get_or-append}
use Rattle.std.proofs.Math.Seq.{get_or-append_seam}
use Rattle.std.proofs.lemmas.List.{map-append, map-set, get_or_past, length-set}
use Rattle.std.proofs.lemmas.Bool.Decides.{eqb_tells}
use Rattle.path_db.specs.declared.command.Command.{Command}
use Rattle.path_db.specs.Command.{outcome_of}
use Rattle.path_db.specs.declared.outcome.Outcome.{Outcome}
use Rattle.group_core.specs.declared.ticket.Ticket.{Ticket}
use Rattle.group_core.specs.StateView.{StateView}
use Rattle.row_map.specs.Database.{RowView}
use Rattle.store_layout.specs.Opening.{StoreValue}
use Rattle.group_core.specs.declared.ticket.Receipt.{Receipt}
use Rattle.group_core.specs.declared.ticket.Redeemed.TheVariants.{Committed, Waiting, Unknown}
use Rattle.group_recovery.specs.declared.events.Reply.TheVariants as reply
use Rattle.group_core.specs.Redeeming.{outcome_at, redeemed, Redeems}
use Rattle.group_core.specs.Submitting.{next_place, accepted_rows, with_pending_command, IsTicketOf, Submits}
use Rattle.group_recovery.specs.RunSteps.{ticket_at, redeemed_at, RedeemEvent, SubmitEvent}
use Rattle.group_recovery.specs.Holding.{held_at, ticket_place, run_view, IsOwnTicket, HoldsTickets, AllRedeemed}
use Rattle.group_core.proofs.Exports.{there_then, beside_put, beside_taken}

same_or_not : (i k : ℕ) → (i ≡ k) ⊎ (i ≢ k)
same_or_not i k = by (eqb_tells i k)
  where
    by : ((eqb i k ≡ true) × (i ≡ k)) ⊎ ((eqb i k ≡ false) × (i ≢ k)) → (i ≡ k) ⊎ (i ≢ k)
    by (inl same) = inl same.1
    by (inr other) = inr other.1

below_or_past : (i n : ℕ) → (i < n) ⊎ (n ≤ i)
below_or_past i zero = inr (omega arith)
below_or_past zero (suc n) = inl (omega arith)
below_or_past (suc i) (suc n) = elim (below_or_past i n) [ inl less ↦ inl (omega arith) | inr more ↦ inr (omega arith) ]

no_ticket : {ticket : Ticket} → (let none : Option Ticket = None in none) ≡ Some ticket → ⊥
no_ticket is = cc

-- there is a ticket only below the end of the list
inside : (tickets : List (Option Ticket)) (k : ℕ) (ticket : Ticket) → held_at k tickets ≡ Some ticket → k < length tickets
inside tickets k ticket at = by (below_or_past k (length tickets))
  where
    by : (k < length tickets) ⊎ (length tickets ≤ k) → k < length tickets
    by (inl less) = less
    by (inr past) = absurd (no_ticket (sym (get_or_past tickets k None past) ∙ at))

-- the places are those of the tickets
pub place_at : (tickets : List (Option Ticket)) (k : ℕ) (ticket : Ticket) (view : StateView) → held_at k tickets ≡ Some ticket → ticket_at k (run_view view tickets) ≡ Some ticket.place
place_at [] k ticket view at = absurd (no_ticket at)
place_at (t ∷ tickets) zero ticket view at = ap ticket_place at
place_at (t ∷ tickets) (suc k) ticket view at = place_at tickets k ticket view at

-- a ticket is put back where it was taken out
pub back_again : (tickets : List (Option Ticket)) (k : ℕ) (back : Option Ticket) → held_at k tickets ≡ back → slice_set (slice_set tickets k None) k back ≡ tickets
back_again [] k back at = refl
back_again (t ∷ tickets) zero back at = ap (λ (x : Option Ticket). x ∷ tickets) (sym at)
back_again (t ∷ tickets) (suc k) back at = ap (λ (l : List (Option Ticket)). t ∷ l) (back_again tickets k back at)

-- where no outcome is kept, no ticket is left
pub all_redeemed : (tickets : List (Option Ticket)) (view : StateView) → HoldsTickets tickets view → view.kept ≡ [] → AllRedeemed tickets
all_redeemed tickets view holds none k = by (held_at k tickets) refl
  where
    nothing_kept : (ticket : Ticket) → IsSome (outcome_at ticket.place view.kept) → ⊥
    nothing_kept ticket kept =
        let found : IsSome (outcome_at ticket.place []) = subst (λ (l : List (ℕ × Outcome)). IsSome (outcome_at ticket.place l)) none kept in
        cc

    by : (slot : Option Ticket) → held_at k tickets ≡ slot → held_at k tickets ≡ None
    by None at = at
    by (Some ticket) at = absurd (nothing_kept ticket (holds.each k ticket at).kept)

-- the k-th ticket is taken out, and the others stay
module _ (tickets : List (Option Ticket)) (k : ℕ) where
  still_there : (i : ℕ) (ticket : Ticket) → held_at i (slice_set tickets k None) ≡ Some ticket → (i ≢ k) × (held_at i tickets ≡ Some ticket)
  still_there i ticket at = by (same_or_not i k)
    where
      none_there : held_at k (slice_set tickets k None) ≡ None
      none_there = by_place (below_or_past k (length tickets))
        where
          by_place : (k < length tickets) ⊎ (length tickets ≤ k) → held_at k (slice_set tickets k None) ≡ None
          by_place (inl less) = get_or-set_same tickets k None None less
          by_place (inr past) = get_or_past (slice_set tickets k None) k None (omega (arith, past, length-set tickets k None))

      by : (i ≡ k) ⊎ (i ≢ k) → (i ≢ k) × (held_at i tickets ≡ Some ticket)
      by (inl same) = absurd (no_ticket (sym none_there ∙ ap (λ (j : ℕ). held_at j (slice_set tickets k None)) (sym same) ∙ at))
      by (inr other) = (other, sym (get_or-set_other tickets k i None None other) ∙ at)

  pub holds_without : (ticket : Ticket) (view : StateView) → held_at k tickets ≡ Some ticket → HoldsTickets tickets view → HoldsTickets (slice_set tickets k None) (redeemed ticket view)
  holds_without ticket view here holds = record {
    each = λ i other at.
        let there = still_there i other at in
        let own = holds.each i other there.1 in
        let apart : other.place ≢ ticket.place = λ same. there.0 (holds.apart i k other ticket there.1 here same) in
        record {
          home = own.home;
          before = own.before;
          kept = subst IsSome (sym (beside_taken ticket.place other.place apart view.kept)) own.kept;
        };
    apart = λ i j first second at_first at_second same. holds.apart i j first second (still_there i first at_first).1 (still_there j second at_second).1 same;
  }

  pub places_without : (ticket : Ticket) (view : StateView) → run_view (redeemed ticket view) (slice_set tickets k None) ≡ redeemed_at k ticket.place (run_view view tickets)
  places_without ticket view = λ i. record { state = redeemed ticket view; tickets = map-set ticket_place tickets k None i }

-- one more ticket, after the others
module _ (tickets : List (Option Ticket)) (last : Ticket) where
  abbrev more : List (Option Ticket)
  more = tickets ++ Some last ∷ []

  record IsBefore (i : ℕ) (ticket : Ticket) : Type 0 where
    below : i < length tickets
    at : held_at i tickets ≡ Some ticket

  record IsLast (i : ℕ) (ticket : Ticket) : Type 0 where
    place : i ≡ length tickets
    same : ticket ≡ last

  there_or_last : (i : ℕ) (ticket : Ticket) → held_at i more ≡ Some ticket → IsBefore i ticket ⊎ IsLast i ticket
  there_or_last i ticket at = by (below_or_past i (length tickets))
    where
      by_end : (i ≡ length tickets) ⊎ (i ≢ length tickets) → length tickets ≤ i → IsBefore i ticket ⊎ IsLast i ticket
      by_end (inl end) past =
          let there : held_at i more ≡ Some last = ap (λ (j : ℕ). held_at j more) end ∙ get_or-append_seam tickets (Some last) [] None in
          inr (record { place = end; same = let both : Some ticket ≡ Some last = sym at ∙ there in cc })
      by_end (inr other) past = absurd (no_ticket (sym (get_or_past more i None (omega (arith, past, other, length-append tickets (Some last ∷ [])))) ∙ at))

      by : (i < length tickets) ⊎ (length tickets ≤ i) → IsBefore i ticket ⊎ IsLast i ticket
      by (inl less) = inl (record { below = less; at = sym (get_or-append tickets (Some last ∷ []) None i less) ∙ at })
      by (inr past) = by_end (same_or_not i (length tickets)) past

  module _ (command : Command) (view : StateView) (its : IsTicketOf command view last) (holds : HoldsTickets tickets view) where
    next_then : next_place (with_pending_command command view) ≡ next_place view + 1
    next_then = omega (arith, length-append view.pending (command ∷ []))

    own_before : (i : ℕ) (ticket : Ticket) → held_at i tickets ≡ Some ticket → IsOwnTicket (with_pending_command command view) ticket
    own_before i ticket at =
        let own = holds.each i ticket at in
        let before : ticket.place < next_place view = own.before in
        let apart : ticket.place ≢ next_place view = omega arith in
        record {
          home = own.home;
          before = omega (arith, own.before, next_then);
          kept = subst IsSome (sym (beside_put (next_place view) ticket.place apart view.kept (outcome_of (accepted_rows view) command))) own.kept;
        }

    own_last : IsOwnTicket (with_pending_command command view) last
    own_last = record {
      home = its.home;
      before = omega (arith, its.place, next_then);
      kept = subst IsSome (sym (ap (λ (p : ℕ). outcome_at p (with_pending_command command view).kept) its.place ∙ there_then (next_place view) view.kept (outcome_of (accepted_rows view) command))) refl;
    }

    each_more : (i : ℕ) (ticket : Ticket) → IsBefore i ticket ⊎ IsLast i ticket → IsOwnTicket (with_pending_command command view) ticket
    each_more i ticket (inl before) = own_before i ticket before.at
    each_more i ticket (inr end) = subst (λ (t : Ticket). IsOwnTicket (with_pending_command command view) t) (sym end.same) own_last

    below_last : (i : ℕ) (ticket : Ticket) → held_at i tickets ≡ Some ticket → ticket.place ≡ last.place → ⊥
    below_last i ticket at same = let own = holds.each i ticket at in omega (arith, own.before, its.place, same)

    apart_more : (i j : ℕ) (first second : Ticket) → IsBefore i first ⊎ IsLast i first → IsBefore j second ⊎ IsLast j second → first.place ≡ second.place → i ≡ j
    apart_more i j first second (inl a) (inl b) same = holds.apart i j first second a.at b.at same
    apart_more i j first second (inl a) (inr b) same = absurd (below_last i first a.at (same ∙ ap (λ (t : Ticket). t.place) b.same))
    apart_more i j first second (inr a) (inl b) same = absurd (below_last j second b.at (sym same ∙ ap (λ (t : Ticket). t.place) a.same))
    apart_more i j first second (inr a) (inr b) same = a.place ∙ sym b.place

    pub holds_more : HoldsTickets more (with_pending_command command view)
    holds_more = record {
      each = λ i ticket at. each_more i ticket (there_or_last i ticket at);
      apart = λ i j first second at_first at_second same. apart_more i j first second (there_or_last i first at_first) (there_or_last j second at_second) same;
    }

  pub places_more : map ticket_place more ≡ map ticket_place tickets ++ Some last.place ∷ []
  places_more = map-append ticket_place tickets (Some last ∷ [])

-- A ticket that was taken out, and the result of redeeming it.
module _ (tickets left : List (Option Ticket)) (k : ℕ) (ticket : Ticket) (old new : StateView) (here : Some ticket ≡ held_at k tickets) (left_is : left ≡ slice_set tickets k None) where
  redeemed_holds : new ≡ redeemed ticket old → HoldsTickets tickets old → HoldsTickets left new
  redeemed_holds is holds =
      subst (HoldsTickets left) (sym is) (subst (λ (l : List (Option Ticket)). HoldsTickets l (redeemed ticket old)) (sym left_is) (holds_without tickets k ticket old (sym here) holds))

  redeemed_view : new ≡ redeemed ticket old → run_view new left ≡ redeemed_at k ticket.place (run_view old tickets)
  redeemed_view is = (λ i. run_view (is i) (left_is i)) ∙ places_without tickets k ticket old

  ticket_here : ticket_at k (run_view old tickets) ≡ Some ticket.place
  ticket_here = place_at tickets k ticket old (sym here)

  module _ {N : Type 0} (tells : StoreValue (List RowView) → N → Type 0) where
    pub committed_holds : (receipt : Receipt N) → Redeems tells ticket (Committed receipt) old new → HoldsTickets tickets old → HoldsTickets left new
    committed_holds receipt step holds = redeemed_holds step.2 holds

    pub committed_so : (receipt : Receipt N) → Redeems tells ticket (Committed receipt) old new → RedeemEvent k (reply.Committed receipt.place receipt.outcome) (run_view old tickets) (run_view new left)
    committed_so receipt step =
        subst (λ (p : ℕ). RedeemEvent k (reply.Committed p receipt.outcome) (run_view old tickets) (run_view new left)) (sym step.1.place)
        (ticket_here, step.0, step.1.outcome.kept, redeemed_view step.2)

    pub unknown_holds : (place : ℕ) → Redeems tells ticket (Unknown place) old new → HoldsTickets tickets old → HoldsTickets left new
    unknown_holds place step holds = redeemed_holds step.4 holds

    pub unknown_so : (place : ℕ) → Redeems tells ticket (Unknown place) old new → RedeemEvent k (reply.Unknown place) (run_view old tickets) (run_view new left)
    unknown_so place step =
        subst (λ (p : ℕ). RedeemEvent k (reply.Unknown p) (run_view old tickets) (run_view new left)) (sym step.3)
        (ticket_here, step.1, step.2, redeemed_view step.4)

    module _ (again : List (Option Ticket)) (back : Ticket) (again_is : again ≡ slice_set left k (Some back)) where
      again_same : back ≡ ticket → again ≡ tickets
      again_same is = again_is ∙ (λ i. slice_set (left_is i) k (Some (is i))) ∙ back_again tickets k (Some ticket) (sym here)

      pub waiting_holds : Redeems tells ticket (Waiting back) old new → HoldsTickets tickets old → HoldsTickets again new
      waiting_holds step holds =
          subst (HoldsTickets again) (sym step.4) (subst (λ (l : List (Option Ticket)). HoldsTickets l old) (sym (again_same step.3)) holds)

      pub waiting_so : (place : ℕ) → place ≡ back.place → Redeems tells ticket (Waiting back) old new → RedeemEvent k (reply.Waiting place) (run_view old tickets) (run_view new again)
      waiting_so place place_is step =
          subst (λ (p : ℕ). RedeemEvent k (reply.Waiting p) (run_view old tickets) (run_view new again)) (sym (place_is ∙ ap (λ (t : Ticket). t.place) step.3))
          (ticket_here, step.1, step.2, λ i. run_view (step.4 i) (again_same step.3 i))

-- a command that was accepted, and its ticket, after the others
module _ (tickets more_tickets : List (Option Ticket)) (ticket : Ticket) (command copy : Command) (old new : StateView) (more_is : more_tickets ≡ tickets ++ Some ticket ∷ []) (copy_is : copy ≡ command)
    (submits : Submits copy (Ok ticket) old new) where
  step : Submits command (Ok ticket) old new
  step = subst (λ (c : Command). Submits c (Ok ticket) old new) copy_is submits

  pub accepted_holds : HoldsTickets tickets old → HoldsTickets more_tickets new
  accepted_holds holds =
      subst (HoldsTickets more_tickets) (sym step.3)
      (subst (λ (l : List (Option Ticket)). HoldsTickets l (with_pending_command command old)) (sym more_is) (holds_more tickets ticket command old step.2 holds))

  pub accepted_so : (place : ℕ) → place ≡ ticket.place → SubmitEvent command (reply.Accepted place) (run_view old tickets) (run_view new more_tickets)
  accepted_so place place_is =
      subst (λ (p : ℕ). SubmitEvent command (reply.Accepted p) (run_view old tickets) (run_view new more_tickets)) (sym place_is)
      (step.0, step.1, step.2.place, step.3, ap (λ (l : List (Option Ticket)). map ticket_place l) more_is ∙ places_more tickets ticket)
