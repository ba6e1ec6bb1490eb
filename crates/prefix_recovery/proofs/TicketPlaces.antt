-- The place of each ticket that a run got is that of the command that was accepted for it.
use Rattle.std.proofs.Common.{◌≡◌, ◌⊎◌, inl, inr, ⊎_elim, ℕ, zero, suc, ◌+◌, ◌-◌, ◌<◌, ◌≤◌, List, [], ◌∷◌, ◌++◌, length, take, drop, get_or, set, slice_get, unwrap_or, Option, Some, None, refl, sym, ◌∙◌, ap, subst, arith, append_assoc, length-append}
use Rattle.std.proofs.lemmas.List.{append-nil, take-append-drop, get_or-append-add, length-set}
use Rattle.std.proofs.lemmas.Option.{slice_get-get_or}
use Rattle.path_db.specs.declared.command.Command.{Command}
use Rattle.path_db.specs.declared.command.Command.TheVariants.{Purge}
use Rattle.group_core.specs.Submitting.{next_place}
use Rattle.group_recovery.specs.declared.events.Event.{Event}
use Rattle.group_recovery.specs.declared.events.Event.TheVariants as event
use Rattle.group_recovery.specs.declared.events.Reply.{Reply}
use Rattle.group_recovery.specs.declared.events.Reply.TheVariants as reply
use Rattle.group_recovery.specs.Machine.{Machine, machine_of, committed_front}
use Rattle.group_recovery.specs.MachineSteps.{machine_after}
use Rattle.group_recovery.specs.Bookkeeping.{next_in}
use Rattle.group_recovery.specs.RunSteps.{RunView, ticket_at, SubmitEvent, RedeemEvent, IsRun, IsRunStep}
use Rattle.group_recovery.specs.RunLeaves.{accepted_by, accepted_in, lock_order}
use Rattle.group_recovery.proofs.MachineSteps.{machine_steps}
use Rattle.prefix_recovery.specs.Survival.{HasTicketsCommand, IsOfItsTicket, AreOfTheirTickets}

-- an element of a list of which one is taken out, and of a list with one more
of_rest : (list : List (Option ℕ)) (k j place : ℕ) → get_or (set list k None) j None ≡ Some place → get_or list j None ≡ Some place
of_rest [] k j place is = is
of_rest (x ∷ list) zero zero place is = let none : None ≡ Some place = is in absurd (cc)
of_rest (x ∷ list) zero (suc j) place is = is
of_rest (x ∷ list) (suc k) zero place is = is
of_rest (x ∷ list) (suc k) (suc j) place is = of_rest list k j place is

of_longer : (list : List (Option ℕ)) (x : Option ℕ) (j place : ℕ) → get_or (list ++ x ∷ []) j None ≡ Some place → (get_or list j None ≡ Some place) ⊎ ((j ≡ length list) × (x ≡ Some place))
of_longer [] x zero place is = inr (refl, is)
of_longer [] x (suc j) place is = let none : None ≡ Some place = is in absurd (cc)
of_longer (y ∷ list) x zero place is = inl is
of_longer (y ∷ list) x (suc j) place is =
    ⊎_elim (λ (old : get_or list j None ≡ Some place). inl old) (λ (new : (j ≡ length list) × (x ≡ Some place)). inr (let last = new.0 in omega (arith, last), new.1)) (of_longer list x j place is)

is_within : (list : List (Option ℕ)) (j place : ℕ) → get_or list j None ≡ Some place → j < length list
is_within [] j place is = let none : None ≡ Some place = is in absurd (cc)
is_within (x ∷ list) zero place is = omega arith
is_within (x ∷ list) (suc j) place is = let below = is_within list j place is in omega (arith, below)

-- the place of the next command, after a group is committed and after an event
next_published : (taken : ℕ) (machine : Machine) → next_in (committed_front machine taken) ≡ next_in machine + 0
next_published taken machine =
    let whole = ap (λ (l : List Command). length l) (take-append-drop taken machine.pending) in
    omega (arith, whole, length-append (take taken machine.pending) (drop taken machine.pending))

next_after : (e : Event) (r : Reply) (taken : ℕ) (machine : Machine) → next_in (machine_after e r taken machine) ≡ next_in machine + length (accepted_by e r)
next_after (event.Submit command) (reply.Accepted place) taken machine = omega (arith, length-append machine.pending (command ∷ []))
next_after event.Publish reply.Done taken machine = next_published taken machine
next_after event.PublishFollowed reply.Done taken machine = next_published taken machine
next_after _ _ taken machine = omega arith

next_then : (e : Event) (r : Reply) (old new : RunView) → IsRunStep e r old new → next_place new.state ≡ next_place old.state + length (accepted_by e r)
next_then e r old new step = ap next_in (machine_steps e r old new step) ∙ next_after e r old.state.taken (machine_of old.state)

module _ (start : RunView) where
  -- the place of the n-th command that is accepted
  abbrev accepted_place : ℕ → ℕ
  accepted_place n = start.state.value.place + length start.state.pending + n

  -- the tickets once these commands were accepted
  record TicketsAre (accepted : List Command) (run : RunView) : Type 0 where
    next : next_place run.state ≡ accepted_place (length accepted)
    many : length run.tickets ≡ length start.tickets + length accepted
    each : (k place : ℕ) → length start.tickets ≤ k → ticket_at k run ≡ Some place → place ≡ accepted_place (k - length start.tickets)

  tickets_at : TicketsAre [] start
  tickets_at = record {
    next = omega arith;
    many = omega arith;
    each = λ k place from is. let below = is_within start.tickets k place is in absurd (omega (arith, from, below));
  }

  -- the same tickets, or fewer
  module _ (accepted : List Command) (old new : RunView) (are : TicketsAre accepted old) (next : next_place new.state ≡ next_place old.state) where
    fewer : length new.tickets ≡ length old.tickets → ((k place : ℕ) → ticket_at k new ≡ Some place → ticket_at k old ≡ Some place) → TicketsAre accepted new
    fewer long before = record {
      next = next ∙ are.next;
      many = long ∙ are.many;
      each = λ k place from is. are.each k place from (before k place is);
    }

    unchanged : new.tickets ≡ old.tickets → TicketsAre accepted new
    unchanged same =
        fewer (ap (λ (l : List (Option ℕ)). length l) same) (λ k place is. subst (λ (l : List (Option ℕ)). get_or l k None ≡ Some place) same is)

    without : (k : ℕ) → new.tickets ≡ set old.tickets k None → TicketsAre accepted new
    without k is =
        fewer (ap (λ (l : List (Option ℕ)). length l) is ∙ length-set old.tickets k None)
        (λ j place there. of_rest old.tickets k j place (subst (λ (l : List (Option ℕ)). get_or l j None ≡ Some place) is there))

  -- one more ticket
  one_more : (accepted : List Command) (command : Command) (old new : RunView) (place : ℕ) → TicketsAre accepted old → next_place new.state ≡ next_place old.state + 1 → place ≡ next_place old.state
      → new.tickets ≡ old.tickets ++ Some place ∷ [] → TicketsAre (accepted ++ command ∷ []) new
  one_more accepted command old new place are rises at is = record {
    next = let was = are.next in omega (arith, rises, was, length-append accepted (command ∷ []));
    many = let was = are.many in ap (λ (l : List (Option ℕ)). length l) is ∙ omega (arith, was, length-append old.tickets (Some place ∷ []), length-append accepted (command ∷ []));
    each = λ k other from there.
        ⊎_elim
        (λ (before : ticket_at k old ≡ Some other). are.each k other from before)
        (λ (last : (k ≡ length old.tickets) × (Some place ≡ Some other)).
        let same : place ≡ other = ap (λ (o : Option ℕ). unwrap_or o 0) last.1 in
        let was = are.next in
        let many = are.many in
        omega (arith, same, at, was, last.0, many))
        (of_longer old.tickets (Some place) k other (subst (λ (l : List (Option ℕ)). get_or l k None ≡ Some other) is there));
  }

  same_next : {old new n : ℕ} → new ≡ old + n → n ≡ 0 → new ≡ old
  same_next is none = omega (arith, is, none)

  submitted : (accepted : List Command) (command : Command) (r : Reply) (old new : RunView) → TicketsAre accepted old → next_place new.state ≡ next_place old.state + length (accepted_by (event.Submit command) r)
      → SubmitEvent command r old new → TicketsAre (accepted ++ accepted_by (event.Submit command) r) new
  submitted accepted command (reply.Accepted place) old new are next step = one_more accepted command old new place are next step.2 step.4
  submitted accepted command (reply.Refused e) old new are next step =
      subst (λ (l : List Command). TicketsAre l new) (sym (append-nil accepted)) (unchanged accepted old new are (same_next next refl) (ap (λ (run : RunView). run.tickets) step.1))
  submitted accepted command _ old new are next step = absurd step

  redeemed : (accepted : List Command) (k : ℕ) (r : Reply) (old new : RunView) → TicketsAre accepted old → next_place new.state ≡ next_place old.state → RedeemEvent k r old new → TicketsAre accepted new
  redeemed accepted k (reply.Committed place outcome) old new are next step = without accepted old new are next k (ap (λ (run : RunView). run.tickets) step.3)
  redeemed accepted k (reply.Waiting place) old new are next step = unchanged accepted old new are next (ap (λ (run : RunView). run.tickets) step.3)
  redeemed accepted k (reply.Unknown place) old new are next step = without accepted old new are next k (ap (λ (run : RunView). run.tickets) step.3)
  redeemed accepted k reply.NoValue old new are next step = unchanged accepted old new are next (ap (λ (run : RunView). run.tickets) step.1)
  redeemed accepted k _ old new are next step = absurd step

  -- an event that accepts no command
  accepts_none : (accepted : List Command) (new : RunView) → TicketsAre accepted new → TicketsAre (accepted ++ []) new
  accepts_none accepted new are = subst (λ (l : List Command). TicketsAre l new) (sym (append-nil accepted)) are

  tickets_then : (accepted : List Command) (e : Event) (r : Reply) (old new : RunView) → TicketsAre accepted old → IsRunStep e r old new → TicketsAre (accepted ++ accepted_by e r) new
  tickets_then accepted (event.Submit command) r old new are step = submitted accepted command r old new are (next_then (event.Submit command) r old new step) step
  tickets_then accepted (event.Redeem k) r old new are step =
      accepts_none accepted new (redeemed accepted k r old new are (same_next (next_then (event.Redeem k) r old new step) refl) step)
  tickets_then accepted event.Stage r old new are step = accepts_none accepted new (unchanged accepted old new are (same_next (next_then event.Stage r old new step) refl) step.0)
  tickets_then accepted event.WriteGroup r old new are step = accepts_none accepted new (unchanged accepted old new are (same_next (next_then event.WriteGroup r old new step) refl) step.0)
  tickets_then accepted event.SyncGroup r old new are step = accepts_none accepted new (unchanged accepted old new are (same_next (next_then event.SyncGroup r old new step) refl) step.0)
  tickets_then accepted event.OpenGate r old new are step = accepts_none accepted new (unchanged accepted old new are (same_next (next_then event.OpenGate r old new step) refl) step.0)
  tickets_then accepted event.SyncGate r old new are step = accepts_none accepted new (unchanged accepted old new are (same_next (next_then event.SyncGate r old new step) refl) step.0)
  tickets_then accepted event.Publish r old new are step = accepts_none accepted new (unchanged accepted old new are (same_next (next_then event.Publish r old new step) refl) step.0)
  tickets_then accepted event.Follow r old new are step = accepts_none accepted new (unchanged accepted old new are (same_next (next_then event.Follow r old new step) refl) step.0)
  tickets_then accepted event.WriteFollowing r old new are step = accepts_none accepted new (unchanged accepted old new are (same_next (next_then event.WriteFollowing r old new step) refl) step.0)
  tickets_then accepted event.SyncFollowed r old new are step = accepts_none accepted new (unchanged accepted old new are (same_next (next_then event.SyncFollowed r old new step) refl) step.0)
  tickets_then accepted event.PublishFollowed r old new are step = accepts_none accepted new (unchanged accepted old new are (same_next (next_then event.PublishFollowed r old new step) refl) step.0)
  tickets_then accepted event.Prepare r old new are step = accepts_none accepted new (unchanged accepted old new are (same_next (next_then event.Prepare r old new step) refl) step.0)
  tickets_then accepted event.Begin r old new are step = accepts_none accepted new (unchanged accepted old new are (same_next (next_then event.Begin r old new step) refl) step.0)
  tickets_then accepted event.WriteChunk r old new are step = accepts_none accepted new (unchanged accepted old new are (same_next (next_then event.WriteChunk r old new step) refl) step.0)
  tickets_then accepted event.SyncChunks r old new are step = accepts_none accepted new (unchanged accepted old new are (same_next (next_then event.SyncChunks r old new step) refl) step.0)
  tickets_then accepted event.OpenHalf r old new are step = accepts_none accepted new (unchanged accepted old new are (same_next (next_then event.OpenHalf r old new step) refl) step.0)
  tickets_then accepted event.SyncHalf r old new are step = accepts_none accepted new (unchanged accepted old new are (same_next (next_then event.SyncHalf r old new step) refl) step.0)
  tickets_then accepted event.CloseHalf r old new are step = accepts_none accepted new (unchanged accepted old new are (same_next (next_then event.CloseHalf r old new step) refl) step.0)
  tickets_then accepted event.SyncClose r old new are step = accepts_none accepted new (unchanged accepted old new are (same_next (next_then event.SyncClose r old new step) refl) step.0)
  tickets_then accepted (event.Lookup query now) r old new are step = accepts_none accepted new (unchanged accepted old new are (same_next (next_then (event.Lookup query now) r old new step) refl) step.0)
  tickets_then accepted event.Halt r old new are step = accepts_none accepted new (unchanged accepted old new are (same_next (next_then event.Halt r old new step) refl) step.0)

  -- a redeemed ticket's command is in the order at the ticket's place
  has_command : (accepted all more : List Command) (run : RunView) (k place : ℕ) → TicketsAre accepted run → all ≡ accepted ++ more → length start.tickets ≤ k → ticket_at k run ≡ Some place
      → HasTicketsCommand start (start.state.pending ++ all) all k place
  has_command accepted all more run k place are is from there =
      let at = are.each k place from there in
      let many = are.many in
      let below = is_within run.tickets k place there in
      let long : length all ≡ length accepted + length more = ap (λ (l : List Command). length l) is ∙ length-append accepted more in
      let inside : k - length start.tickets < length all = omega (arith, from, many, below, long) in
      let index : place - start.state.value.place ≡ length start.state.pending + (k - length start.tickets) = omega (arith, at) in
      record {
        from = omega (arith, at);
        command = get_or all (k - length start.tickets) (Purge 0);
        accepted = slice_get-get_or all (k - length start.tickets) (Purge 0) inside;
        there =
            ap (λ (i : ℕ). slice_get (start.state.pending ++ all) i) index
            ∙ slice_get-get_or (start.state.pending ++ all) (length start.state.pending + (k - length start.tickets)) (Purge 0) (omega (arith, inside, length-append start.state.pending all))
            ∙ ap (λ (c : Command). Some c) (get_or-append-add start.state.pending all (k - length start.tickets) (Purge 0));
      }

  of_its_ticket : (accepted all more : List Command) (e : Event) (r : Reply) (old new : RunView) → TicketsAre accepted old → all ≡ accepted ++ more → IsRunStep e r old new
      → IsOfItsTicket start (start.state.pending ++ all) all e r
  of_its_ticket accepted all more (event.Redeem k) (reply.Committed place outcome) old new are is step = λ from. has_command accepted all more old k place are is from step.0
  of_its_ticket accepted all more _ _ old new are is step = tt

  of_their_tickets : (accepted all : List Command) (events : List Event) (replies : List Reply) (old new : RunView) → TicketsAre accepted old → all ≡ accepted ++ accepted_in events replies
      → IsRun events replies old new → AreOfTheirTickets start (start.state.pending ++ all) all events replies
  of_their_tickets accepted all [] [] old new are is run = tt
  of_their_tickets accepted all [] (r ∷ replies) old new are is run = absurd run
  of_their_tickets accepted all (e ∷ events) [] old new are is run = absurd run
  of_their_tickets accepted all (e ∷ events) (r ∷ replies) old new are is run = (
    of_its_ticket accepted all (accepted_by e r ++ accepted_in events replies) e r old run.0 are is run.1,
    of_their_tickets (accepted ++ accepted_by e r) all events replies run.0 new (tickets_then accepted e r old run.0 are run.1)
        (is ∙ sym (append_assoc accepted (accepted_by e r) (accepted_in events replies))) run.3,
  )

  pub tickets_of_run : (order : List Command) (events : List Event) (replies : List Reply) (new : RunView) → order ≡ lock_order start.state events replies → IsRun events replies start new
      → AreOfTheirTickets start order (accepted_in events replies) events replies
  tickets_of_run order events replies new is run =
      subst (λ (l : List Command). AreOfTheirTickets start l (accepted_in events replies) events replies) (sym is)
      (of_their_tickets [] (accepted_in events replies) events replies start new tickets_at refl run)
