-- Accepting a command on a state.
use Rattle.std.proofs.Common.{◌≡◌, ◌⊎◌, inl, inr, ℕ, zero, suc, ◌+◌, ◌-◌, ◌*◌, ◌<◌, ◌≤◌, max, true, false, List, [], ◌∷◌, ◌++◌, length, take, drop, Ok, refl, sym, ◌∙◌, ap, subst, arith, length-append, length-drop}
use Rattle.std.specs.List.{AllByRecursion}
use Rattle.std.specs.Ordering.{nat_cmp}
use Rattle.std.specs.BTreeMap.{insert_entry}
use Rattle.std.proofs.lemmas.List.{take-append-le, take_all}
use Rattle.std.proofs.Math.Nat.{eq-or-lt_of_le}
use Rattle.row_map.specs.Database.{RowView, rows_len}
use Rattle.path_db.specs.declared.command.Command.{Command}
use Rattle.path_db.specs.Command.{database_after, outcome_of}
use Rattle.path_records.specs.RecordLaws.{WrittenRowsAreCounted}
use Rattle.store_layout.specs.Limits.{Limits, limits_of}
use Rattle.store_layout.specs.Journal.{gate_behind}
use Rattle.store_layout.specs.Layout.{Geometry}
use Rattle.store_layout.specs.StoreFormat.{db_after}
use Rattle.store_layout.proofs.Exports.{folds_in_parts}
use Rattle.gate_journal.specs.Commands.{command_format}
use Rattle.store_open.specs.PathStores.{store_format}
use Rattle.group_phases.specs.declared.phases.Flush.{Flush}
use Rattle.group_phases.specs.declared.phases.Flush.TheVariants.{Following, Followed, DurableFollowed}
use Rattle.group_phases.specs.Tail.{Commands, load_bytes}
use Rattle.group_phases.specs.CommitState.{load_by, load_of}
use Rattle.group_phases.proofs.Exports.{take_front, drop_front, held_when_accepted}
use Rattle.group_core.specs.StateView.{StateView}
use Rattle.group_core.specs.Stops.{config_of, commit_state_of}
use Rattle.group_core.specs.Invariant.{PrivateState, FitsLoad, HasFollowerBytes, IsFollowerMade, MayBePending, FitArea, StateInvariant, IsState}
use Rattle.group_core.specs.Keeping.{Outcomes}
use Rattle.group_core.specs.Showing.{IsFrontOf}
use Rattle.group_core.specs.Submitting.{next_place, accepted_rows, MayBeSubmitted, CheckpointHasRoom, IsTicketOf, Submits}
use Rattle.group_core.specs.declared.ticket.Ticket.{Ticket}
use Rattle.group_core.proofs.KeptOutcomes.{one_more_kept}
use Rattle.group_core.proofs.Soundness.{either_stays}

-- what follows stays where commands come after it
bytes_before_more : (limits : Limits) (geometry : Geometry) (place gate : ℕ) (pending more : List Command) (taken following : ℕ) (bytes : List ℕ)
    → HasFollowerBytes limits geometry place gate pending taken following bytes → HasFollowerBytes limits geometry place gate (pending ++ more) taken following bytes
bytes_before_more limits geometry place gate pending more taken following bytes has = record {
  some = has.some;
  many = has.many;
  inside = omega (arith, has.inside, length-append pending more);
  load = subst (λ (list : List Command). FitsLoad limits geometry (place + length list) (gate_behind command_format gate list) (Commands (take following (drop taken (pending ++ more))))) (sym front_same)
      (subst (λ (list : List Command). FitsLoad limits geometry (place + length (take taken pending)) (gate_behind command_format gate (take taken pending)) (Commands list)) (sym next_same) has.load);
  made = has.made
      ∙ ap (λ (list : List Command). load_bytes command_format (place + length (take taken pending)) (Commands list)) (sym next_same)
      ∙ ap (λ (list : List Command). load_bytes command_format (place + length list) (Commands (take following (drop taken (pending ++ more))))) (sym front_same);
}
  where
    front_same : take taken (pending ++ more) ≡ take taken pending
    front_same = take_front taken pending more (omega (arith, has.inside))

    next_same : take following (drop taken (pending ++ more)) ≡ take following (drop taken pending)
    next_same = ap (take following) (drop_front taken pending more (omega (arith, has.inside)))
        ∙ take_front following (drop taken pending) more (omega (arith, has.inside, length-drop taken pending))

follower_before_more : (phase : Flush) (limits : Limits) (geometry : Geometry) (place gate : ℕ) (pending more : List Command) (taken following : ℕ) (bytes : List ℕ)
    → IsFollowerMade phase limits geometry place gate pending taken following bytes → IsFollowerMade phase limits geometry place gate (pending ++ more) taken following bytes
follower_before_more Following limits geometry place gate pending more taken following bytes has = bytes_before_more limits geometry place gate pending more taken following bytes has
follower_before_more Followed limits geometry place gate pending more taken following bytes has = bytes_before_more limits geometry place gate pending more taken following bytes has
follower_before_more DurableFollowed limits geometry place gate pending more taken following bytes has = bytes_before_more limits geometry place gate pending more taken following bytes has
follower_before_more _ limits geometry place gate pending more taken following bytes has = tt

-- what accepting a command touches
record Touched : Type 0 where
  pending : List Command
  kept : Outcomes
  tip : List RowView

all_pushed : {A : Type 0} (P : A → Type 0) (list : List A) (last : A) → AllByRecursion P list → P last → AllByRecursion P (list ++ last ∷ [])
all_pushed P [] last all its = (its, tt)
all_pushed P (x ∷ list) last all its = (all.0, all_pushed P list last all.1 its)

load_front : {A : Type 0} (n : ℕ) (front behind : List A) → n ≤ length front → load_by n (front ++ behind) ≡ load_by n front
load_front zero front behind inside = refl
load_front (suc n) front behind inside = ap Commands (take-append-le (suc n) front behind inside)

module _ (old : StateView) (hidden : PrivateState) (has : IsState old hidden) where
  abbrev touched : Touched → StateView
  touched left = record old { pending = left.pending; kept = left.kept }

  -- nothing was accepted
  pub refused_state : (pending : List Command) (kept : Outcomes) (tip : List RowView) → pending ≡ old.pending → kept ≡ old.kept → tip ≡ hidden.tip
      → IsState (record old { pending = pending; kept = kept }) (record hidden { tip = tip })
  refused_state pending kept tip pending_is kept_is tip_is =
      subst (λ (left : Touched). IsState (touched left) (record hidden { tip = left.tip }))
      (λ i. record { pending = sym pending_is i; kept = sym kept_is i; tip = sym tip_is i }) has

  -- the rows of all accepted commands have room
  pub tip_fits : WrittenRowsAreCounted → old.stopped ≡ false → 32 + rows_len hidden.tip ≤ 512 * old.geometry.checkpoint
  tip_fits counted going =
      let all : take (length old.pending) old.pending ≡ old.pending = take_all (length old.pending) old.pending (omega arith) in
      let fits = subst (λ (l : List Command). FitArea old (db_after store_format old.value.db l)) all (has.shape.fits going (length old.pending) (omega arith)) in
      omega (arith, fits, counted (db_after store_format old.value.db old.pending), ap rows_len has.shape.tip)

  -- the outcome of a command more is kept, which is that on the rows after all commands that are
  -- accepted
  abbrev with_outcome : Command → Outcomes
  with_outcome command = insert_entry nat_cmp old.kept (next_place old) (outcome_of (accepted_rows old) command)

  kept_so : (command : Command) (place : ℕ) (kept : Outcomes) → place ≡ next_place old → kept ≡ insert_entry nat_cmp old.kept place (outcome_of hidden.tip command)
      → kept ≡ with_outcome command
  kept_so command place kept place_is kept_is =
      kept_is ∙ ap (λ (n : ℕ). insert_entry nat_cmp old.kept n (outcome_of hidden.tip command)) place_is
      ∙ ap (λ (rows : List RowView). insert_entry nat_cmp old.kept (next_place old) (outcome_of rows command)) has.shape.tip

  module _ (command : Command) (counted : WrittenRowsAreCounted) (may : MayBeSubmitted command old) (may_be : MayBePending old.version command) (room : CheckpointHasRoom command old) where
    abbrev more : List Command
    more = old.pending ++ command ∷ []

    one_more : length more ≡ length old.pending + 1
    one_more = length-append old.pending (command ∷ [])

    rows_are : db_after store_format old.value.db more ≡ database_after (db_after store_format old.value.db old.pending) command
    rows_are = folds_in_parts (List RowView) Command store_format old.value.db old.pending (command ∷ [])

    all_fit : FitArea old (db_after store_format old.value.db more)
    all_fit = omega (arith, room, counted (db_after store_format old.value.db more), ap rows_len rows_are)

    front_fits : (n : ℕ) → (n ≡ length more) ⊎ (n < length more) → FitArea old (db_after store_format old.value.db (take n more))
    front_fits n (inl is) = subst (λ (l : List Command). FitArea old (db_after store_format old.value.db l)) (sym (ap (λ (k : ℕ). take k more) is ∙ take_all (length more) more (omega arith))) all_fit
    front_fits n (inr less) =
        let inside : n ≤ length old.pending = omega (arith, less, one_more) in
        subst (λ (l : List Command). FitArea old (db_after store_format old.value.db l)) (sym (take-append-le n old.pending (command ∷ []) inside)) (has.shape.fits may.going n inside)

    load_is : load_by old.taken more ≡ load_of (commit_state_of old)
    load_is = load_front old.taken old.pending (command ∷ []) has.shape.taken

    accepted_shape : StateInvariant (record old { pending = more; kept = with_outcome command }) (record hidden { tip = database_after hidden.tip command })
    accepted_shape = record {
      limits = has.shape.limits;
      sectors = has.shape.sectors;
      room = has.shape.room;
      place = has.shape.place;
      last = omega (arith, may.place, one_more);
      few = omega (arith, may.few, one_more);
      commands = all_pushed (MayBePending old.version) old.pending command has.shape.commands may_be;
      tip = ap (λ (rows : List RowView). database_after rows command) has.shape.tip ∙ sym rows_are;
      outcomes = one_more_kept old.value old.pending old.kept has.shape.outcomes command;
      fits = λ going n inside. front_fits n (eq-or-lt_of_le inside);
      known = has.shape.known;
      taken = omega (arith, has.shape.taken, one_more);
      owed = subst (IsFrontOf hidden.owed) (sym (take-append-le old.taken old.pending (command ∷ []) has.shape.taken)) has.shape.owed;
      paid = has.shape.paid;
      rests = has.shape.rests;
      load = subst (FitsLoad (limits_of old.version) old.geometry old.value.place old.gate) (sym load_is) has.shape.load;
      staged = λ flying. has.shape.staged flying ∙ ap (load_bytes command_format old.value.place) (sym load_is);
      follower = follower_before_more old.flush (limits_of old.version) old.geometry old.value.place old.gate old.pending (command ∷ []) old.taken old.following hidden.staged_next has.shape.follower;
      plan = has.shape.plan;
      epoch = has.shape.epoch;
      bytes = has.shape.bytes;
      merge = has.shape.merge;
    }

    accepted_exactly : IsState (record old { pending = more; kept = with_outcome command }) (record hidden { tip = database_after hidden.tip command })
    accepted_exactly = record {
      shape = accepted_shape;
      sound = λ honest. either_stays hidden.merge hidden.preparation old (record old { pending = more; kept = with_outcome command })
          (λ with. record {
            sound = record {
              behind = with.sound.behind;
              held = held_when_accepted (List RowView) Command (config_of old) (commit_state_of old) with.sound.behind old.disk.history.now command with.sound.held;
              counts = with.sound.counts;
              fits = with.sound.fits;
            };
            streams = with.streams;
            prepared = with.prepared;
          })
          (λ broken. let both : false ≡ true = sym may.going ∙ broken.stopped in absurd (cc)) (has.sound honest);
    }

    -- a command more is pending, and its outcome is kept
    pub accepted_state : (place : ℕ) (pending : List Command) (kept : Outcomes) (tip : List RowView) → place ≡ next_place old → pending ≡ more
        → kept ≡ insert_entry nat_cmp old.kept place (outcome_of hidden.tip command) → tip ≡ database_after hidden.tip command
        → IsState (record old { pending = pending; kept = kept }) (record hidden { tip = tip })
    accepted_state place pending kept tip place_is pending_is kept_is tip_is =
        let so = kept_so command place kept place_is kept_is in
        subst (λ (left : Touched). IsState (touched left) (record hidden { tip = left.tip }))
        (λ i. record { pending = sym pending_is i; kept = sym so i; tip = sym tip_is i }) accepted_exactly

  pub may : (view : StateView) → old ≡ view → (command : Command) → MayBeSubmitted command view → MayBeSubmitted command old
  may view is command so = subst (MayBeSubmitted command) (sym is) so

  -- which is what the definition says
  module _ (command : Command) (may_now : MayBeSubmitted command old) where
    pub has_room : WrittenRowsAreCounted → (most : ℕ) (tip : List RowView) → tip ≡ database_after hidden.tip command → rows_len tip ≤ max most (rows_len hidden.tip)
        → most ≡ 512 * old.geometry.checkpoint - 32 → CheckpointHasRoom command old
    has_room counted most tip tip_is within most_is =
        let after : rows_len tip ≡ rows_len (database_after (accepted_rows old) command) = ap rows_len tip_is ∙ ap (λ (rows : List RowView). rows_len (database_after rows command)) has.shape.tip in
        omega (arith, within, after, tip_fits counted may_now.going, most_is, has.shape.limits.least_checkpoint)

  pub accepted_so : (view : StateView) → old ≡ view → (command : Command) → MayBeSubmitted command old → (ticket : Ticket) (pending : List Command) (kept : Outcomes)
      → IsTicketOf command old ticket → CheckpointHasRoom command old → pending ≡ old.pending ++ command ∷ []
      → kept ≡ insert_entry nat_cmp old.kept ticket.place (outcome_of hidden.tip command)
      → Submits command (Ok ticket) view (record old { pending = pending; kept = kept })
  accepted_so view is command may_now ticket pending kept ticket_is room pending_is kept_is =
      subst (λ (v : StateView). Submits command (Ok ticket) v (record old { pending = pending; kept = kept })) is
      (may_now, room, ticket_is, λ i. record old { pending = pending_is i; kept = kept_so command ticket.place kept ticket_is.place kept_is i })
