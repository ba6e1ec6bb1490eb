-- Publishing on a state.
use Rattle.std.proofs.Common.{◌≡◌, ◌≢◌, inl, ℕ, zero, suc, ◌+◌, ◌*◌, ◌/◌, ◌≤◌, true, List, [], ◌∷◌, ◌++◌, length, take, drop, refl, sym, ◌∙◌, ap, subst, arith, length-take, length-drop}
use Rattle.std.specs.List.{AllByRecursion}
use Rattle.row_map.specs.Database.{RowView}
use Rattle.path_db.specs.declared.command.Command.{Command}
use Rattle.store_layout.specs.declared.half.Half.{Half}
use Rattle.store_layout.specs.Limits.{limits_of, latest}
use Rattle.store_layout.specs.Group.{group_sectors}
use Rattle.store_layout.specs.Journal.{gate_behind}
use Rattle.store_layout.specs.Layout.{other}
use Rattle.store_layout.specs.StoreFormat.{db_after}
use Rattle.store_layout.specs.Checkpoint.{Checkpoint}
use Rattle.store_layout.specs.Opening.{StoreValue}
use Rattle.store_layout.specs.StoreValues.{value_after}
use Rattle.store_layout.proofs.Exports.{folds_in_parts}
use Rattle.gate_journal.specs.Commands.{command_format}
use Rattle.store_open.specs.PathStores.{store_format}
use Rattle.group_phases.specs.declared.phases.Flush.{Flush}
use Rattle.group_phases.specs.declared.phases.Flush.TheVariants.{Resting, Durable}
use Rattle.group_phases.specs.declared.phases.Check.{Check}
use Rattle.group_phases.specs.declared.phases.Check.TheVariants.{Ready, Sealed, Planned, Laid, Switched, SwitchFailed, Live, Closing, CloseFailed}
use Rattle.group_phases.specs.Tail.{GroupOrSeal, Commands, Seal, load_bytes}
use Rattle.group_phases.specs.BasePart.{BasePart, FoldsTo, MayBeSealed}
use Rattle.group_phases.specs.CheckpointerSteps.{base_switched}
use Rattle.group_phases.specs.CommitState.{load_by, load_of, seals, tail_of, checkpoint_pair_of}
use Rattle.group_phases.specs.HeldTurns.{behind_group, behind_seal}
use Rattle.group_phases.proofs.Exports.{held_when_group_is_published, held_when_seal_is_published, length-load}
use Rattle.group_core.specs.declared.bookkeeping.Turn.{Turn}
use Rattle.group_core.specs.StateView.{StateView}
use Rattle.group_core.specs.Stops.{config_of, commit_state_of}
use Rattle.group_core.specs.Steps.{spent}
use Rattle.group_core.specs.Publishing.{group_committed}
use Rattle.group_core.specs.Showing.{IsFrontOf}
use Rattle.group_core.specs.Invariant.{PrivateState, FitsLoad, MayBePending, FitArea, CountsAt, StateInvariant, DeviceInvariant, IsState}
use Rattle.group_core.proofs.Soundness.{sound_at_work}
use Rattle.group_core.proofs.KeptOutcomes.{take_more, committed_kept}

-- a list in two parts
pub take_drop : {A : Type 0} (n : ℕ) (list : List A) → take n list ++ drop n list ≡ list
take_drop zero list = refl
take_drop (suc n) [] = refl
take_drop (suc n) (x ∷ list) = ap (λ (l : List _). x ∷ l) (take_drop n list)

pub all_drop : {A : Type 0} (P : A → Type 0) (n : ℕ) (list : List A) → AllByRecursion P list → AllByRecursion P (drop n list)
all_drop P zero list all = all
all_drop P (suc n) [] all = all
all_drop P (suc n) (x ∷ list) all = all_drop P n list all.1

pub load_some : (taken : ℕ) (pending : List Command) → 1 ≤ taken → load_by taken pending ≡ Commands (take taken pending)
load_some zero pending some = absurd (omega arith)
load_some (suc n) pending some = refl

-- behind no command nothing is owed
pub owed_none : (owed commands : List Command) → IsFrontOf owed (take 0 commands) → owed ≡ []
owed_none [] commands is = refl
owed_none (command ∷ owed) commands is = absurd cc

-- what a published group brings
record Shown : Type 0 where
  value : StoreValue (List RowView)
  list : List Command
  pending : List Command
  gate : ℕ
  place : ℕ

module _ (old : StateView) (hidden : PrivateState) (has : IsState old hidden) (turn : old.flush ≡ Durable) (group : Turn) where
  in_flight : old.flush ≢ Resting
  in_flight = subst (λ (p : Flush). p ≢ Resting) (sym turn) (λ (is : Durable ≡ Resting). cc)

  module _ (some : 1 ≤ old.taken) where
    abbrev front : List Command
    front = take old.taken old.pending

    abbrev rest : List Command
    rest = drop old.taken old.pending

    load_is : load_of (commit_state_of old) ≡ Commands front
    load_is = load_some old.taken old.pending some

    fits_load : FitsLoad (limits_of old.version) old.geometry old.value.place old.gate (Commands front)
    fits_load = subst (FitsLoad (limits_of old.version) old.geometry old.value.place old.gate) load_is has.shape.load

    -- how many sectors were written
    pub sectors_staged : length hidden.staged ≡ 512 * (group_sectors command_format front + 1)
    sectors_staged = ap length (has.shape.staged in_flight)
        ∙ ap (λ (load : GroupOrSeal Command). length (load_bytes command_format old.value.place load)) load_is ∙ length-load command_format old.value.place (Commands front)

    pub gate_inside : old.gate + length hidden.staged / 512 + 2 ≤ old.geometry.journal
    gate_inside = omega (arith, sectors_staged, fits_load.1)

    abbrev published : Shown → StateView
    published shown = record old { value = shown.value; shown = shown.list; pending = shown.pending; taken = 0; flush = Resting; group = group; gate = shown.gate }

    abbrev shown_exactly : Shown
    shown_exactly = record {
      value = value_after store_format old.value front;
      list = old.shown ++ front;
      pending = rest;
      gate = gate_behind command_format old.gate front;
      place = hidden.place + old.taken;
    }

    long : length front ≡ old.taken
    long = omega (arith, length-take old.taken old.pending, has.shape.taken)

    abbrev after : PrivateState
    after = record hidden { place = hidden.place + old.taken; owed = [] }

    group_shape : StateInvariant (published shown_exactly) after
    group_shape = record {
      limits = has.shape.limits;
      sectors = has.shape.sectors;
      room = omega (arith, fits_load.1);
      place = omega (arith, has.shape.place, long);
      last = omega (arith, has.shape.last, has.shape.taken, long, length-drop old.taken old.pending);
      few = omega (arith, has.shape.few, length-drop old.taken old.pending);
      commands = all_drop (MayBePending old.version) old.taken old.pending has.shape.commands;
      tip = has.shape.tip ∙ ap (db_after store_format old.value.db) (sym (take_drop old.taken old.pending)) ∙ folds_in_parts (List RowView) Command store_format old.value.db front rest;
      outcomes = committed_kept old.value old.pending old.kept old.taken has.shape.taken has.shape.outcomes;
      fits = λ going n inside.
          subst (FitArea old) (ap (db_after store_format old.value.db) (sym (take_more old.taken n old.pending)) ∙ folds_in_parts (List RowView) Command store_format old.value.db front (take n rest))
          (has.shape.fits going (old.taken + n) (omega (arith, inside, length-drop old.taken old.pending, has.shape.taken)));
      known = has.shape.known;
      taken = omega arith;
      owed = refl;
      paid = inl refl;
      rests = λ _. refl;
      load = tt;
      staged = λ (other : Resting ≢ Resting). absurd (other refl);
      follower = tt;
      plan = has.shape.plan;
      epoch = has.shape.epoch;
      bytes = has.shape.bytes;
      merge = has.shape.merge;
    }

    group_state : IsState (published shown_exactly) after
    group_state = record {
      shape = group_shape;
      sound = λ honest.
          let with = sound_at_work old hidden has (inl in_flight) honest in
          let sound = with.sound in
          inl (record {
            sound = record {
              behind = behind_group (commit_state_of old) sound.behind;
              held = held_when_group_is_published (List RowView) Command (config_of old) (commit_state_of old) sound.behind old.disk.history.now turn some sound.held;
              counts = sound.counts;
              fits = sound.fits;
            };
            streams = with.streams;
            prepared = with.prepared;
          });
    }

    pub group_state_so : (value : StoreValue (List RowView)) (list pending owed : List Command) (gate place : ℕ) → value ≡ value_after store_format old.value front → list ≡ old.shown ++ front → pending ≡ rest
        → gate ≡ old.gate + length hidden.staged / 512 → place ≡ hidden.place + old.taken → owed ≡ []
        → IsState (published (record { value = value; list = list; pending = pending; gate = gate; place = place })) (record hidden { place = place; owed = owed })
    group_state_so value list pending owed gate place value_is list_is pending_is gate_is place_is owed_is =
        subst (λ (l : List Command). IsState (published (record { value = value; list = list; pending = pending; gate = gate; place = place })) (record hidden { place = place; owed = l }))
        (sym owed_is)
        (subst (λ (shown : Shown). IsState (published shown) (record hidden { place = shown.place; owed = [] }))
        (λ i. record { value = sym value_is i; list = sym list_is i; pending = sym pending_is i; gate = sym gate_so i; place = sym place_is i }) group_state)
      where
        gate_so : gate ≡ gate_behind command_format old.gate front
        gate_so = omega (arith, gate_is, sectors_staged)

    -- which is what the definition says
    pub published_is : (value : StoreValue (List RowView)) (list pending : List Command) (gate : ℕ) → value ≡ value_after store_format old.value front → list ≡ old.shown ++ front → pending ≡ rest
        → gate ≡ old.gate + length hidden.staged / 512
        → record old { value = value; shown = list; pending = pending; taken = 0; flush = Resting; group = spent old.group; gate = gate } ≡ group_committed old
    published_is value list pending gate value_is list_is pending_is gate_is = λ i. record old {
      value = value_is i;
      shown = list_is i;
      pending = pending_is i;
      taken = 0;
      flush = Resting;
      group = spent old.group;
      gate = gate_so i;
    }
      where
        gate_so : gate ≡ gate_behind command_format old.gate front
        gate_so = omega (arith, gate_is, sectors_staged)

  module _ (none : old.taken ≡ 0) where
    load_none : load_of (commit_state_of old) ≡ Seal
    load_none = ap (λ (n : ℕ). load_by n old.pending) none

    -- a seal is durable only where the other half is ready
    ready : DeviceInvariant old → old.check ≡ Ready
    ready sound = by_check old.check refl (subst (λ (load : GroupOrSeal Command). MayBeSealed old.check (seals Durable load)) load_none
        (subst (λ (p : Flush). MayBeSealed old.check (seals p (load_of (commit_state_of old)))) turn sound.held.seal))
      where
        by_check : (check : Check) → old.check ≡ check → MayBeSealed old.check true → old.check ≡ Ready
        by_check Ready is may = is
        by_check Sealed is may = absurd (cc (subst (λ (p : Check). MayBeSealed p true) is may))
        by_check Planned is may = absurd (cc (subst (λ (p : Check). MayBeSealed p true) is may))
        by_check Laid is may = absurd (cc (subst (λ (p : Check). MayBeSealed p true) is may))
        by_check Switched is may = absurd (cc (subst (λ (p : Check). MayBeSealed p true) is may))
        by_check SwitchFailed is may = absurd (cc (subst (λ (p : Check). MayBeSealed p true) is may))
        by_check Live is may = absurd (cc (subst (λ (p : Check). MayBeSealed p true) is may))
        by_check Closing is may = absurd (cc (subst (λ (p : Check). MayBeSealed p true) is may))
        by_check CloseFailed is may = absurd (cc (subst (λ (p : Check). MayBeSealed p true) is may))

    -- the checkpoint to be there: what is committed
    abbrev next_of : DeviceInvariant old → Checkpoint (List RowView)
    next_of sound = record {
      head = record { version = latest; epoch = sound.behind.new.head.epoch + 1; place = old.value.place };
      db = old.value.db;
    }

    ready_part : (sound : DeviceInvariant old) → BasePart Ready (config_of old) (checkpoint_pair_of (commit_state_of old) sound.behind) old.written old.disk.history.now
    ready_part sound = subst (λ (p : Check). BasePart p (config_of old) (checkpoint_pair_of (commit_state_of old) sound.behind) old.written old.disk.history.now) (ready sound) sound.held.base

    folds : (sound : DeviceInvariant old) → FoldsTo store_format (base_switched (checkpoint_pair_of (commit_state_of old) sound.behind) (tail_of (commit_state_of old) sound.behind) (next_of sound))
    folds sound = record {
      place = sound.held.place;
      db = sound.held.db;
      epoch = omega arith;
      tail = (ready_part sound).tail;
      version = (ready_part sound).area.known;
    }

    pub seal_state : (half : Half) → half ≡ other old.half → IsState (record old { flush = Resting; group = group; check = Sealed; half = half; gate = 0 }) hidden
    seal_state half is = subst (λ (h : Half). IsState (record old { flush = Resting; group = group; check = Sealed; half = h; gate = 0 }) hidden) (sym is) (record {
      shape = record {
        limits = has.shape.limits;
        sectors = has.shape.sectors;
        room = omega (arith, has.shape.limits);
        place = has.shape.place;
        last = has.shape.last;
        few = has.shape.few;
        commands = has.shape.commands;
        tip = has.shape.tip;
        outcomes = has.shape.outcomes;
        fits = has.shape.fits;
        known = has.shape.known;
        taken = has.shape.taken;
        owed = has.shape.owed;
        paid = inl (owed_none hidden.owed old.pending (subst (λ (n : ℕ). IsFrontOf hidden.owed (take n old.pending)) none has.shape.owed));
        rests = λ _. none;
        load = subst (FitsLoad (limits_of old.version) old.geometry old.value.place 0) (sym load_none) tt;
        staged = λ (not_resting : Resting ≢ Resting). absurd (not_resting refl);
        follower = tt;
        plan = has.shape.plan;
        epoch = tt;
        bytes = has.shape.bytes;
        merge = λ going (is : Sealed ≡ Planned). absurd (cc);
      };
      sound = λ honest.
          let with = sound_at_work old hidden has (inl in_flight) honest in
          let sound = with.sound in
          inl (record {
            sound = record {
              behind = behind_seal (commit_state_of old) sound.behind (next_of sound);
              held = held_when_seal_is_published (List RowView) Command (config_of old) (commit_state_of old) sound.behind old.disk.history.now (next_of sound) turn none (ready sound) sound.held (folds sound);
              counts = subst (λ (p : Check). CountsAt p old.epoch old.checkpoint sound.behind.old sound.behind.new) (ready sound) sound.counts;
              fits = λ going. has.shape.fits going 0 (omega arith);
            };
            streams = λ going (is : Sealed ≡ Planned). absurd (cc);
            prepared = λ going contents of. with.prepared going contents (λ (is : old.check ≡ Sealed). let rests = ready sound in absurd (cc));
          });
    })
