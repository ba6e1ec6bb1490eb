-- Staging on a state.
use Rattle.std.proofs.Common.{◌≡◌, ◌≢◌, inl, inr, ℕ, zero, suc, ◌+◌, ◌<◌, ◌≤◌, List, [], ◌∷◌, length, take, get_or, refl, sym, ◌∙◌, ap, subst, arith, length-append, length-take, add-one}
use Rattle.std.proofs.Math.Seq.{take-suc}
use Rattle.std.proofs.lemmas.Grind.{flat_map-append}
use Rattle.std.proofs.lemmas.List.{append-nil}
use Rattle.std.specs.List.{AllByRecursion}
use Rattle.row_map.specs.Database.{RowView}
use Rattle.path_db.specs.declared.command.Command.{Command}
use Rattle.store_layout.specs.Limits.{Limits, limits_of}
use Rattle.store_layout.specs.CommandFormat.{IsAllowed}
use Rattle.store_layout.specs.Group.{record_encoding, records_of, CanBeGroup}
use Rattle.gate_journal.specs.Commands.{command_format}
use Rattle.group_phases.specs.declared.phases.Flush.TheVariants.{Resting, Staged}
use Rattle.group_phases.specs.Tail.{Commands, Seal, load_bytes}
use Rattle.group_phases.specs.CommitState.{load_by, IsHeldBy}
use Rattle.group_phases.specs.HeldCommands.{staged}
use Rattle.group_phases.proofs.Exports.{held_when_group_is_staged, held_when_seal_is_staged}
use Rattle.group_core.specs.declared.bookkeeping.Turn.{Turn}
use Rattle.group_core.specs.StateView.{StateView}
use Rattle.group_core.specs.Stops.{config_of, commit_state_of}
use Rattle.group_core.specs.Staging.{FitOneGroup, IsLongestFront, MayStage, TakesFront, TakesSeal, Takes}
use Rattle.group_core.specs.Invariant.{PrivateState, FitsLoad, MayBePending, StateInvariant, DeviceInvariant, IsState}
use Rattle.group_core.specs.Showing.{IsFrontOf}
use Rattle.group_core.proofs.Soundness.{sound_going}
use Rattle.group_core.proofs.Publish.{load_some, owed_none}

-- ---- the longest front

-- how many bytes the records of the first n commands have
abbrev front_bytes : List Command → ℕ → ℕ
front_bytes commands n = length (records_of command_format (take n commands))

-- one command more
pub front_more : (commands : List Command) (n : ℕ) (d : Command) → n < length commands
    → front_bytes commands (n + 1) ≡ front_bytes commands n + length (record_encoding command_format (get_or commands n d))
front_more commands n d inside =
    ap (λ (k : ℕ). front_bytes commands k) (add-one n)
    ∙ ap (λ (list : List Command). length (records_of command_format list)) (take-suc commands n d inside)
    ∙ ap length (flat_map-append (record_encoding command_format) (take n commands) (get_or commands n d ∷ []))
    ∙ length-append (records_of command_format (take n commands)) (records_of command_format (get_or commands n d ∷ []))
    ∙ ap (λ (list : List ℕ). front_bytes commands n + length list) (append-nil (record_encoding command_format (get_or commands n d)))

-- a shorter front has no more
front_short : (commands : List Command) (n m : ℕ) → n ≤ m → front_bytes commands n ≤ front_bytes commands m
front_short commands zero m few = omega arith
front_short commands (suc n) zero few = absurd (omega (arith, few))
front_short [] (suc n) (suc m) few = omega arith
front_short (command ∷ commands) (suc n) (suc m) few =
    let one = record_encoding command_format command in
    omega (arith, front_short commands n m (omega arith), length-append one (records_of command_format (take n commands)), length-append one (records_of command_format (take m commands)))

module _ (limits : Limits) (commands : List Command) where
  -- and fits one group where the longer one does
  fit_shorter : (n m : ℕ) → n ≤ m → FitOneGroup limits (take m commands) → FitOneGroup limits (take n commands)
  fit_shorter n m few fit = record {
    most = omega (arith, length-take n commands, length-take m commands, fit.most);
    short = omega (arith, front_short commands n m few, fit.short);
  }

  -- the front where one command more does not fit
  pub longest_before : (n : ℕ) → n < length commands → FitOneGroup limits (take n commands) → ¬ FitOneGroup limits (take (n + 1) commands)
      → IsLongestFront limits commands n
  longest_before n inside fit over = record {
    inside = omega arith;
    fit = fit;
    longest = λ m there longer.
        let none : n < m → ⊥ = λ (more : n < m). over (fit_shorter (n + 1) m (omega arith) longer) in
        omega (arith, none);
  }

-- ---- the state

-- pending commands are allowed, and so is each front of them
pub pending_allowed : (version : ℕ) (commands : List Command) → AllByRecursion (MayBePending version) commands
    → AllByRecursion (IsAllowed command_format (limits_of version)) commands
pending_allowed version [] all = tt
pending_allowed version (command ∷ commands) all = (all.0.allowed, pending_allowed version commands all.1)

pub all_take : {A : Type 0} (P : A → Type 0) (n : ℕ) (list : List A) → AllByRecursion P list → AllByRecursion P (take n list)
all_take P zero list all = tt
all_take P (suc n) [] all = tt
all_take P (suc n) (x ∷ list) all = (all.0, all_take P n list all.1)

-- commands are to be staged, or a seal where they are none
pub takes_front : (view : StateView) (taken : ℕ) → Takes view taken → taken ≢ 0 → TakesFront view taken
takes_front view taken (inl takes) some = takes
takes_front view taken (inr takes) some = absurd (some takes.none)

pub takes_seal : (view : StateView) (taken : ℕ) → Takes view taken → taken ≡ 0 → TakesSeal view taken
takes_seal view taken (inl takes) none = absurd (omega (arith, takes.some, none))
takes_seal view taken (inr takes) none = takes

module _ (old : StateView) (hidden : PrivateState) (has : IsState old hidden) (may : MayStage old) where
  owed : hidden.owed ≡ []
  owed = owed_none hidden.owed old.pending (subst (λ (n : ℕ). IsFrontOf hidden.owed (take n old.pending)) (has.shape.rests may.rests) has.shape.owed)

  module _ (taken : ℕ) (group : Turn) (bytes : List ℕ) where
    abbrev with_load : StateView
    with_load = record old { taken = taken; flush = Staged; group = group }

    abbrev with_bytes : PrivateState
    with_bytes = record hidden { staged = bytes }

    -- what is in flight then, and its bytes
    staged_shape : taken ≤ length old.pending → FitsLoad (limits_of old.version) old.geometry old.value.place old.gate (load_by taken old.pending)
        → bytes ≡ load_bytes command_format old.value.place (load_by taken old.pending)
        → StateInvariant with_load with_bytes
    staged_shape inside load same = record {
      limits = has.shape.limits;
      sectors = has.shape.sectors;
      room = has.shape.room;
      place = has.shape.place;
      last = has.shape.last;
      few = has.shape.few;
      commands = has.shape.commands;
      tip = has.shape.tip;
      outcomes = has.shape.outcomes;
      fits = has.shape.fits;
      known = has.shape.known;
      taken = inside;
      owed = subst (λ (list : List Command). IsFrontOf list (take taken old.pending)) (sym owed) refl;
      paid = inl owed;
      rests = λ (is : Staged ≡ Resting). cc;
      load = load;
      staged = λ _. same;
      follower = tt;
      plan = has.shape.plan;
      epoch = has.shape.epoch;
      bytes = has.shape.bytes;
      merge = has.shape.merge;
    }

    staged_state : StateInvariant with_load with_bytes → ((sound : DeviceInvariant old) → IsHeldBy (config_of old) (staged (commit_state_of old) taken) sound.behind old.disk.history.now)
        → IsState with_load with_bytes
    staged_state shape holds = record {
      shape = shape;
      sound = λ honest.
          let with = sound_going old hidden has may.going honest in
          let sound = with.sound in
          inl (record { sound = record { behind = sound.behind; held = holds sound; counts = sound.counts; fits = sound.fits }; streams = with.streams; prepared = with.prepared });
    }

module _ (old : StateView) (hidden : PrivateState) (has : IsState old hidden) where
  -- a group is staged
  module _ (taken : ℕ) (takes : TakesFront old taken) where
    long : length (take taken old.pending) ≡ taken
    long = omega (arith, length-take taken old.pending, takes.front.inside)

    can : CanBeGroup command_format (limits_of old.version) old.value.place (take taken old.pending)
    can = record {
      some = omega (arith, long, takes.some);
      most = takes.front.fit.most;
      short = takes.front.fit.short;
      last = omega (arith, long, takes.front.inside, has.shape.last);
      allowed = pending_allowed old.version (take taken old.pending) (all_take (MayBePending old.version) taken old.pending has.shape.commands);
    }

    group_is : load_by taken old.pending ≡ Commands (take taken old.pending)
    group_is = load_some taken old.pending takes.some

    pub group_staged : (group : Turn) (bytes : List ℕ) → bytes ≡ load_bytes command_format hidden.place (Commands (take taken old.pending))
        → IsState (record old { taken = taken; flush = Staged; group = group }) (record hidden { staged = bytes })
    group_staged group bytes same =
        staged_state old hidden has takes.may taken group bytes
        (staged_shape old hidden has takes.may taken group bytes takes.front.inside
        (subst (FitsLoad (limits_of old.version) old.geometry old.value.place old.gate) (sym group_is) (can, takes.room))
        (same ∙ ap (λ (place : ℕ). load_bytes command_format place (Commands (take taken old.pending))) has.shape.place
        ∙ ap (load_bytes command_format old.value.place) (sym group_is)))
        (λ sound. held_when_group_is_staged (List RowView) Command (config_of old) (commit_state_of old) sound.behind old.disk.history.now taken takes.may.rests takes.some
        (record { inside = takes.front.inside; can = can; room = takes.room }) sound.held)

  -- and a seal
  pub seal_staged : (taken : ℕ) → TakesSeal old taken → (group : Turn) (bytes : List ℕ) → bytes ≡ load_bytes command_format hidden.place Seal
      → IsState (record old { taken = taken; flush = Staged; group = group }) (record hidden { staged = bytes })
  seal_staged taken takes group bytes same =
      subst (λ (n : ℕ). IsState (record old { taken = n; flush = Staged; group = group }) (record hidden { staged = bytes })) (sym takes.none)
      (staged_state old hidden has takes.full.may 0 group bytes
      (staged_shape old hidden has takes.full.may 0 group bytes (omega arith) tt (same ∙ ap (λ (place : ℕ). load_bytes command_format place Seal) has.shape.place))
      (λ sound. held_when_seal_is_staged (List RowView) Command (config_of old) (commit_state_of old) sound.behind old.disk.history.now takes.full.may.rests takes.ready
      (omega (arith, has.shape.last)) sound.held))
