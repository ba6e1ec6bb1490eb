-- The flusher's steps on a state.
use Rattle.std.proofs.Common.{◌≡◌, ◌≢◌, ◌⊎◌, inl, inr, ℕ, ◌+◌, ◌*◌, ◌≤◌, Bool, true, false, List, [], length, Result, Ok, Err, refl, sym, ◌∙◌, ap, subst, arith}
use Rattle.row_map.specs.Database.{RowView}
use Rattle.path_db.specs.declared.command.Command.{Command}
use Rattle.sector_dev.specs.Disk.{Disk, IsHonest}
use Rattle.sector_dev.specs.Calls.{Keeps, WriteCall, SyncCall}
use Rattle.sector_dev.proofs.Stretches.{honest_before}
use Rattle.store_layout.specs.Limits.{limits_of}
use Rattle.store_layout.specs.Layout.{journal_at, image_sectors}
use Rattle.gate_journal.specs.Commands.{command_format}
use Rattle.group_phases.specs.declared.phases.Flush.{Flush}
use Rattle.group_phases.specs.declared.phases.Flush.TheVariants.{Resting, Staged, Written, Stable, Opened, Doubtful, Durable}
use Rattle.byte_lists.specs.Sectors.{open_gate}
use Rattle.group_phases.specs.Tail.{load_bytes}
use Rattle.group_phases.specs.CommitState.{load_of, IsHeldBy}
use Rattle.group_phases.specs.HeldSteps as held
use Rattle.group_phases.proofs.Exports.{held_while_load_is_written, held_while_gate_is_opened, held_while_load_is_synced, held_while_gate_is_synced}
use Rattle.group_core.specs.declared.bookkeeping.Turn.{Turn}
use Rattle.group_core.specs.declared.error.StepError.{StepError}
use Rattle.group_core.specs.declared.values.Commit.{Commit}
use Rattle.group_core.specs.declared.error.StepError.TheVariants.{Fault}
use Rattle.group_core.specs.StepCalls.{DeviceCall, Write, StepCall}
use Rattle.group_core.specs.StateView.{StateView}
use Rattle.group_core.specs.Stops.{config_of, commit_state_of}
use Rattle.group_core.specs.Steps.{TakesGroupTurn}
use Rattle.group_core.specs.Ending.{IsDurableAt}
use Rattle.group_core.specs.Invariant.{PrivateState, IsFollowerMade, StateInvariant, DeviceInvariant, IsState}
use Rattle.group_core.proofs.Regions.{load_inside}
use Rattle.group_core.proofs.Soundness.{sound_at_work, either_stays}

-- a result, of which only the kind counts
abbrev pub failure : {E : Type 0} (T : Type 0) → E → Result T E
failure T e = Err e

abbrev pub success : {T : Type 0} (E : Type 0) → T → Result T E
success E v = Ok v

-- the state after a call of the flusher
abbrev pub flushed : StateView → Disk → Flush → Turn → Bool → StateView
flushed old disk flush group stopped = record old { disk = disk; flush = flush; group = group; stopped = stopped }

-- the phase where a value had its turn
pub flush_at : {P : Type 0} {phase : Flush} {value same : Commit P} {view new old : StateView} → view ≡ new → TakesGroupTurn phase value (success (StepError P) same) old new → view.flush ≡ phase
flush_at is taken = ap (λ (v : StateView). v.flush) (is ∙ taken.3) ∙ taken.0.at

module _ (old : StateView) (hidden : PrivateState) (has : IsState old hidden) where
  -- a phase behind which no bytes are to be written, and something is in flight; and whether the
  -- state may go on
  pub record IsLater (flush : Flush) (stopped : Bool) : Type 0 where
    pub staged : flush ≢ Resting → old.flush ≢ Resting
    pub rests : flush ≡ Resting → old.flush ≡ Resting
    pub going : stopped ≡ false → old.stopped ≡ false
    pub follower : IsFollowerMade flush (limits_of old.version) old.geometry old.value.place old.gate old.pending old.taken old.following hidden.staged_next
    pub paid : hidden.owed ≡ [] ⊎ IsDurableAt flush

  -- something is in flight
  in_flight : (phase : Flush) → old.flush ≡ phase → phase ≢ Resting → old.flush ≢ Resting
  in_flight phase turn other = subst (λ (p : Flush). p ≢ Resting) (sym turn) other

  -- nothing is owed while what is in flight is not durable
  pub none_owed : (phase : Flush) → old.flush ≡ phase → ¬ IsDurableAt phase → hidden.owed ≡ []
  none_owed phase turn other = by (subst (λ (p : Flush). hidden.owed ≡ [] ⊎ IsDurableAt p) turn has.shape.paid)
    where
      by : hidden.owed ≡ [] ⊎ IsDurableAt phase → hidden.owed ≡ []
      by (inl none) = none
      by (inr durable) = absurd (other durable)

  -- what is staged ends within the store
  pub staged_inside : (sector : ℕ) (given : List ℕ) → old.flush ≡ Staged → sector ≡ journal_at old.geometry old.half + (old.gate + 1) → given ≡ hidden.staged
      → 512 * sector + length given ≤ 512 * image_sectors old.geometry
  staged_inside sector given turn at bytes =
      omega (
        arith,
        at,
        ap length (bytes ∙ has.shape.staged (in_flight Staged turn (λ (is : Staged ≡ Resting). cc))),
        load_inside (limits_of old.version) old.geometry old.half old.value.place old.gate (load_of (commit_state_of old)) has.shape.load has.shape.room,
      )

  module _ (disk : Disk) (flush : Flush) (group : Turn) (stopped : Bool) (later : IsLater flush stopped) where
    pub flushed_shape : disk.sectors ≡ old.disk.sectors → StateInvariant (flushed old disk flush group stopped) hidden
    flushed_shape same = record {
      limits = has.shape.limits;
      sectors = omega (arith, has.shape.sectors, same);
      room = has.shape.room;
      place = has.shape.place;
      last = has.shape.last;
      few = has.shape.few;
      commands = has.shape.commands;
      tip = has.shape.tip;
      outcomes = has.shape.outcomes;
      fits = λ going. has.shape.fits (later.going going);
      known = has.shape.known;
      taken = has.shape.taken;
      owed = has.shape.owed;
      paid = later.paid;
      rests = λ rests. has.shape.rests (later.rests rests);
      load = has.shape.load;
      staged = λ staged. has.shape.staged (later.staged staged);
      follower = later.follower;
      plan = has.shape.plan;
      epoch = has.shape.epoch;
      bytes = has.shape.bytes;
      merge = λ going. has.shape.merge (later.going going);
    }

    -- a call that leaves what the state then represents
    pub flushed_state : old.flush ≢ Resting → Keeps old.disk disk
        → ((sound : DeviceInvariant old) → IsHonest old.disk → IsHeldBy (config_of old) (held.flushed (commit_state_of old) flush) sound.behind disk.history.now)
        → IsState (flushed old disk flush group stopped) hidden
    flushed_state work keeps holds = record {
      shape = flushed_shape keeps.sectors;
      sound = λ honest.
          let before = honest_before old.disk disk keeps honest in
          let with = sound_at_work old hidden has (inl work) before in
          let sound = with.sound in
          inl (record {
            sound = record { behind = sound.behind; held = holds sound before; counts = sound.counts; fits = λ going. sound.fits (later.going going) };
            streams = λ going. with.streams (later.going going);
            prepared = λ going. with.prepared (later.going going);
          });
    }

  -- the value is spent, and no call is made
  pub value_spent : (group : Turn) → IsState (record old { group = group }) hidden
  value_spent group = record {
    shape = flushed_shape old.disk old.flush group old.stopped (record { staged = λ is. is; rests = λ is. is; going = λ is. is; follower = has.shape.follower; paid = has.shape.paid }) refl;
    sound = λ honest. either_stays hidden.merge hidden.preparation old (record old { group = group })
        (λ with. record { sound = record { behind = with.sound.behind; held = with.sound.held; counts = with.sound.counts; fits = with.sound.fits }; streams = with.streams; prepared = with.prepared })
        (λ broken. record { stopped = broken.stopped; rests = broken.rests; ready = broken.ready; images = broken.images }) (has.sound honest);
  }

  module _ (disk : Disk) (sector : ℕ) (given : List ℕ) where
    -- the bytes that are written, and where
    module _ (turn : old.flush ≡ Staged) (at : sector ≡ journal_at old.geometry old.half + (old.gate + 1)) (bytes : given ≡ hidden.staged) where
      call_so : {T E : Type 0} (result : Result T E) → WriteCall sector given result old.disk disk
          → WriteCall (journal_at old.geometry old.half + (old.gate + 1)) (load_bytes command_format old.value.place (load_of (commit_state_of old))) result old.disk disk
      call_so result call = subst (λ (content : List ℕ). WriteCall (journal_at old.geometry old.half + (old.gate + 1)) content result old.disk disk) (bytes ∙ has.shape.staged (in_flight Staged turn (λ (is : Staged ≡ Resting). cc)))
          (subst (λ (n : ℕ). WriteCall n given result old.disk disk) at call)

      pub load_written : {T : Type 0} (E : Type 0) (v : T) → WriteCall sector given (success E v) old.disk disk → IsState (flushed old disk Written old.group old.stopped) hidden
      load_written {T} E v call =
          flushed_state disk Written old.group old.stopped (record { staged = λ _. in_flight Staged turn (λ (is : Staged ≡ Resting). cc); rests = λ (is : Written ≡ Resting). cc; going = λ is. is; follower = tt; paid = inl (none_owed Staged turn (λ is. is)) }) (in_flight Staged turn (λ (is : Staged ≡ Resting). cc)) call.keeps
          (λ sound honest. held_while_load_is_written T E (List RowView) Command (config_of old) (commit_state_of old) sound.behind (success E v) old.disk disk turn (call_so (success E v) call) honest sound.held)

      pub load_not_written : {E : Type 0} (T : Type 0) (e : E) (group : Turn) (stopped : Bool) → stopped ≡ true → WriteCall sector given (failure T e) old.disk disk → IsState (flushed old disk old.flush group stopped) hidden
      load_not_written {E} T e group stopped stops call =
          flushed_state disk old.flush group stopped (record { staged = λ is. is; rests = λ is. is; going = λ (is : stopped ≡ false). cc; follower = has.shape.follower; paid = has.shape.paid }) (in_flight Staged turn (λ (is : Staged ≡ Resting). cc)) call.keeps
          (λ sound honest. subst (λ (p : Flush). IsHeldBy (config_of old) (held.flushed (commit_state_of old) p) sound.behind disk.history.now) (sym turn)
          (held_while_load_is_written T E (List RowView) Command (config_of old) (commit_state_of old) sound.behind (failure T e) old.disk disk turn (call_so (failure T e) call) honest sound.held))

    module _ (turn : old.flush ≡ Stable) (at : sector ≡ journal_at old.geometry old.half + old.gate) (bytes : given ≡ open_gate) where
      gate_so : {T E : Type 0} (result : Result T E) → WriteCall sector given result old.disk disk → WriteCall (journal_at old.geometry old.half + old.gate) open_gate result old.disk disk
      gate_so result call = subst (λ (content : List ℕ). WriteCall (journal_at old.geometry old.half + old.gate) content result old.disk disk) bytes
          (subst (λ (n : ℕ). WriteCall n given result old.disk disk) at call)

      pub gate_opened : {T : Type 0} (E : Type 0) (v : T) → WriteCall sector given (success E v) old.disk disk → IsState (flushed old disk Opened old.group old.stopped) hidden
      gate_opened {T} E v call =
          flushed_state disk Opened old.group old.stopped (record { staged = λ _. in_flight Stable turn (λ (is : Stable ≡ Resting). cc); rests = λ (is : Opened ≡ Resting). cc; going = λ is. is; follower = tt; paid = inl (none_owed Stable turn (λ is. is)) }) (in_flight Stable turn (λ (is : Stable ≡ Resting). cc)) call.keeps
          (λ sound honest. held_while_gate_is_opened T E (List RowView) Command (config_of old) (commit_state_of old) sound.behind (success E v) old.disk disk turn (gate_so (success E v) call) honest sound.held)

      pub gate_doubtful : {E : Type 0} (T : Type 0) (e : E) (group : Turn) (stopped : Bool) → stopped ≡ true → WriteCall sector given (failure T e) old.disk disk → IsState (flushed old disk Doubtful group stopped) hidden
      gate_doubtful {E} T e group stopped stops call =
          flushed_state disk Doubtful group stopped (record { staged = λ _. in_flight Stable turn (λ (is : Stable ≡ Resting). cc); rests = λ (is : Doubtful ≡ Resting). cc; going = λ (is : stopped ≡ false). cc; follower = tt; paid = inl (none_owed Stable turn (λ is. is)) }) (in_flight Stable turn (λ (is : Stable ≡ Resting). cc)) call.keeps
          (λ sound honest. held_while_gate_is_opened T E (List RowView) Command (config_of old) (commit_state_of old) sound.behind (failure T e) old.disk disk turn (gate_so (failure T e) call) honest sound.held)

  module _ (disk : Disk) where
    pub load_synced : {T : Type 0} (E : Type 0) (v : T) → old.flush ≡ Written → SyncCall (success E v) old.disk disk → IsState (flushed old disk Stable old.group old.stopped) hidden
    load_synced {T} E v turn call =
        flushed_state disk Stable old.group old.stopped (record { staged = λ _. in_flight Written turn (λ (is : Written ≡ Resting). cc); rests = λ (is : Stable ≡ Resting). cc; going = λ is. is; follower = tt; paid = inl (none_owed Written turn (λ is. is)) }) (in_flight Written turn (λ (is : Written ≡ Resting). cc)) call.keeps
        (λ sound honest. held_while_load_is_synced T E (List RowView) Command (config_of old) (commit_state_of old) sound.behind (success E v) old.disk disk turn call honest sound.held)

    pub gate_synced : {T : Type 0} (E : Type 0) (v : T) → old.flush ≡ Opened → SyncCall (success E v) old.disk disk → IsState (flushed old disk Durable old.group old.stopped) hidden
    gate_synced {T} E v turn call =
        flushed_state disk Durable old.group old.stopped (record { staged = λ _. in_flight Opened turn (λ (is : Opened ≡ Resting). cc); rests = λ (is : Durable ≡ Resting). cc; going = λ is. is; follower = tt; paid = inl (none_owed Opened turn (λ is. is)) }) (in_flight Opened turn (λ (is : Opened ≡ Resting). cc)) call.keeps
        (λ sound honest. held_while_gate_is_synced T E (List RowView) Command (config_of old) (commit_state_of old) sound.behind (success E v) old.disk disk turn call honest sound.held)

    pub load_not_synced : {E : Type 0} (T : Type 0) (e : E) (group : Turn) (stopped : Bool) → stopped ≡ true → old.flush ≡ Written → SyncCall (failure T e) old.disk disk → IsState (flushed old disk old.flush group stopped) hidden
    load_not_synced {E} T e group stopped stops turn call =
        flushed_state disk old.flush group stopped (record { staged = λ is. is; rests = λ is. is; going = λ (is : stopped ≡ false). cc; follower = has.shape.follower; paid = has.shape.paid }) (in_flight Written turn (λ (is : Written ≡ Resting). cc)) call.keeps
        (λ sound honest. subst (λ (p : Flush). IsHeldBy (config_of old) (held.flushed (commit_state_of old) p) sound.behind disk.history.now) (sym turn)
        (held_while_load_is_synced T E (List RowView) Command (config_of old) (commit_state_of old) sound.behind (failure T e) old.disk disk turn call honest sound.held))

    pub gate_not_synced : {E : Type 0} (T : Type 0) (e : E) (group : Turn) (stopped : Bool) → stopped ≡ true → old.flush ≡ Opened → SyncCall (failure T e) old.disk disk → IsState (flushed old disk old.flush group stopped) hidden
    gate_not_synced {E} T e group stopped stops turn call =
        flushed_state disk old.flush group stopped (record { staged = λ is. is; rests = λ is. is; going = λ (is : stopped ≡ false). cc; follower = has.shape.follower; paid = has.shape.paid }) (in_flight Opened turn (λ (is : Opened ≡ Resting). cc)) call.keeps
        (λ sound honest. subst (λ (p : Flush). IsHeldBy (config_of old) (held.flushed (commit_state_of old) p) sound.behind disk.history.now) (sym turn)
        (held_while_gate_is_synced T E (List RowView) Command (config_of old) (commit_state_of old) sound.behind (failure T e) old.disk disk turn call honest sound.held))

-- a write that failed is the call of its step, where the state before it is seen as `old`
pub call_fails : {T E P : Type 0} (N : Type 0) {e : E} {error : StepError P} {sector : ℕ} {given : List ℕ} {disk : Disk} (view old : StateView) (which : StateView → DeviceCall) → view ≡ old → error ≡ Fault → which view ≡ Write sector given
    → WriteCall sector given (failure T e) view.disk disk → StepCall {P = P} {N = N} (which old) (Err error) old.disk disk
call_fails {T} {E} {P} N {e} {error} {sector} {given} {disk} view old which is fault same call =
    subst (λ (x : StepError P). StepCall {P = P} {N = N} (which old) (Err x) old.disk disk) (sym fault)
    (subst (λ (w : StateView). StepCall {P = P} {N = N} (which w) (Err Fault) w.disk disk) is
    (subst (λ (made : DeviceCall). StepCall {P = P} {N = N} made (Err Fault) view.disk disk) (sym same) (record {
      keeps = call.keeps;
      faults = call.faults;
      lands = λ honest. let lands = call.lands honest in record { landed = lands.landed; size = lands.size; done = lands.done; history = lands.history };
    })))

-- and one that succeeded
pub call_made : {T N : Type 0} (E P : Type 0) {v : T} (next : N) {sector : ℕ} {given : List ℕ} {disk : Disk} (view old : StateView) (which : StateView → DeviceCall) → view ≡ old → which view ≡ Write sector given
    → WriteCall sector given (success E v) view.disk disk → StepCall {P = P} {N = N} (which old) (Ok next) old.disk disk
call_made {T} {N} E P {v} next {sector} {given} {disk} view old which is same call =
    subst (λ (w : StateView). StepCall {P = P} {N = N} (which w) (Ok next) w.disk disk) is
    (subst (λ (made : DeviceCall). StepCall {P = P} {N = N} made (Ok next) view.disk disk) (sym same) (record {
      keeps = call.keeps;
      faults = call.faults;
      lands = λ honest. let lands = call.lands honest in record { landed = lands.landed; size = lands.size; done = lands.done; history = lands.history };
    }))
