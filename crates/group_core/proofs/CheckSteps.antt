-- The checkpointer's steps on a state.
use Rattle.std.proofs.Common.{◌≡◌, ◌≢◌, inl, inr, ℕ, ◌+◌, ◌*◌, ◌≤◌, ◌++◌, Bool, true, false, List, [], ◌∷◌, length, take, drop, Option, Result, refl, sym, ◌∙◌, ap, subst, arith}
use Rattle.std.proofs.lemmas.Bool.{eqb-true, eqb-false}
use Rattle.std.specs.List.{AllByRecursion}
use Rattle.byte_lists.specs.Content.{part}
use Rattle.row_map.specs.Database.{RowView}
use Rattle.path_db.specs.declared.command.Command.{Command}
use Rattle.sector_dev.specs.Disk.{Disk, IsHonest}
use Rattle.sector_dev.specs.Calls.{Keeps, WriteCall, SyncCall}
use Rattle.sector_dev.proofs.Stretches.{honest_before, honest_after}
use Rattle.store_layout.specs.Limits.{AreAsLarge, limits_of, latest}
use Rattle.store_layout.specs.CommandFormat.{IsAllowed}
use Rattle.store_layout.specs.Journal.{gate_behind}
use Rattle.store_layout.specs.Layout.{Geometry, other, area_at, gate_at}
use Rattle.store_layout.specs.Checkpoint.{Checkpoint, checkpoint_encoding}
use Rattle.store_layout.proofs.Exports.{later_allow_more}
use Rattle.gate_journal.specs.Commands.{command_format}
use Rattle.ckpt_pair.specs.Rows.{rows_format}
use Rattle.ckpt_stream.specs.Merge.{MergeView, encoding_if_any}
use Rattle.group_phases.specs.declared.phases.Check.{Check}
use Rattle.group_phases.specs.declared.phases.Check.TheVariants.{Ready, Sealed, Planned, Laid, Switched, SwitchFailed, Live, Closing, CloseFailed}
use Rattle.byte_lists.specs.Sectors.{open_gate, closed_gate}
use Rattle.group_phases.specs.declared.phases.Flush.{Flush}
use Rattle.group_phases.specs.declared.phases.Flush.TheVariants.{Following, Followed, DurableFollowed}
use Rattle.group_phases.specs.Tail.{GroupOrSeal, Commands, Seal}
use Rattle.group_phases.specs.Halves.{HasCheckpoint}
use Rattle.group_phases.specs.CommitState.{load_of, IsHeldBy}
use Rattle.group_phases.specs.HeldChecks as held
use Rattle.group_phases.proofs.Exports.{held_while_chunk_is_written, held_while_chunks_are_synced, held_while_half_is_opened, held_while_half_is_synced, held_while_half_is_closed, held_while_close_is_synced, held_under_the_new_version}
use Rattle.group_core.specs.declared.bookkeeping.Turn.{Turn}
use Rattle.group_core.specs.declared.error.StepError.{StepError}
use Rattle.group_core.specs.declared.phases.AtPlan.{AtPlan}
use Rattle.group_core.specs.declared.values.Commit.{Commit}
use Rattle.group_core.specs.StateView.{StateView}
use Rattle.group_core.specs.Stops.{config_of, commit_state_of}
use Rattle.group_core.specs.Steps.{is_whole, TakesPlanTurn, TakesChunkTurn}
use Rattle.group_core.specs.Invariant.{PrivateState, FitsLoad, HasFollowerBytes, IsFollowerMade, MayBePending, HasPlan, HasNextEpoch, CountsAt, StateInvariant, DeviceInvariant, DeviceInvariantWith, IsState}
use Rattle.group_core.specs.Merging.{HasMerge, IsUnderWay, Streams}
use Rattle.group_core.proofs.Soundness.{sound_at_work, either_stays, unread}
use Rattle.group_core.proofs.FlushSteps.{success, failure}

-- the state after a call of the checkpointer
abbrev pub checked : StateView → Disk → Check → ℕ → Turn → Bool → StateView
checked old disk check written plan stopped = record old { disk = disk; check = check; written = written; plan = plan; stopped = stopped }

-- what limits allow, larger ones do
module _ (small large : ℕ) (grows : small ≤ large) where
  larger : AreAsLarge (limits_of small) (limits_of large)
  larger = later_allow_more small large grows

  pub pending_larger : (commands : List Command) → AllByRecursion (MayBePending small) commands → AllByRecursion (MayBePending large) commands
  pending_larger [] all = tt
  pending_larger (command ∷ more) all = (
    record { within = all.0.within; allowed = command_format.grows (limits_of small) (limits_of large) (command_format.encoding command) command larger all.0.allowed },
    pending_larger more all.1,
  )

  allowed_larger : (commands : List Command) → AllByRecursion (IsAllowed command_format (limits_of small)) commands → AllByRecursion (IsAllowed command_format (limits_of large)) commands
  allowed_larger [] all = tt
  allowed_larger (command ∷ more) all =
      (command_format.grows (limits_of small) (limits_of large) (command_format.encoding command) command larger all.0, allowed_larger more all.1)

  pub load_larger : (geometry : Geometry) (place gate : ℕ) (load : GroupOrSeal Command) → FitsLoad (limits_of small) geometry place gate load → FitsLoad (limits_of large) geometry place gate load
  load_larger geometry place gate (Commands commands) fits = (
    record {
      some = fits.0.some;
      most = omega (arith, fits.0.most, larger.most);
      short = fits.0.short;
      last = fits.0.last;
      allowed = allowed_larger commands fits.0.allowed;
    },
    fits.1,
  )
  load_larger geometry place gate Seal fits = tt

  -- and what follows
  bytes_larger : (geometry : Geometry) (place gate : ℕ) (pending : List Command) (taken following : ℕ) (bytes : List ℕ)
      → HasFollowerBytes (limits_of small) geometry place gate pending taken following bytes → HasFollowerBytes (limits_of large) geometry place gate pending taken following bytes
  bytes_larger geometry place gate pending taken following bytes has = record {
    some = has.some;
    many = has.many;
    inside = has.inside;
    load = load_larger geometry (place + length (take taken pending)) (gate_behind command_format gate (take taken pending)) (Commands (take following (drop taken pending))) has.load;
    made = has.made;
  }

  pub follower_larger : (phase : Flush) (geometry : Geometry) (place gate : ℕ) (pending : List Command) (taken following : ℕ) (bytes : List ℕ)
      → IsFollowerMade phase (limits_of small) geometry place gate pending taken following bytes → IsFollowerMade phase (limits_of large) geometry place gate pending taken following bytes
  follower_larger Following geometry place gate pending taken following bytes has = bytes_larger geometry place gate pending taken following bytes has
  follower_larger Followed geometry place gate pending taken following bytes has = bytes_larger geometry place gate pending taken following bytes has
  follower_larger DurableFollowed geometry place gate pending taken following bytes has = bytes_larger geometry place gate pending taken following bytes has
  follower_larger _ geometry place gate pending taken following bytes has = tt

-- what is so where a value had its turn: the phase; and that all is written, where the value says
-- so
module _ {view new old : StateView} (is : view ≡ new) where
  pub check_at : {P : Type 0} {phase : Check} {value same : Commit P} → TakesPlanTurn phase value (success (StepError P) same) old new → view.check ≡ phase
  check_at taken = ap (λ (v : StateView). v.check) (is ∙ taken.3) ∙ taken.0.at

  pub planned_at : {value same : Commit AtPlan} → TakesChunkTurn value (success (StepError AtPlan) same) old new → view.check ≡ Planned
  planned_at taken = ap (λ (v : StateView). v.check) (is ∙ taken.3) ∙ taken.0.at

  pub done_at : {value same : Commit AtPlan} → value.phase.done ≡ true → TakesChunkTurn value (success (StepError AtPlan) same) old new → 512 * view.written ≡ length view.checkpoint
  done_at done taken = eqb-true _ _ (ap is_whole (is ∙ taken.3) ∙ sym taken.0.done ∙ done)

  pub going_at : {value same : Commit AtPlan} → TakesChunkTurn value (success (StepError AtPlan) same) old new → view.stopped ≡ false
  going_at taken = ap (λ (v : StateView). v.stopped) (is ∙ taken.3) ∙ taken.1

  pub undone_at : {value same : Commit AtPlan} → value.phase.done ≡ false → TakesChunkTurn value (success (StepError AtPlan) same) old new → 512 * view.written ≡ length view.checkpoint → ⊥
  undone_at undone taken = eqb-false _ _ (ap is_whole (is ∙ taken.3) ∙ sym taken.0.done ∙ undone)

module _ (old : StateView) (hidden : PrivateState) (has : IsState old hidden) where
  -- the checkpointer is at work
  away : (phase : Check) → old.check ≡ phase → phase ≢ Ready → old.check ≢ Ready
  away phase turn other = subst (λ (p : Check). p ≢ Ready) (sym turn) other

  module _ (disk : Disk) (check : Check) (written : ℕ) (plan : Turn) (stopped : Bool) (going : stopped ≡ false → old.stopped ≡ false) where
    abbrev MergeSo : Option MergeView → Type 0
    MergeSo merge = stopped ≡ false → check ≡ Planned → HasMerge (IsUnderWay old.geometry written) merge

    checked_shape : (merge : Option MergeView) → old.checkpoint ≡ encoding_if_any merge → MergeSo merge → disk.sectors ≡ old.disk.sectors
        → HasPlan old.geometry (record { bytes = old.checkpoint; written = written }) → HasNextEpoch check old.epoch
        → StateInvariant (checked old disk check written plan stopped) (record hidden { merge = merge })
    checked_shape merge bytes merge_so same has_plan epoch = record {
      limits = has.shape.limits;
      sectors = omega (arith, has.shape.sectors, same);
      room = has.shape.room;
      place = has.shape.place;
      last = has.shape.last;
      few = has.shape.few;
      commands = has.shape.commands;
      tip = has.shape.tip;
      outcomes = has.shape.outcomes;
      fits = λ is. has.shape.fits (going is);
      known = has.shape.known;
      taken = has.shape.taken;
      owed = has.shape.owed;
      paid = has.shape.paid;
      rests = has.shape.rests;
      load = has.shape.load;
      staged = has.shape.staged;
      follower = has.shape.follower;
      plan = has_plan;
      epoch = epoch;
      bytes = bytes;
      merge = merge_so;
    }

    merged_state : (merge : Option MergeView) → old.checkpoint ≡ encoding_if_any merge → MergeSo merge
        → (phase : Check) → old.check ≡ phase → phase ≢ Ready → phase ≢ Sealed → Keeps old.disk disk → HasPlan old.geometry (record { bytes = old.checkpoint; written = written }) → HasNextEpoch check old.epoch
        → ((sound : DeviceInvariant old) → CountsAt check old.epoch old.checkpoint sound.behind.old sound.behind.new)
        → ((sound : DeviceInvariant old) → IsHonest old.disk → IsHeldBy (config_of old) (held.checked (commit_state_of old) check written) sound.behind disk.history.now)
        → ((with : DeviceInvariantWith old hidden.merge hidden.preparation) → IsHonest old.disk → stopped ≡ false → check ≡ Planned → HasMerge (Streams with.sound.behind.old.db written) merge)
        → IsState (checked old disk check written plan stopped) (record hidden { merge = merge })
    merged_state merge bytes merge_so phase turn other unsealed keeps has_plan epoch counts holds streams = record {
      shape = checked_shape merge bytes merge_so keeps.sectors has_plan epoch;
      sound = λ honest.
          let before = honest_before old.disk disk keeps honest in
          let with = sound_at_work old hidden has (inr (away phase turn other)) before in
          let sound = with.sound in
          inl (record {
            sound = record { behind = sound.behind; held = holds sound before; counts = counts sound; fits = λ is. sound.fits (going is) };
            streams = streams with before;
            prepared = λ is. unread old hidden.preparation with phase turn unsealed (going is) check sound.behind;
          });
    }

    -- the checkpoint is not written on
    checked_state : (stopped ≡ false → check ≡ Planned → ⊥)
        → (phase : Check) → old.check ≡ phase → phase ≢ Ready → phase ≢ Sealed → Keeps old.disk disk → HasPlan old.geometry (record { bytes = old.checkpoint; written = written }) → HasNextEpoch check old.epoch
        → ((sound : DeviceInvariant old) → CountsAt check old.epoch old.checkpoint sound.behind.old sound.behind.new)
        → ((sound : DeviceInvariant old) → IsHonest old.disk → IsHeldBy (config_of old) (held.checked (commit_state_of old) check written) sound.behind disk.history.now)
        → IsState (checked old disk check written plan stopped) hidden
    checked_state none phase turn other unsealed keeps has_plan epoch counts holds =
        merged_state hidden.merge has.shape.bytes (λ is planned. absurd (none is planned)) phase turn other unsealed keeps has_plan epoch counts holds (λ with before is planned. absurd (none is planned))

  -- the value is spent, and no call is made
  pub plan_spent : (plan : Turn) → IsState (record old { plan = plan }) hidden
  plan_spent plan = record {
    shape = checked_shape old.disk old.check old.written plan old.stopped (λ is. is) hidden.merge has.shape.bytes has.shape.merge refl has.shape.plan has.shape.epoch;
    sound = λ honest. either_stays hidden.merge hidden.preparation old (record old { plan = plan })
        (λ with. record { sound = record { behind = with.sound.behind; held = with.sound.held; counts = with.sound.counts; fits = with.sound.fits }; streams = with.streams; prepared = with.prepared })
        (λ broken. record { stopped = broken.stopped; rests = broken.rests; ready = broken.ready; images = broken.images }) (has.sound honest);
  }

  -- what is known at a phase
  epoch_at : (check : Check) → old.check ≡ check → HasNextEpoch check old.epoch
  epoch_at check turn = subst (λ (p : Check). HasNextEpoch p old.epoch) turn has.shape.epoch

  counts_at : (check : Check) → old.check ≡ check → (sound : DeviceInvariant old) → CountsAt check old.epoch old.checkpoint sound.behind.old sound.behind.new
  counts_at check turn sound = subst (λ (p : Check). CountsAt p old.epoch old.checkpoint sound.behind.old sound.behind.new) turn sound.counts

  -- a call that fails leaves its phase
  module _ (disk : Disk) (plan : Turn) (stopped : Bool) (stops : stopped ≡ true) (check : Check) (turn : old.check ≡ check) (other : check ≢ Ready) (unsealed : check ≢ Sealed) where
    stays : Keeps old.disk disk
        → ((sound : DeviceInvariant old) → IsHonest old.disk → IsHeldBy (config_of old) (held.checked (commit_state_of old) check old.written) sound.behind disk.history.now)
        → IsState (checked old disk old.check old.written plan stopped) hidden
    stays keeps holds =
        checked_state disk old.check old.written plan stopped (λ (is : stopped ≡ false). cc) (λ (is : stopped ≡ false) planned. cc) check turn other unsealed keeps has.shape.plan has.shape.epoch (λ sound. sound.counts)
        (λ sound honest. subst (λ (p : Check). IsHeldBy (config_of old) (held.checked (commit_state_of old) p old.written) sound.behind disk.history.now) (sym turn) (holds sound honest))

  module _ (disk : Disk) where
    -- the chunks are synced
    module _ (turn : old.check ≡ Planned) (done : 512 * old.written ≡ length old.checkpoint) where
      all_written : (sound : DeviceInvariant old) → 512 * old.written ≡ length (checkpoint_encoding rows_format sound.behind.new)
      all_written sound = done ∙ ap length (counts_at Planned turn sound).1

      pub chunks_synced : {T : Type 0} (E : Type 0) (v : T) → SyncCall (success E v) old.disk disk → IsState (checked old disk Laid old.written old.plan old.stopped) hidden
      chunks_synced {T} E v call =
          checked_state disk Laid old.written old.plan old.stopped (λ is. is) (λ is (planned : Laid ≡ Planned). cc) Planned turn (λ (is : Planned ≡ Ready). cc) (λ (is : Planned ≡ Sealed). cc) call.keeps has.shape.plan (epoch_at Planned turn) (λ sound. (counts_at Planned turn sound).0)
          (λ sound honest. held_while_chunks_are_synced T E (List RowView) Command (config_of old) (commit_state_of old) sound.behind (success E v) old.disk disk turn sound.held (all_written sound) call honest)

      pub chunks_not_synced : {E : Type 0} (T : Type 0) (e : E) (plan : Turn) (stopped : Bool) → stopped ≡ true → SyncCall (failure T e) old.disk disk → IsState (checked old disk old.check old.written plan stopped) hidden
      chunks_not_synced {E} T e plan stopped stops call =
          stays disk plan stopped stops Planned turn (λ (is : Planned ≡ Ready). cc) (λ (is : Planned ≡ Sealed). cc) call.keeps
          (λ sound honest. held_while_chunks_are_synced T E (List RowView) Command (config_of old) (commit_state_of old) sound.behind (failure T e) old.disk disk turn sound.held (all_written sound) call honest)

    -- the new half's gate
    module _ (sector : ℕ) (given : List ℕ) (turn : old.check ≡ Laid) (at : sector ≡ gate_at old.geometry old.half) (bytes : given ≡ open_gate) where
      gate_so : {T E : Type 0} (result : Result T E) → WriteCall sector given result old.disk disk → WriteCall (gate_at old.geometry old.half) open_gate result old.disk disk
      gate_so result call = subst (λ (content : List ℕ). WriteCall (gate_at old.geometry old.half) content result old.disk disk) bytes
          (subst (λ (n : ℕ). WriteCall n given result old.disk disk) at call)

      pub half_opened : {T : Type 0} (E : Type 0) (v : T) → WriteCall sector given (success E v) old.disk disk → IsState (checked old disk Switched old.written old.plan old.stopped) hidden
      half_opened {T} E v call =
          checked_state disk Switched old.written old.plan old.stopped (λ is. is) (λ is (planned : Switched ≡ Planned). cc) Laid turn (λ (is : Laid ≡ Ready). cc) (λ (is : Laid ≡ Sealed). cc) call.keeps has.shape.plan (epoch_at Laid turn) (counts_at Laid turn)
          (λ sound honest. held_while_half_is_opened T E (List RowView) Command (config_of old) (commit_state_of old) sound.behind (success E v) old.disk disk turn (gate_so (success E v) call) honest sound.held)

      pub half_doubtful : {E : Type 0} (T : Type 0) (e : E) (plan : Turn) (stopped : Bool) → stopped ≡ true → WriteCall sector given (failure T e) old.disk disk → IsState (checked old disk SwitchFailed old.written plan stopped) hidden
      half_doubtful {E} T e plan stopped stops call =
          checked_state disk SwitchFailed old.written plan stopped (λ (is : stopped ≡ false). cc) (λ is (planned : SwitchFailed ≡ Planned). cc) Laid turn (λ (is : Laid ≡ Ready). cc) (λ (is : Laid ≡ Sealed). cc) call.keeps has.shape.plan tt (counts_at Laid turn)
          (λ sound honest. held_while_half_is_opened T E (List RowView) Command (config_of old) (commit_state_of old) sound.behind (failure T e) old.disk disk turn (gate_so (failure T e) call) honest sound.held)

    -- it is synced
    pub half_not_synced : {E : Type 0} (T : Type 0) (e : E) (plan : Turn) (stopped : Bool) → stopped ≡ true → old.check ≡ Switched → SyncCall (failure T e) old.disk disk → IsState (checked old disk old.check old.written plan stopped) hidden
    half_not_synced {E} T e plan stopped stops turn call =
        stays disk plan stopped stops Switched turn (λ (is : Switched ≡ Ready). cc) (λ (is : Switched ≡ Sealed). cc) call.keeps
        (λ sound honest. held_while_half_is_synced T E (List RowView) Command (config_of old) (commit_state_of old) sound.behind (failure T e) old.disk disk turn call honest sound.held)

    pub half_synced : {T : Type 0} (E : Type 0) (v : T) (version : ℕ) → version ≡ latest → old.check ≡ Switched → SyncCall (success E v) old.disk disk
        → IsState (record old { disk = disk; check = Live; epoch = old.epoch + 1; version = version }) hidden
    half_synced {T} E v version last turn call =
        subst (λ (n : ℕ). IsState (record old { disk = disk; check = Live; epoch = old.epoch + 1; version = n }) hidden) (sym last)
        (record {
          shape = record {
            limits = has.shape.limits;
            sectors = omega (arith, has.shape.sectors, call.keeps.sectors);
            room = has.shape.room;
            place = has.shape.place;
            last = has.shape.last;
            few = has.shape.few;
            commands = pending_larger old.version latest has.shape.known old.pending has.shape.commands;
            tip = has.shape.tip;
            outcomes = has.shape.outcomes;
            fits = has.shape.fits;
            known = omega arith;
            taken = has.shape.taken;
            owed = has.shape.owed;
            paid = has.shape.paid;
            rests = has.shape.rests;
            load = load_larger old.version latest has.shape.known old.geometry old.value.place old.gate (load_of (commit_state_of old)) has.shape.load;
            staged = has.shape.staged;
            follower = follower_larger old.version latest has.shape.known old.flush old.geometry old.value.place old.gate old.pending old.taken old.following hidden.staged_next has.shape.follower;
            plan = has.shape.plan;
            epoch = tt;
            bytes = has.shape.bytes;
            merge = λ going (is : Live ≡ Planned). absurd (cc);
          };
          sound = λ honest.
              let before = honest_before old.disk disk call.keeps honest in
              let with = sound_at_work old hidden has (inr (away Switched turn (λ (is : Switched ≡ Ready). cc))) before in
              let sound = with.sound in
              let next = counts_at Switched turn sound in
              let live = held_while_half_is_synced T E (List RowView) Command (config_of old) (commit_state_of old) sound.behind (success E v) old.disk disk turn call before sound.held in
              inl (record {
                sound = record {
                  behind = sound.behind;
                  held = subst (λ (n : ℕ). IsHeldBy (config_of old) (record (held.checked (commit_state_of old) Live old.written) { version = n }) sound.behind disk.history.now) next.version
                      (held_under_the_new_version (List RowView) Command (config_of old) (held.checked (commit_state_of old) Live old.written) sound.behind disk.history.now refl live);
                  counts = next.new;
                  fits = sound.fits;
                };
                streams = λ going (is : Live ≡ Planned). absurd (cc);
                prepared = λ going. unread old hidden.preparation with Switched turn (λ (is : Switched ≡ Sealed). cc) going Live sound.behind;
              });
        })

    -- the old half's gates
    module _ (sector : ℕ) (given : List ℕ) (turn : old.check ≡ Live) (at : sector ≡ gate_at old.geometry (other old.half)) (bytes : given ≡ closed_gate ++ closed_gate) where
      gates_so : {T E : Type 0} (result : Result T E) → WriteCall sector given result old.disk disk → WriteCall (gate_at old.geometry (other old.half)) (closed_gate ++ closed_gate) result old.disk disk
      gates_so result call = subst (λ (content : List ℕ). WriteCall (gate_at old.geometry (other old.half)) content result old.disk disk) bytes
          (subst (λ (n : ℕ). WriteCall n given result old.disk disk) at call)

      pub half_closed : {T : Type 0} (E : Type 0) (v : T) → WriteCall sector given (success E v) old.disk disk → IsState (checked old disk Closing old.written old.plan old.stopped) hidden
      half_closed {T} E v call =
          checked_state disk Closing old.written old.plan old.stopped (λ is. is) (λ is (planned : Closing ≡ Planned). cc) Live turn (λ (is : Live ≡ Ready). cc) (λ (is : Live ≡ Sealed). cc) call.keeps has.shape.plan tt (counts_at Live turn)
          (λ sound honest. held_while_half_is_closed T E (List RowView) Command (config_of old) (commit_state_of old) sound.behind (success E v) old.disk disk turn (gates_so (success E v) call) honest sound.held)

      pub half_not_closed : {E : Type 0} (T : Type 0) (e : E) (plan : Turn) (stopped : Bool) → stopped ≡ true → WriteCall sector given (failure T e) old.disk disk → IsState (checked old disk CloseFailed old.written plan stopped) hidden
      half_not_closed {E} T e plan stopped stops call =
          checked_state disk CloseFailed old.written plan stopped (λ (is : stopped ≡ false). cc) (λ is (planned : CloseFailed ≡ Planned). cc) Live turn (λ (is : Live ≡ Ready). cc) (λ (is : Live ≡ Sealed). cc) call.keeps has.shape.plan tt (counts_at Live turn)
          (λ sound honest. held_while_half_is_closed T E (List RowView) Command (config_of old) (commit_state_of old) sound.behind (failure T e) old.disk disk turn (gates_so (failure T e) call) honest sound.held)

    -- and their sync
    pub close_synced : {T : Type 0} (E : Type 0) (v : T) (plan : Turn) → old.check ≡ Closing → SyncCall (success E v) old.disk disk → IsState (checked old disk Ready old.written plan old.stopped) hidden
    close_synced {T} E v plan turn call =
        checked_state disk Ready old.written plan old.stopped (λ is. is) (λ is (planned : Ready ≡ Planned). cc) Closing turn (λ (is : Closing ≡ Ready). cc) (λ (is : Closing ≡ Sealed). cc) call.keeps has.shape.plan tt (counts_at Closing turn)
        (λ sound honest. held_while_close_is_synced T E (List RowView) Command (config_of old) (commit_state_of old) sound.behind (success E v) old.disk disk turn call honest sound.held)

    pub close_not_synced : {E : Type 0} (T : Type 0) (e : E) (plan : Turn) (stopped : Bool) → stopped ≡ true → old.check ≡ Closing → SyncCall (failure T e) old.disk disk → IsState (checked old disk old.check old.written plan stopped) hidden
    close_not_synced {E} T e plan stopped stops turn call =
        stays disk plan stopped stops Closing turn (λ (is : Closing ≡ Ready). cc) (λ (is : Closing ≡ Sealed). cc) call.keeps
        (λ sound honest. held_while_close_is_synced T E (List RowView) Command (config_of old) (commit_state_of old) sound.behind (failure T e) old.disk disk turn call honest sound.held)

    -- the next sectors
    module _ (sector : ℕ) (given : List ℕ) (turn : old.check ≡ Planned) (at : sector ≡ area_at old.geometry old.half + old.written)
        (more : ℕ) (bytes : given ≡ part (512 * old.written) (512 * more) old.checkpoint) (inside : 512 * (old.written + more) ≤ length old.checkpoint) where
      chunk_so : {T E : Type 0} (result : Result T E) (sound : DeviceInvariant old) → WriteCall sector given result old.disk disk
          → WriteCall (area_at old.geometry old.half + old.written) (part (512 * old.written) (512 * more) (checkpoint_encoding rows_format sound.behind.new)) result old.disk disk
      chunk_so result sound call =
          subst (λ (content : List ℕ). WriteCall (area_at old.geometry old.half + old.written) content result old.disk disk)
          (bytes ∙ ap (part (512 * old.written) (512 * more)) (counts_at Planned turn sound).1)
          (subst (λ (n : ℕ). WriteCall n given result old.disk disk) at call)

      inside_so : (sound : DeviceInvariant old) → 512 * (old.written + more) ≤ length (checkpoint_encoding rows_format sound.behind.new)
      inside_so sound = omega (arith, inside, ap length (counts_at Planned turn sound).1)

      plan_after : HasPlan old.geometry (record { bytes = old.checkpoint; written = old.written + more })
      plan_after = record {
        sectors = has.shape.plan.sectors;
        whole = has.shape.plan.whole;
        inside = has.shape.plan.inside;
        written = omega (arith, inside, has.shape.plan.whole);
      }

      holds : {T : Type 0} (E : Type 0) (v : T) → WriteCall sector given (success E v) old.disk disk → (sound : DeviceInvariant old) → IsHonest old.disk
          → IsHeldBy (config_of old) (held.checked (commit_state_of old) Planned (old.written + more)) sound.behind disk.history.now
      holds {T} E v call sound honest =
          held_while_chunk_is_written T E (List RowView) Command (config_of old) (commit_state_of old) sound.behind more (success E v) old.disk disk turn sound.held (inside_so sound) (chunk_so (success E v) sound call) honest

      -- and then the sectors after them are made
      pub chunk_written : {T : Type 0} (E : Type 0) (v : T) (merge : Option MergeView) → old.checkpoint ≡ encoding_if_any merge → HasMerge (IsUnderWay old.geometry (old.written + more)) merge
          → old.stopped ≡ false
          → ((checkpoint : Checkpoint (List RowView)) → IsHonest disk → HasCheckpoint (config_of old) (other old.half) checkpoint disk.history.now
          → HasMerge (Streams checkpoint.db old.written) hidden.merge → HasMerge (Streams checkpoint.db (old.written + more)) merge)
          → WriteCall sector given (success E v) old.disk disk
          → IsState (record (checked old disk old.check (old.written + more) old.plan old.stopped) { checkpoint = encoding_if_any merge }) (record hidden { merge = merge })
      chunk_written {T} E v merge so under going on call =
          subst (λ (bytes : List ℕ). IsState (record (checked old disk old.check (old.written + more) old.plan old.stopped) { checkpoint = bytes }) (record hidden { merge = merge })) so
          (merged_state disk old.check (old.written + more) old.plan old.stopped (λ is. is) merge so (λ is planned. under) Planned turn (λ (is : Planned ≡ Ready). cc) (λ (is : Planned ≡ Sealed). cc) call.keeps plan_after has.shape.epoch
          (λ sound. sound.counts) (λ sound honest. subst (λ (p : Check). IsHeldBy (config_of old) (held.checked (commit_state_of old) p (old.written + more)) sound.behind disk.history.now) (sym turn) (holds E v call sound honest))
          (λ with honest is planned. on with.sound.behind.old (honest_after old.disk disk call.keeps honest) (holds E v call with.sound honest).base.0.area (with.streams going turn)))

      pub chunk_not_written : {E : Type 0} (T : Type 0) (e : E) (plan : Turn) (stopped : Bool) → stopped ≡ true → (merge : Option MergeView) → old.checkpoint ≡ encoding_if_any merge
          → WriteCall sector given (failure T e) old.disk disk
          → IsState (record (checked old disk old.check old.written plan stopped) { checkpoint = encoding_if_any merge }) (record hidden { merge = merge })
      chunk_not_written {E} T e plan stopped stops merge so call =
          subst (λ (bytes : List ℕ). IsState (record (checked old disk old.check old.written plan stopped) { checkpoint = bytes }) (record hidden { merge = merge })) so
          (merged_state disk old.check old.written plan stopped (λ (is : stopped ≡ false). cc) merge so (λ (is : stopped ≡ false) planned. absurd (cc)) Planned turn (λ (is : Planned ≡ Ready). cc) (λ (is : Planned ≡ Sealed). cc) call.keeps has.shape.plan has.shape.epoch
          (λ sound. sound.counts)
          (λ sound honest. subst (λ (p : Check). IsHeldBy (config_of old) (held.checked (commit_state_of old) p old.written) sound.behind disk.history.now) (sym turn)
          (held_while_chunk_is_written T E (List RowView) Command (config_of old) (commit_state_of old) sound.behind more (failure T e) old.disk disk turn sound.held (inside_so sound) (chunk_so (failure T e) sound call) honest))
          (λ with honest (is : stopped ≡ false) planned. absurd (cc)))

      -- or what is read after them is damaged, which an honest device does not have
      module _ {T : Type 0} (E : Type 0) (v : T) (call : WriteCall sector given (success E v) old.disk disk) (going : old.stopped ≡ false)
          (differs : (checkpoint : Checkpoint (List RowView)) → IsHonest disk → HasCheckpoint (config_of old) (other old.half) checkpoint disk.history.now → HasMerge (Streams checkpoint.db old.written) hidden.merge → ⊥) where
        pub never_damaged : IsHonest old.disk → ⊥
        never_damaged honest =
            let with = sound_at_work old hidden has (inr (away Planned turn (λ (is : Planned ≡ Ready). cc))) honest in
            differs with.sound.behind.old (honest_after old.disk disk call.keeps honest) (holds E v call with.sound honest).base.0.area (with.streams going turn)

        pub chunk_damaged : (plan : Turn) (stopped : Bool) → stopped ≡ true → (merge : Option MergeView) → old.checkpoint ≡ encoding_if_any merge
            → IsState (record (checked old disk old.check old.written plan stopped) { checkpoint = encoding_if_any merge }) (record hidden { merge = merge })
        chunk_damaged plan stopped stops merge so =
            subst (λ (bytes : List ℕ). IsState (record (checked old disk old.check old.written plan stopped) { checkpoint = bytes }) (record hidden { merge = merge })) so
            (merged_state disk old.check old.written plan stopped (λ (is : stopped ≡ false). cc) merge so (λ (is : stopped ≡ false) planned. absurd (cc)) Planned turn (λ (is : Planned ≡ Ready). cc) (λ (is : Planned ≡ Sealed). cc) call.keeps has.shape.plan has.shape.epoch
            (λ sound. sound.counts) (λ sound honest. absurd (never_damaged honest))
            (λ with honest (is : stopped ≡ false) planned. absurd (cc)))
