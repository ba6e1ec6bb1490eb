-- Beginning a checkpoint: what reads give of the sealed half, and the state with its plan.
use Rattle.std.proofs.Common.{◌≡◌, inl, inr, ℕ, ◌+◌, ◌*◌, ◌%◌, ◌^◌, ◌≤◌, Bool, true, false, List, length, Some, Result, Ok, Err, refl, sym, ◌∙◌, ap, subst, arith}
use Rattle.byte_lists.specs.Sectors.{sectors_of}
use Rattle.byte_lists.proofs.Padding.{length-padded}
use Rattle.row_map.specs.Database.{RowView}
use Rattle.path_records.specs.RowRecord.{rows_encoding}
use Rattle.path_db.specs.declared.command.Command.{Command}
use Rattle.sector_dev.specs.Disk.{History, Disk, IsHonest, IsWhole, reads_of}
use Rattle.sector_dev.specs.Image.{IsFromImage}
use Rattle.sector_dev.specs.Stretch.{Leaves}
use Rattle.sector_dev.proofs.Images.{image_of_reads}
use Rattle.sector_dev.proofs.Stretches.{honest_before, leaves_here}
use Rattle.store_layout.specs.Limits.{limits_of, latest}
use Rattle.store_layout.specs.Journal.{all_of, IsJournal}
use Rattle.store_layout.specs.declared.half.Half.{Half}
use Rattle.store_layout.specs.Layout.{Geometry, other, area_of, journal_of}
use Rattle.store_layout.specs.StoreFormat.{db_after}
use Rattle.store_layout.specs.CheckpointReading.{checkpoint_in}
use Rattle.store_layout.specs.Checkpoint.{Checkpoint, checkpoint_bytes, checkpoint_encoding}
use Rattle.store_layout.proofs.Exports.{checkpoint_read, journal_read, store_journal}
use Rattle.gate_journal.specs.Commands.{command_format}
use Rattle.ckpt_pair.specs.Checkpoint.{written_checkpoint}
use Rattle.ckpt_pair.specs.Rows.{rows_format}
use Rattle.ckpt_stream.specs.Merge.{MergeView, encoding_made}
use Rattle.ckpt_stream.specs.Beginning.{IsMergeOf, MergesSealed}
use Rattle.ckpt_stream.specs.HalfRead.{pieces_to_come}
use Rattle.ckpt_stream.specs.Preparation.{SealedContents, HasSealed, PreparationView, IsUnread, calls_left, IsPreparedFrom, IsPreparedFor}
use Rattle.store_open.specs.PathStores.{store_format}
use Rattle.store_open.specs.Behind.{SameBehind}
use Rattle.store_open.specs.Sealed.{SealedHalf, sealed_half, folded_in, folded_behind, LooksAtHalf}
use Rattle.store_open.specs.declared.error.SealedError.{SealedError}
use Rattle.store_open.specs.declared.error.SealedError.TheVariants as half
use Rattle.group_phases.specs.declared.phases.Flush.TheVariants.{Durable}
use Rattle.group_phases.specs.declared.phases.Check.{Check}
use Rattle.group_phases.specs.declared.phases.Check.TheVariants.{Ready, Sealed, Planned}
use Rattle.group_phases.specs.Tail.{Seal, tail_place, with_load}
use Rattle.group_phases.specs.BasePart.{CheckpointPair, sealed_of, OldStands, FoldsTo, CanBeNewCheckpoint, BasePart}
use Rattle.group_phases.specs.CheckpointerSteps.{with_new}
use Rattle.group_phases.specs.CommitState.{checkpoint_pair_of, IsHeldBy}
use Rattle.group_phases.specs.HeldSteps.{OpensAroundCall}
use Rattle.group_phases.specs.HeldChecks.{checked}
use Rattle.group_phases.specs.HeldTurns.{behind_plan}
use Rattle.group_phases.proofs.Exports.{reads_by_its_part, held_when_plan_begins}
use Rattle.group_core.specs.StateView.{StateView, all_unprepared}
use Rattle.group_core.specs.Stops.{config_of, commit_state_of, StepLeaves}
use Rattle.group_core.specs.Invariant.{PrivateState, CountsAt, DeviceInvariant, DeviceInvariantWith, IsState}
use Rattle.group_core.specs.declared.bookkeeping.Turn.{Turn}
use Rattle.group_core.specs.declared.beginning.BeginError.TheVariants.{Fault, NoMemory, Damaged}
use Rattle.group_core.specs.declared.phases.AtPlan.{AtPlan}
use Rattle.group_core.specs.declared.values.Commit.{Commit}
use Rattle.group_core.specs.Preparing.{sealed_contents, IsPreparedOf}
use Rattle.group_core.specs.Beginning.{checkpoint_of, FitsArea, IsEncoded, MayBegin, IsDeviceRead, plan_begun, begun, BeginsCheckpoint, PreparesCheckpoint}
use Rattle.group_core.proofs.Soundness.{AtWork, checking, sound_at_work}
use Rattle.group_core.proofs.States.{may_open}

-- of two halves that were read in one way
some_same : (one two : SealedHalf) → Some one ≡ Some two → one ≡ two
some_same one two same = cc

-- a result, of which only the kind counts
abbrev ok_of : {T : Type 0} → T → Result T SealedError
ok_of value = Ok value

abbrev error_of : (T : Type 0) → SealedError → Result T SealedError
error_of T e = Err e

-- the state after its device was read, with what is prepared then
abbrev pub looked_at : StateView → Disk → Bool → PreparationView → StateView
looked_at old disk stopped preparation = record old { disk = disk; unprepared = calls_left preparation; stopped = stopped }

-- and where nothing is prepared then
looked_is : (old : StateView) (disk : Disk) (stopped : Bool) (preparation : PreparationView) → IsUnread preparation
    → looked_at old disk stopped preparation ≡ record old { disk = disk; unprepared = all_unprepared; stopped = stopped }
looked_is old disk stopped preparation unread = ap (λ (n : ℕ). record old { disk = disk; unprepared = n; stopped = stopped }) (ap pieces_to_come unread)

-- the state with a plan, and with what is prepared after that
abbrev begun_with : StateView → Disk → List ℕ → PreparationView → StateView
begun_with old disk bytes preparation = record (begun old disk bytes) { unprepared = calls_left preparation }

begun_is : (old : StateView) (disk : Disk) (bytes : List ℕ) (preparation : PreparationView) → IsUnread preparation → begun_with old disk bytes preparation ≡ begun old disk bytes
begun_is old disk bytes preparation unread = ap (λ (n : ℕ). record (begun old disk bytes) { unprepared = n }) (ap pieces_to_come unread)

-- what is prepared is of each half
abbrev pub IsFresh : PreparationView → Type 0
IsFresh preparation = (geometry : Geometry) (contents : SealedContents) → IsPreparedFrom geometry contents preparation

-- what an honest device shows of the sealed half
module _ (view : StateView) (sound : DeviceInvariant view) (turn : view.check ≡ Sealed) (whole : IsWhole view.disk) where
  abbrev base : CheckpointPair (List RowView) Command
  base = checkpoint_pair_of (commit_state_of view) sound.behind

  old_stands : OldStands (config_of view) base view.disk.history.now
  old_stands = sealed.0
    where
      sealed : BasePart Sealed (config_of view) base view.written view.disk.history.now
      sealed = subst (λ (p : Check). BasePart p (config_of view) base view.written view.disk.history.now) turn sound.held.base

  abbrev folded : SealedHalf
  folded = record {
    head = sound.behind.old.head;
    place = tail_place (sealed_of base);
    rows = db_after store_format sound.behind.old.db (all_of sound.behind.old_groups);
  }

  pub area_reads : checkpoint_in rows_format latest (area_of view.geometry (other view.half) (reads_of view.disk)) ≡ Ok sound.behind.old
  area_reads = checkpoint_read rows_format latest (area_of view.geometry (other view.half) (reads_of view.disk)) sound.behind.old (old_stands.area.begins) (old_stands.area.known)

  abbrev sealed_checkpoint : Checkpoint (List RowView)
  sealed_checkpoint = sound.behind.old

  journal_is : IsJournal command_format (limits_of sealed_checkpoint.head.version) (journal_of view.geometry (other view.half) (reads_of view.disk)) sealed_checkpoint.head.place (with_load command_format (sealed_of base) Seal)
  journal_is =
      reads_by_its_part Command Durable command_format (limits_of sealed_checkpoint.head.version) view.geometry (sealed_of base) Seal view.disk.history.now sound.held.title old_stands.journal (reads_of view.disk)
      (image_of_reads view.disk.history.now whole.bytes)

  pub half_reads : sealed_half view.geometry (other view.half) (reads_of view.disk) ≡ Some folded
  half_reads =
      ap (folded_in view.geometry (other view.half) (reads_of view.disk)) area_reads
      ∙ ap (folded_behind sealed_checkpoint)
      (journal_read command_format (limits_of sealed_checkpoint.head.version) (journal_of view.geometry (other view.half) (reads_of view.disk)) sealed_checkpoint.head.place (with_load command_format (sealed_of base) Seal)
      (store_journal view.geometry (reads_of view.disk) sound.held.title.store (other view.half)) journal_is)

  -- so it has what is prepared
  pub has_sealed : HasSealed view.geometry (other view.half) (sealed_contents sound.behind) (reads_of view.disk)
  has_sealed = record { area = area_reads; journal = record { chain = old_stands.journal.groups.chain; ends = journal_is.ends } }

  -- a checkpoint of it, of the next epoch, is what the new half is to have
  module _ (read : SealedHalf) (is : sealed_half view.geometry (other view.half) (reads_of view.disk) ≡ Some read) where
    same : folded ≡ read
    same = some_same folded read (sym half_reads ∙ is)

    counts : sound.behind.old.head.epoch ≡ view.epoch
    counts = subst (λ (p : Check). CountsAt p view.epoch view.checkpoint sound.behind.old sound.behind.new) turn sound.counts

    pub folds : FoldsTo store_format (with_new base (checkpoint_of (view.epoch + 1) read))
    folds = record {
      place = ap (λ (h : SealedHalf). h.place) same;
      db = ap (λ (h : SealedHalf). h.rows) same;
      epoch = omega (arith, counts);
      tail = old_stands.folds.tail;
      version = old_stands.area.known;
    }

    pub fits_so : view.stopped ≡ false → FitsArea view.geometry (checkpoint_of (view.epoch + 1) read)
    fits_so going =
        omega (arith, sound.fits going, ap (λ (rows : List RowView). length (rows_encoding rows)) (sym old_stands.folds.db ∙ folds.db))

-- what a merge makes is the checkpoint of the half
spelled_so : (geometry : Geometry) (half : Half) (epoch : ℕ) (disk : Disk) (merge : MergeView) (made : IsMergeOf geometry half epoch disk merge)
    → encoding_made merge ≡ checkpoint_encoding rows_format (checkpoint_of epoch made.sealed)
spelled_so geometry half epoch disk merge made = λ i. checkpoint_encoding rows_format (written_checkpoint (made.epoch_is i) (made.place i) (made.rows i))

-- a checkpoint that fits takes no more sectors than the area has
sectors_fit : (epoch area : ℕ) (sealed : SealedHalf) (bytes : List ℕ) → bytes ≡ checkpoint_encoding rows_format (checkpoint_of epoch sealed)
    → 32 + length (rows_encoding sealed.rows) ≤ 512 * area
    → (length bytes ≡ 512 * sectors_of (length (checkpoint_bytes rows_format (checkpoint_of epoch sealed))))
    × (sectors_of (length (checkpoint_bytes rows_format (checkpoint_of epoch sealed))) ≤ area)
    × (1 ≤ length bytes)
sectors_fit epoch area sealed bytes spelled fits =
    let long : length bytes ≡ 512 * sectors_of (length (checkpoint_bytes rows_format (checkpoint_of epoch sealed))) = ap length spelled ∙ length-padded (checkpoint_bytes rows_format (checkpoint_of epoch sealed)) in
    let size : length (checkpoint_bytes rows_format (checkpoint_of epoch sealed)) ≡ 32 + length (rows_encoding sealed.rows) = omega arith in
    (long, omega (arith, size, fits), omega (arith, long, size))

-- the device was looked at
module _ (old : StateView) (hidden : PrivateState) (has : IsState old hidden) (disk : Disk) (looked : IsDeviceRead old.disk disk) where
  -- and the state may have stopped then
  pub looked_state : AtWork old.flush old.check → (stopped : Bool) → (stopped ≡ false → old.stopped ≡ false) → (unprepared : ℕ) (preparation : PreparationView)
      → ((with : DeviceInvariantWith old hidden.merge hidden.preparation) → IsHonest old.disk → stopped ≡ false → IsPreparedOf old.check old.geometry with.sound.behind preparation)
      → IsState (record old { disk = disk; unprepared = unprepared; stopped = stopped }) (record hidden { preparation = preparation })
  looked_state work stopped going unprepared preparation prepares = record {
    shape = record {
      limits = has.shape.limits;
      sectors = omega (arith, has.shape.sectors, looked.keeps.sectors);
      room = has.shape.room;
      place = has.shape.place;
      last = has.shape.last;
      few = has.shape.few;
      commands = has.shape.commands;
      tip = has.shape.tip;
      outcomes = has.shape.outcomes;
      fits = λ is. has.shape.fits (going is);
      known = has.shape.known;
      taken = has.shape.taken;
      owed = has.shape.owed;
      paid = has.shape.paid;
      rests = has.shape.rests;
      load = has.shape.load;
      staged = has.shape.staged;
      follower = has.shape.follower;
      plan = has.shape.plan;
      epoch = has.shape.epoch;
      bytes = has.shape.bytes;
      merge = λ is. has.shape.merge (going is);
    };
    sound = λ honest.
        let before = honest_before old.disk disk looked.keeps honest in
        let with = sound_at_work old hidden has work before in
        let sound = with.sound in
        inl (record {
          sound = record {
            behind = sound.behind;
            held = subst (λ (h : History). IsHeldBy (config_of old) (commit_state_of old) sound.behind h.now) (sym (looked.history before)) sound.held;
            counts = sound.counts;
            fits = λ is. sound.fits (going is);
          };
          streams = λ is. with.streams (going is);
          prepared = prepares with before;
        });
  }

  module _ (may : MayBegin old) (whole : IsHonest old.disk → IsWhole old.disk) where
    sound_now : IsHonest old.disk → DeviceInvariant old
    sound_now honest = (sound_at_work old hidden has (checking Sealed may.sealed (λ (is : Sealed ≡ Ready). cc)) honest).sound

    -- the sealed half's checkpoint is planned, and a plan begins
    pub begun_state : (merge : MergeView) (plan : Turn) → IsMergeOf old.geometry (other old.half) (old.epoch + 1) old.disk merge → (unprepared : ℕ) (preparation : PreparationView) → IsFresh preparation
        → IsState (record old { disk = disk; check = Planned; plan = plan; checkpoint = encoding_made merge; written = 0; unprepared = unprepared }) (record hidden { merge = Some merge; preparation = preparation })
    begun_state merge plan made unprepared preparation fresh = record {
      shape = record {
        limits = has.shape.limits;
        sectors = omega (arith, has.shape.sectors, looked.keeps.sectors);
        room = has.shape.room;
        place = has.shape.place;
        last = has.shape.last;
        few = has.shape.few;
        commands = has.shape.commands;
        tip = has.shape.tip;
        outcomes = has.shape.outcomes;
        fits = has.shape.fits;
        known = has.shape.known;
        taken = has.shape.taken;
        owed = has.shape.owed;
        paid = has.shape.paid;
        rests = has.shape.rests;
        load = has.shape.load;
        staged = has.shape.staged;
        follower = has.shape.follower;
        plan =
            let sized = sectors_fit (old.epoch + 1) old.geometry.checkpoint made.sealed (encoding_made merge) (spelled_so old.geometry (other old.half) (old.epoch + 1) old.disk merge made) made.fits in
            record {
              sectors = sectors_of (length (checkpoint_bytes rows_format (checkpoint_of (old.epoch + 1) made.sealed)));
              whole = sized.0;
              inside = sized.1;
              written = omega arith;
            };
        epoch = omega (arith, may.epoch);
        bytes = refl;
        merge = λ going planned. record { left = omega (arith, made.len); inside = made.inside; ready = made.ready };
      };
      sound = λ honest. inl (planned (honest_before old.disk disk looked.keeps honest));
    }
      where
        next : Checkpoint (List RowView)
        next = checkpoint_of (old.epoch + 1) made.sealed

        spelled : encoding_made merge ≡ checkpoint_encoding rows_format next
        spelled = spelled_so old.geometry (other old.half) (old.epoch + 1) old.disk merge made

        can : CanBeNewCheckpoint (config_of old) next
        can = record {
          can = made.can;
          known = omega arith;
          fits =
              let sized = sectors_fit (old.epoch + 1) old.geometry.checkpoint made.sealed (checkpoint_encoding rows_format next) refl made.fits in
              omega (arith, sized.0, sized.1);
        }

        planned : IsHonest old.disk → DeviceInvariantWith (record old { disk = disk; check = Planned; plan = plan; checkpoint = encoding_made merge; written = 0; unprepared = unprepared }) (Some merge) preparation
        planned before =
            let sound = sound_now before in
            let turn = may.sealed in
            let from = made.makes before sound.behind.old (area_reads old sound turn (whole before)) in
            record {
              sound = record {
                behind = behind_plan sound.behind next;
                held = subst (λ (h : History). IsHeldBy (config_of old) (checked (commit_state_of old) Planned 0) (behind_plan sound.behind next) h.now) (sym (looked.history before))
                    (held_when_plan_begins (List RowView) Command (config_of old) (commit_state_of old) sound.behind old.disk.history.now next turn sound.held
                    (folds old sound turn (whole before) made.sealed (made.reads before)) can);
                counts = (record { old = counts old sound turn (whole before) made.sealed (made.reads before); new = refl; version = refl }, spelled);
                fits = λ is. made.fits;
              };
              streams = λ going is. record { size = from.size; left = from.makes; sums = from.sums };
              prepared = λ going contents of. fresh old.geometry contents;
            }

    -- an honest device shows the half, and its checkpoint fits
    pub never_damaged : IsHonest old.disk
        → ((sealed : SealedHalf) → sealed_half old.geometry (other old.half) (reads_of old.disk) ≡ Some sealed → ¬ FitsArea old.geometry (checkpoint_of (old.epoch + 1) sealed)) → ⊥
    never_damaged honest refused =
        let sound = sound_now honest in
        let reads = half_reads old sound may.sealed (whole honest) in
        refused (folded old sound may.sealed (whole honest)) reads (fits_so old sound may.sealed (whole honest) (folded old sound may.sealed (whole honest)) reads may.going)

-- what looking at the device leaves, where the state before it is seen as `view`
module _ {old view : StateView} {old_hidden : PrivateState} (is : old ≡ view) (has : IsState old old_hidden) {new : StateView} {new_hidden : PrivateState} (now : IsState new new_hidden) where
  pub leaves_look : IsDeviceRead old.disk new.disk → StepLeaves view new
  leaves_look looked = subst (λ (v : StateView). StepLeaves v new) is (record {
    moments = record {
      keeps = looked.keeps;
      leaves = λ honest.
          subst (λ (h : History). Leaves old.disk.history h (OpensAroundCall (config_of old) (commit_state_of old) (commit_state_of new))) (sym (looked.history honest))
          (leaves_here (OpensAroundCall (config_of old) (commit_state_of old) (commit_state_of new)) old.disk.history (λ image left. inl (may_open old old_hidden has honest image left)));
    };
    exit = may_open new new_hidden now;
    behind = record {
      keeps = looked.keeps;
      leaves = λ honest.
          subst (λ (h : History). Leaves old.disk.history h (IsFromImage old.disk.history.now (SameBehind old.geometry))) (sym (looked.history honest))
          (leaves_here (IsFromImage old.disk.history.now (SameBehind old.geometry)) old.disk.history (λ image left. record { before = image; image = left; related = λ at n far. refl }));
    };
  })

-- a look by its result
pub looked_so : {T : Type 0} {result : Result T SealedError} {old new : Disk} → LooksAtHalf result old new → IsDeviceRead old new
looked_so looks = record { keeps = looks.keeps; history = looks.history }

-- and a state that may begin, seen as `view`, which may have stopped then
pub looked_on : (old : StateView) (hidden : PrivateState) → IsState old hidden → (view : StateView) → old ≡ view → MayBegin view → (disk : Disk) {T : Type 0} {result : Result T SealedError}
    → LooksAtHalf result old.disk disk → (stopped : Bool) → (stopped ≡ false → old.stopped ≡ false) → (preparation : PreparationView) → (stopped ≡ false → IsFresh preparation)
    → IsState (looked_at old disk stopped preparation) (record hidden { preparation = preparation })
looked_on old hidden has view view_is may_view disk looks stopped going preparation fresh =
    looked_state old hidden has disk (looked_so looks) (checking Sealed (subst MayBegin (sym view_is) may_view).sealed (λ (is : Sealed ≡ Ready). cc)) stopped going (calls_left preparation) preparation
    (λ with honest is contents of. fresh is old.geometry contents)

-- A state that may begin, seen as `view`, and what was read of its sealed half.
module _ (old : StateView) (hidden : PrivateState) (has : IsState old hidden) (whole : IsHonest old.disk → IsWhole old.disk) (view : StateView) (view_is : old ≡ view) (may_view : MayBegin view)
    (side : Half) (side_is : side ≡ other old.half) (disk : Disk) where
  may_old : MayBegin old
  may_old = subst MayBegin (sym view_is) may_view

  module _ (merge : MergeView) (made_there : IsMergeOf old.geometry side (old.epoch + 1) old.disk merge) where
    made_so : IsMergeOf old.geometry (other old.half) (old.epoch + 1) old.disk merge
    made_so = subst (λ (h : Half). IsMergeOf old.geometry h (old.epoch + 1) old.disk merge) side_is made_there

    encoded : IsEncoded old.geometry (old.epoch + 1) old.disk (sealed_half old.geometry (other old.half) (reads_of old.disk)) (encoding_made merge)
    encoded = record {
      sealed = made_so.sealed;
      reads = made_so.reads;
      spelled = spelled_so old.geometry (other old.half) (old.epoch + 1) old.disk merge made_so;
      can = made_so.can;
      fits = made_so.fits;
    }

    pub begun_so : {T : Type 0} {result : Result T SealedError} → LooksAtHalf result old.disk disk → (preparation : PreparationView) → IsFresh preparation
        → IsState (begun_with old disk (encoding_made merge) preparation) (record hidden { merge = Some merge; preparation = preparation })
    begun_so looks preparation = begun_state old hidden has disk (looked_so looks) may_old whole merge (plan_begun old.plan) made_so (calls_left preparation) preparation

    pub begins_so : {T : Type 0} (value : T) → LooksAtHalf (ok_of value) old.disk disk → (plan : Commit AtPlan) → plan.home ≡ old.home → plan.number ≡ (old.plan.number + 1) % 2 ^ 64
        → plan.phase ≡ record { done = false } → (preparation : PreparationView) → IsUnread preparation
        → BeginsCheckpoint (Ok plan) view (begun_with old disk (encoding_made merge) preparation)
    begins_so value looks plan home number phase preparation unread = subst (λ (v : StateView). BeginsCheckpoint (Ok plan) v (begun_with old disk (encoding_made merge) preparation)) view_is (
      may_old,
      record { is_of = record { home = home; number = number }; done = ap (λ (p : AtPlan). p.done) phase },
      looked_so looks,
      looks.faults,
      begun_is old disk (encoding_made merge) preparation unread,
      encoded,
      (sectors_fit (old.epoch + 1) old.geometry.checkpoint made_so.sealed (encoding_made merge) (spelled_so old.geometry (other old.half) (old.epoch + 1) old.disk merge made_so) made_so.fits).2,
    )

  pub damaged_so : {T : Type 0} (e : SealedError) → e ≡ half.Damaged → LooksAtHalf (error_of T e) old.disk disk
      → MergesSealed old.geometry side (old.epoch + 1) (Err e) old.disk → (preparation : PreparationView) → IsUnread preparation
      → BeginsCheckpoint (Err Damaged) view (looked_at old disk true preparation)
  damaged_so {T} e is looks_so merges preparation unread = subst (λ (v : StateView). BeginsCheckpoint (Err Damaged) v (looked_at old disk true preparation)) view_is (
    may_old,
    λ honest. never_damaged old hidden has disk (looked_so looks) may_old whole honest
        (subst (λ (h : Half). (sealed : SealedHalf) → sealed_half old.geometry h (reads_of old.disk) ≡ Some sealed → ¬ FitsArea old.geometry (checkpoint_of (old.epoch + 1) sealed)) side_is (refused honest)),
    looked_so looks,
    looks.faults,
    looked_is old disk true preparation unread,
  )
    where
      looks : LooksAtHalf (error_of T half.Damaged) old.disk disk
      looks = subst (λ (x : SealedError). LooksAtHalf (error_of T x) old.disk disk) is looks_so

      refused : MergesSealed old.geometry side (old.epoch + 1) (Err half.Damaged) old.disk
      refused = subst (λ (x : SealedError). MergesSealed old.geometry side (old.epoch + 1) (Err x) old.disk) is merges

  -- a call is refused for memory, or the device fails
  pub no_memory_so : {T : Type 0} (e : SealedError) → e ≡ half.NoMemory → LooksAtHalf (error_of T e) old.disk disk → (preparation : PreparationView) → IsUnread preparation
      → BeginsCheckpoint (Err NoMemory) view (looked_at old disk old.stopped preparation)
  no_memory_so {T} e is looks_so preparation unread =
      let looks = subst (λ (x : SealedError). LooksAtHalf (error_of T x) old.disk disk) is looks_so in
      subst (λ (v : StateView). BeginsCheckpoint (Err NoMemory) v (looked_at old disk old.stopped preparation)) view_is
      (may_old, looked_so looks, looks.faults, looked_is old disk old.stopped preparation unread)

  pub fault_so : {T : Type 0} (e : SealedError) → e ≡ half.Fault → LooksAtHalf (error_of T e) old.disk disk → (preparation : PreparationView) → IsUnread preparation
      → BeginsCheckpoint (Err Fault) view (looked_at old disk true preparation)
  fault_so {T} e is looks_so preparation unread =
      let looks = subst (λ (x : SealedError). LooksAtHalf (error_of T x) old.disk disk) is looks_so in
      subst (λ (v : StateView). BeginsCheckpoint (Err Fault) v (looked_at old disk true preparation)) view_is
      (may_old, looked_so looks, looks.faults, looked_is old disk true preparation unread)

  -- what the state and the half have in common
  with_old : IsHonest old.disk → DeviceInvariantWith old hidden.merge hidden.preparation
  with_old = sound_at_work old hidden has (checking Sealed may_old.sealed (λ (is : Sealed ≡ Ready). cc))

  module _ (honest : IsHonest old.disk) where
    abbrev contents_now : SealedContents
    contents_now = sealed_contents (with_old honest).sound.behind

    has_now : HasSealed old.geometry side contents_now (reads_of old.disk)
    has_now = subst (λ (h : Half). HasSealed old.geometry h contents_now (reads_of old.disk)) (sym side_is) (has_sealed old (with_old honest).sound may_old.sealed (whole honest))

    from_now : IsPreparedFrom old.geometry contents_now hidden.preparation
    from_now = (with_old honest).prepared may_old.going contents_now (λ _. refl)

  -- so it is after a piece more was read
  abbrev ReadsOn : PreparationView → Type 0
  ReadsOn preparation =
      IsHonest old.disk → (contents : SealedContents) → HasSealed old.geometry side contents (reads_of old.disk) → IsPreparedFrom old.geometry contents hidden.preparation
      → IsPreparedFrom old.geometry contents preparation

  pub read_on_so : {T : Type 0} {result : Result T SealedError} → LooksAtHalf result old.disk disk → (stopped : Bool) → (stopped ≡ false → old.stopped ≡ false) → (preparation : PreparationView)
      → ReadsOn preparation → IsState (looked_at old disk stopped preparation) (record hidden { preparation = preparation })
  read_on_so looks stopped going preparation reads_on =
      looked_state old hidden has disk (looked_so looks) (checking Sealed may_old.sealed (λ (is : Sealed ≡ Ready). cc)) stopped going (calls_left preparation) preparation
      (λ with honest is contents of. subst (λ (c : SealedContents). IsPreparedFrom old.geometry c preparation) (sym (of may_old.sealed))
      (reads_on honest (sealed_contents with.sound.behind)
      (subst (λ (h : Half). HasSealed old.geometry h (sealed_contents with.sound.behind) (reads_of old.disk)) (sym side_is) (has_sealed old with.sound may_old.sealed (whole honest)))
      (with.prepared (going is) (sealed_contents with.sound.behind) (λ _. refl))))

  -- and an honest device has no damaged half
  pub read_damaged_so : {T : Type 0} (e : SealedError) → e ≡ half.Damaged → LooksAtHalf (error_of T e) old.disk disk
      → (e ≡ half.Damaged → IsHonest old.disk → (contents : SealedContents) → HasSealed old.geometry side contents (reads_of old.disk) → ¬ IsPreparedFrom old.geometry contents hidden.preparation)
      → (preparation : PreparationView) → IsUnread preparation → PreparesCheckpoint (Err Damaged) view (looked_at old disk true preparation)
  read_damaged_so {T} e is looks_so refused preparation unread = subst (λ (v : StateView). PreparesCheckpoint (Err Damaged) v (looked_at old disk true preparation)) view_is (
    may_old,
    λ honest. refused is honest (contents_now honest) (has_now honest) (from_now honest),
    looked_so looks,
    looks.faults,
    looked_is old disk true preparation unread,
  )
    where
      looks : LooksAtHalf (error_of T half.Damaged) old.disk disk
      looks = subst (λ (x : SealedError). LooksAtHalf (error_of T x) old.disk disk) is looks_so

-- what is prepared is of the half that the state and its device have
module _ (old : StateView) (hidden : PrivateState) (has : IsState old hidden) (whole : IsHonest old.disk → IsWhole old.disk) (view : StateView) (view_is : old ≡ view) (may_view : MayBegin view)
    (side : Half) (side_is : side ≡ other old.half) where
  pub prepared_so : IsHonest old.disk → IsPreparedFor old.geometry side (reads_of old.disk) hidden.preparation
  prepared_so honest = inr (record {
    contents = contents_now old hidden has whole view view_is may_view side side_is old.disk honest;
    has = has_now old hidden has whole view view_is may_view side side_is old.disk honest;
    from = from_now old hidden has whole view view_is may_view side side_is old.disk honest;
  })
