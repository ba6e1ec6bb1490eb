-- Both parts at once: what each call of the checkpointer leaves on a device that holds what a state
-- represents.
use Rattle.std.proofs.Common.{◌≡◌, inl, inr, ℕ, ◌+◌, ◌*◌, Bool, ◌++◌, subst, arith, Result, Ok, Err}
use Rattle.byte_lists.specs.Content.{part}
use Rattle.sector_dev.specs.Disk.{Moment}
use Rattle.store_layout.specs.Limits.{limits_of}
use Rattle.store_layout.specs.Layout.{other, area_at, gate_at}
use Rattle.store_layout.specs.Checkpoint.{checkpoint_encoding}
use Rattle.group_phases.specs.declared.phases.Check.{Check}
use Rattle.group_phases.specs.declared.phases.Check.TheVariants.{Ready, Planned, Laid, Switched, SwitchFailed, Live, Closing, CloseFailed}
use Rattle.group_phases.specs.StoreConfig.{StoreConfig}
use Rattle.byte_lists.specs.Sectors.{closed_gate, open_gate}
use Rattle.group_phases.specs.BasePart.{CheckpointPair, BasePart, MayBeSealed}
use Rattle.group_phases.specs.Kept.{IsTailUntouched}
use Rattle.group_phases.specs.FlusherSteps.{by_result}
use Rattle.group_phases.specs.CommitState.{CommitState, load_of, seals, DeviceContents, tail_of, checkpoint_pair_of, IsHeldBy}
use Rattle.group_phases.specs.HeldChecks.{checked, HeldWhileChunkIsWritten, HeldWhileChunksAreSynced, HeldWhileHalfIsOpened, HeldWhileHalfIsClosed, HeldWhileHalfIsSynced}
use Rattle.group_phases.proofs.HalfReads.{title_kept}
use Rattle.group_phases.proofs.Kept.{keeps_flusher_part, base_writes_leave_tail, syncs_leave_both}
use Rattle.group_phases.proofs.FlusherSteps.{length-open_gate}
use Rattle.group_phases.proofs.Followers.{keeps_followed}
use Rattle.group_phases.proofs.CheckpointerSteps.{length-gates, writes_beside_journal, writes_chunk, syncs_chunks, opens_half, syncs_half, closes_half, syncs_close}

module _ {Db C : Type 0} (config : StoreConfig Db C) (state : CommitState Db C) (behind : DeviceContents Db C) (old new : Moment) (held : IsHeldBy config state behind old) where
  abbrev base : CheckpointPair Db C
  base = checkpoint_pair_of state behind

  -- a step of the checkpointer, from its own part
  pub held_checked : (phase : Check) (written : ℕ) → IsTailUntouched config.geometry state.half old new → BasePart phase config base written new
      → MayBeSealed phase (seals state.flush (load_of state)) → IsHeldBy config (checked state phase written) behind new
  held_checked phase written same part_now may = record {
    title = title_kept config.geometry old new held.title.store same.title held.title;
    taken = held.taken;
    place = held.place;
    db = held.db;
    flusher = keeps_flusher_part C state.flush config.format.commands (limits_of state.version) config.geometry (tail_of state behind) (load_of state)
        old new held.title same held.flusher;
    base = part_now;
    seal = may;
    follower = keeps_followed state.flush config.format.commands (limits_of state.version) config.geometry (tail_of state behind)
        state.pending state.taken state.following old new held.title same held.follower;
  }

  -- its own part, at a phase that is known, and whether a seal is in flight there
  pub base_at : (phase : Check) → state.check ≡ phase → BasePart phase config base state.written old
  base_at phase is = subst (λ (p : Check). BasePart p config base state.written old) is held.base

  pub seal_at : (phase : Check) → state.check ≡ phase → MayBeSealed phase (seals state.flush (load_of state))
  seal_at phase is = subst (λ (p : Check). MayBeSealed p (seals state.flush (load_of state))) is held.seal

-- a seal may be in flight where the call leaves the checkpointer, if it may at both phases
may_by : {T E : Type 0} (done failed : Check) (sealed : Bool) (result : Result T E) → MayBeSealed done sealed → MayBeSealed failed sealed → MayBeSealed (by_result done failed result) sealed
may_by done failed sealed (Ok value) one two = one
may_by done failed sealed (Err error) one two = two

pub held_while_chunk_is_written : (T E Db C : Type 0) → HeldWhileChunkIsWritten T E Db C
held_while_chunk_is_written T E Db C config state behind more result old new is held inside call honest =
    let base_now : CheckpointPair Db C = checkpoint_pair_of state behind in
    let part_now = base_at config state behind old.history.now new.history.now held Planned is in
    let lies = writes_beside_journal Db C config base_now state.written more held.title.store.limits part_now.2 inside in
    held_checked config state behind old.history.now new.history.now held Planned (by_result (state.written + more) state.written result)
    (base_writes_leave_tail T E config.geometry state.half (area_at config.geometry state.half + state.written)
    (part (512 * state.written) (512 * more) (checkpoint_encoding config.format.rows behind.new)) result old new call honest held.title.store.room lies.chunk)
    (writes_chunk T E Db C config base_now state.written more result old new inside call honest held.title part_now)
    (seal_at config state behind old.history.now new.history.now held Planned is)

pub held_while_chunks_are_synced : (T E Db C : Type 0) → HeldWhileChunksAreSynced T E Db C
held_while_chunks_are_synced T E Db C config state behind result old new is held all call honest =
    let base_now : CheckpointPair Db C = checkpoint_pair_of state behind in
    let may = seal_at config state behind old.history.now new.history.now held Planned is in
    held_checked config state behind old.history.now new.history.now held (by_result Laid Planned result) state.written
    ((syncs_leave_both T E config.geometry state.half result old new call honest).0)
    (syncs_chunks T E Db C config base_now state.written result old new all call honest held.title (base_at config state behind old.history.now new.history.now held Planned is))
    (may_by Laid Planned (seals state.flush (load_of state)) result may may)

pub held_while_half_is_opened : (T E Db C : Type 0) → HeldWhileHalfIsOpened T E Db C
held_while_half_is_opened T E Db C config state behind result old new is call honest held =
    let base_now : CheckpointPair Db C = checkpoint_pair_of state behind in
    let may = seal_at config state behind old.history.now new.history.now held Laid is in
    held_checked config state behind old.history.now new.history.now held (by_result Switched SwitchFailed result) state.written
    (base_writes_leave_tail T E config.geometry state.half (gate_at config.geometry state.half) open_gate result old new call honest held.title.store.room
    (inl (record { from = omega arith; to = omega (arith, length-open_gate) })))
    (opens_half T E Db C config base_now state.written result old new call honest held.title (base_at config state behind old.history.now new.history.now held Laid is))
    (may_by Switched SwitchFailed (seals state.flush (load_of state)) result may may)

pub held_while_half_is_synced : (T E Db C : Type 0) → HeldWhileHalfIsSynced Switched Live T E Db C
held_while_half_is_synced T E Db C config state behind result old new is call honest held =
    let base_now : CheckpointPair Db C = checkpoint_pair_of state behind in
    let may = seal_at config state behind old.history.now new.history.now held Switched is in
    held_checked config state behind old.history.now new.history.now held (by_result Live Switched result) state.written
    ((syncs_leave_both T E config.geometry state.half result old new call honest).0)
    (syncs_half T E Db C config base_now state.written result old new call honest held.title (base_at config state behind old.history.now new.history.now held Switched is))
    (may_by Live Switched (seals state.flush (load_of state)) result may may)

pub held_while_half_is_closed : (T E Db C : Type 0) → HeldWhileHalfIsClosed T E Db C
held_while_half_is_closed T E Db C config state behind result old new is call honest held =
    let base_now : CheckpointPair Db C = checkpoint_pair_of state behind in
    let may = seal_at config state behind old.history.now new.history.now held Live is in
    held_checked config state behind old.history.now new.history.now held (by_result Closing CloseFailed result) state.written
    (base_writes_leave_tail T E config.geometry state.half (gate_at config.geometry (other state.half)) (closed_gate ++ closed_gate) result old new call honest held.title.store.room
    (inr (record { from = omega arith; to = omega (arith, length-gates, held.title.store.limits) })))
    (closes_half T E Db C config base_now state.written result old new call honest held.title (base_at config state behind old.history.now new.history.now held Live is))
    (may_by Closing CloseFailed (seals state.flush (load_of state)) result may may)

pub held_while_close_is_synced : (T E Db C : Type 0) → HeldWhileHalfIsSynced Closing Ready T E Db C
held_while_close_is_synced T E Db C config state behind result old new is call honest held =
    let base_now : CheckpointPair Db C = checkpoint_pair_of state behind in
    held_checked config state behind old.history.now new.history.now held (by_result Ready Closing result) state.written
    ((syncs_leave_both T E config.geometry state.half result old new call honest).0)
    (syncs_close T E Db C config base_now state.written result old new call honest held.title (base_at config state behind old.history.now new.history.now held Closing is))
    (may_by Ready Closing (seals state.flush (load_of state)) result tt (seal_at config state behind old.history.now new.history.now held Closing is))
