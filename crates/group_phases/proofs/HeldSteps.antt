-- Both parts at once: what each call leaves on a device that holds what a state represents.
use Rattle.std.proofs.Common.{◌≡◌, inl, inr, ℕ, ◌+◌, List, refl, sym, ◌∙◌, ap, subst, Result, Ok, Err}
use Rattle.sector_dev.specs.Disk.{Moment}
use Rattle.sector_dev.specs.Calls.{WriteCall}
use Rattle.store_layout.specs.Limits.{Limits, limits_of}
use Rattle.store_layout.specs.CommandFormat.{CommandFormat}
use Rattle.store_layout.specs.Layout.{Geometry, journal_at}
use Rattle.group_phases.specs.declared.phases.Flush.{Flush}
use Rattle.group_phases.specs.declared.phases.Flush.TheVariants.{Staged, Written, Stable, Opened, Doubtful, Durable}
use Rattle.group_phases.specs.StoreConfig.{StoreConfig}
use Rattle.byte_lists.specs.Sectors.{open_gate}
use Rattle.group_phases.specs.Tail.{Tail, tail_place, load_bytes}
use Rattle.group_phases.specs.FlusherPart.{FlusherPart}
use Rattle.group_phases.specs.FollowerPart.{IsFollowed}
use Rattle.group_phases.specs.BasePart.{MayBeSealed}
use Rattle.group_phases.specs.Kept.{IsBaseUntouched}
use Rattle.group_phases.specs.FlusherSteps.{by_result}
use Rattle.group_phases.specs.CommitState.{CommitState, load_of, seals, DeviceContents, tail_of, checkpoint_pair_of, IsHeldBy, OpensToFront}
use Rattle.group_phases.specs.HeldSteps.{flushed, HeldWhileLoadIsWritten, HeldWhileGateIsOpened, HeldWhileSynced, OpensAroundCall, WritesLeaveFronts, SyncsLeaveFronts}
use Rattle.group_phases.proofs.Calls.{write_moments, sync_moments}
use Rattle.group_phases.proofs.HalfReads.{title_kept}
use Rattle.group_phases.proofs.Kept.{keeps_base_part, tail_writes_leave_base, syncs_leave_both}
use Rattle.group_phases.proofs.FlusherSteps.{writes_in_journal, writes_load, syncs_load, opens_tail_gate, syncs_tail_gate}
use Rattle.group_phases.proofs.CommitStates.{opens_by_both_parts}

module _ {Db C : Type 0} (config : StoreConfig Db C) (state : CommitState Db C) (behind : DeviceContents Db C) (old new : Moment) (held : IsHeldBy config state behind old) where
  abbrev tail : Tail C
  tail = tail_of state behind

  -- a step of the flusher, from its own part
  pub held_flushed : (phase : Flush) → IsBaseUntouched config.geometry state.half old new
      → FlusherPart phase config.format.commands (limits_of state.version) config.geometry tail (load_of state) new
      → seals state.flush (load_of state) ≡ seals phase (load_of state)
      → IsFollowed phase config.format.commands (limits_of state.version) config.geometry tail state.pending state.taken state.following new
      → IsHeldBy config (flushed state phase) behind new
  held_flushed phase same part sealed follows = record {
    title = title_kept config.geometry old new held.title.store same.title held.title;
    taken = held.taken;
    place = held.place;
    db = held.db;
    flusher = part;
    base = keeps_base_part Db C state.check config (checkpoint_pair_of state behind) state.written old new held.title same held.base;
    seal = subst (MayBeSealed state.check) sealed held.seal;
    follower = follows;
  }

  -- its own part, at a phase that is known
  pub part_at : (phase : Flush) → state.flush ≡ phase → FlusherPart phase config.format.commands (limits_of state.version) config.geometry tail (load_of state) old
  part_at phase is = subst (λ (p : Flush). FlusherPart p config.format.commands (limits_of state.version) config.geometry tail (load_of state) old) is held.flusher

-- the phase of a call changes nothing of whether a seal is in flight
pub seals_by : {T E Db C : Type 0} (state : CommitState Db C) (from done failed : Flush) (result : Result T E) → state.flush ≡ from
    → seals from (load_of state) ≡ seals done (load_of state) → seals from (load_of state) ≡ seals failed (load_of state)
    → seals state.flush (load_of state) ≡ seals (by_result done failed result) (load_of state)
seals_by state from done failed (Ok value) is one two = ap (λ (p : Flush). seals p (load_of state)) is ∙ one
seals_by state from done failed (Err error) is one two = ap (λ (p : Flush). seals p (load_of state)) is ∙ two

-- at some phases nothing follows
none_by : {T E C : Type 0} (done failed : Flush) (result : Result T E) (format : CommandFormat C) (limits : Limits) (geometry : Geometry) (at : Tail C) (pending : List C) (taken following : ℕ) (moment : Moment)
    → IsFollowed done format limits geometry at pending taken following moment → IsFollowed failed format limits geometry at pending taken following moment
    → IsFollowed (by_result done failed result) format limits geometry at pending taken following moment
none_by done failed (Ok value) format limits geometry at pending taken following moment one two = one
none_by done failed (Err error) format limits geometry at pending taken following moment one two = two

pub held_while_load_is_written : (T E Db C : Type 0) → HeldWhileLoadIsWritten T E Db C
held_while_load_is_written T E Db C config state behind result old new is call honest held =
    let lies = writes_in_journal C config.format.commands (limits_of state.version) config.geometry place_tail (load_of state) old.history.now held.flusher.groups held.flusher.can in
    held_flushed config state behind old.history.now new.history.now held (by_result Written Staged result)
    (tail_writes_leave_base T E config.geometry state.half (journal_at config.geometry state.half + (state.gate + 1)) (load_bytes config.format.commands (tail_place place_tail) (load_of state))
    result old new call_so honest held.title.store.room lies.0)
    (writes_load T E C config.format.commands (limits_of state.version) config.geometry place_tail (load_of state) result old new call_so honest held.title (part_at config state behind old.history.now new.history.now held Staged is))
    (seals_by state Staged Written Staged result is refl refl)
    (none_by Written Staged result config.format.commands (limits_of state.version) config.geometry (tail_of state behind) state.pending state.taken state.following new.history.now tt tt)
  where
    place_tail : Tail C
    place_tail = tail_of state behind

    call_so : WriteCall (journal_at config.geometry state.half + (state.gate + 1)) (load_bytes config.format.commands (tail_place place_tail) (load_of state)) result old new
    call_so = subst (λ (place : ℕ). WriteCall (journal_at config.geometry state.half + (state.gate + 1)) (load_bytes config.format.commands place (load_of state)) result old new) (sym held.place) call

pub held_while_gate_is_opened : (T E Db C : Type 0) → HeldWhileGateIsOpened T E Db C
held_while_gate_is_opened T E Db C config state behind result old new is call honest held =
    let lies = writes_in_journal C config.format.commands (limits_of state.version) config.geometry (tail_of state behind) (load_of state) old.history.now held.flusher.groups held.flusher.can in
    held_flushed config state behind old.history.now new.history.now held (by_result Opened Doubtful result)
    (tail_writes_leave_base T E config.geometry state.half (journal_at config.geometry state.half + state.gate) open_gate result old new call honest held.title.store.room lies.1)
    (opens_tail_gate T E C config.format.commands (limits_of state.version) config.geometry (tail_of state behind) (load_of state) result old new call honest held.title
    (part_at config state behind old.history.now new.history.now held Stable is))
    (seals_by state Stable Opened Doubtful result is refl refl)
    (none_by Opened Doubtful result config.format.commands (limits_of state.version) config.geometry (tail_of state behind) state.pending state.taken state.following new.history.now tt tt)

pub held_while_load_is_synced : (T E Db C : Type 0) → HeldWhileSynced Written Stable T E Db C
held_while_load_is_synced T E Db C config state behind result old new is call honest held =
    held_flushed config state behind old.history.now new.history.now held (by_result Stable Written result)
    ((syncs_leave_both T E config.geometry state.half result old new call honest).1)
    (syncs_load T E C config.format.commands (limits_of state.version) config.geometry (tail_of state behind) (load_of state) result old new call honest held.title
    (part_at config state behind old.history.now new.history.now held Written is))
    (seals_by state Written Stable Written result is refl refl)
    (none_by Stable Written result config.format.commands (limits_of state.version) config.geometry (tail_of state behind) state.pending state.taken state.following new.history.now tt tt)

pub held_while_gate_is_synced : (T E Db C : Type 0) → HeldWhileSynced Opened Durable T E Db C
held_while_gate_is_synced T E Db C config state behind result old new is call honest held =
    held_flushed config state behind old.history.now new.history.now held (by_result Durable Opened result)
    ((syncs_leave_both T E config.geometry state.half result old new call honest).1)
    (syncs_tail_gate T E C config.format.commands (limits_of state.version) config.geometry (tail_of state behind) (load_of state) result old new call honest held.title
    (part_at config state behind old.history.now new.history.now held Opened is))
    (seals_by state Opened Durable Opened result is refl refl)
    (none_by Durable Opened result config.format.commands (limits_of state.version) config.geometry (tail_of state behind) state.pending state.taken state.following new.history.now tt tt)

pub writes_leave_fronts : (T E Db C : Type 0) → WritesLeaveFronts T E Db C
writes_leave_fronts T E Db C config before after sector bytes result old new call held then_held =
    write_moments (OpensAroundCall config before after) sector bytes result old new call
    (λ honest image is. inl (opens_by_both_parts Db C config before old.history.now (held honest) image is))
    (λ honest image is. inr (opens_by_both_parts Db C config after new.history.now (then_held honest) image is))

pub syncs_leave_fronts : (T E Db C : Type 0) → SyncsLeaveFronts T E Db C
syncs_leave_fronts T E Db C config before result old new call held =
    sync_moments (OpensToFront config before) result old new call (λ honest. opens_by_both_parts Db C config before old.history.now (held honest))
