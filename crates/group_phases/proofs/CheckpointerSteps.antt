-- What the checkpointer's calls make of its part, and what publishing a seal does.
use Rattle.std.proofs.Common.{◌≡◌, inl, inr, ℕ, ◌+◌, ◌-◌, ◌*◌, ◌≤◌, List, [], ◌∷◌, ◌++◌, length, take, drop, get_or, replicate, refl, sym, ◌∙◌, ap, subst, arith, length-append, Result, Ok, Err}
use Rattle.std.specs.List.{AllByRecursion}
use Rattle.std.proofs.lemmas.List.{take_at, take_all, drop_at, length-replicate}
use Rattle.std.proofs.Math.Seq.{take-add}
use Rattle.byte_lists.specs.Content.{part}
use Rattle.byte_lists.specs.Sectors.{sectors_of, sector_at, IsOpenGate, closed_gate, open_gate}
use Rattle.byte_lists.proofs.Contents.{length-part}
use Rattle.byte_lists.proofs.Padding.{length-padded}
use Rattle.sector_dev.specs.Disk.{Moment, Disk, IsHonest, reads_of}
use Rattle.sector_dev.specs.Calls.{WriteCall}
use Rattle.sector_dev.proofs.Results.{success}
use Rattle.store_layout.specs.declared.half.Half.{Half}
use Rattle.store_layout.specs.declared.half.Half.TheVariants.{First, Second}
use Rattle.store_layout.specs.Limits.{Limits, limits_of, AreAsLarge}
use Rattle.store_layout.specs.CommandFormat.{CommandFormat, IsAllowed}
use Rattle.store_layout.specs.Group.{last_place}
use Rattle.store_layout.specs.Layout.{Geometry, other, half_sectors, area_at, gate_at, journal_at, area_of, gate_of, journal_of}
use Rattle.store_layout.specs.Checkpoint.{checkpoint_bytes, checkpoint_encoding, checkpoint_size, IsCheckpoint}
use Rattle.store_layout.proofs.Exports.{chain_larger, later_allow_more, other_twice, half_inside, take_take}
use Rattle.group_phases.specs.declared.phases.Flush.TheVariants.{Durable}
use Rattle.group_phases.specs.declared.phases.Check.TheVariants.{Planned, Laid, Switched, SwitchFailed, Closing}
use Rattle.group_phases.specs.Range.{Untouched, AreRangesApart}
use Rattle.group_phases.specs.StoreConfig.{StoreConfig, HasTitle}
use Rattle.group_phases.specs.Tail.{GroupOrSeal, Commands, Seal, Tail, tail_place, CanBeLoad}
use Rattle.group_phases.specs.FlusherPart.{FlusherPart}
use Rattle.group_phases.specs.Halves.{ReadsOpen, IsOpenHalf, HasCheckpoint, FirstReadsClosed, IsFirstClosed}
use Rattle.group_phases.specs.BasePart.{CheckpointPair, sealed_of, OldStands, NewStands, CanBeNewCheckpoint, HasWritten, BasePart}
use Rattle.group_phases.specs.CheckpointerSteps.{StaysUnderLargerLimits, WritesBesideJournal, TakesTheNewVersion, base_switched, PublishesSeal, BeginsPlan, ChunkIsWritten, ChunksAreSynced, OpensHalf, HalfIsSynced, ClosesHalf, CloseIsSynced}
use Rattle.group_phases.proofs.Ranges.{parts_joined}
use Rattle.group_phases.proofs.Calls.{writes_leave_what_is_beside, writes_are_read}
use Rattle.group_phases.proofs.HalfReads.{head_of_checkpoint, checkpoint_kept, closed_half_kept}
use Rattle.group_phases.proofs.Kept.{checkpoint_inside, old_kept, new_kept, written_kept, base_kept, syncs_leave_both}
use Rattle.group_phases.proofs.FlusherSteps.{length-open_gate, closed_gate_closed, written_part, journal_part, synced_clean}

-- larger limits
allowed_larger : {C : Type 0} (format : CommandFormat C) (small large : Limits) → AreAsLarge small large → (commands : List C) → AllByRecursion (IsAllowed format small) commands
    → AllByRecursion (IsAllowed format large) commands
allowed_larger format small large larger [] all = all
allowed_larger format small large larger (command ∷ more) all = (format.grows small large (format.encoding command) command larger all.0, allowed_larger format small large larger more all.1)

pub load_larger : {C : Type 0} (format : CommandFormat C) (small large : Limits) (geometry : Geometry) (tail : Tail C) (load : GroupOrSeal C) → AreAsLarge small large
    → CanBeLoad format small geometry tail load → CanBeLoad format large geometry tail load
load_larger format small large geometry tail (Commands commands) larger can = (
  record {
    some = can.0.some;
    most = omega (arith, can.0.most, larger.most);
    short = can.0.short;
    last = can.0.last;
    allowed = allowed_larger format small large larger commands can.0.allowed;
  },
  can.1,
)
load_larger format small large geometry tail Seal larger can = can

pub stays_under_larger_limits : (C : Type 0) → StaysUnderLargerLimits C
stays_under_larger_limits C phase format small large geometry tail load moment larger has = record {
  groups = record {
    chain = chain_larger format small large larger (journal_of geometry tail.half moment.reads) 0 tail.start tail.groups tail.gate has.groups.chain;
    clean = has.groups.clean;
    room = has.groups.room;
  };
  can = load_larger format small large geometry tail load larger has.can;
  facts = has.facts;
}

pub takes_the_new_version : (Db C : Type 0) → TakesTheNewVersion Db C
takes_the_new_version Db C config base written moment has = record { epoch = has.epoch; tail = omega arith; gate = has.gate; area = has.area; old = has.old }

pub publishes_seal : (Db C : Type 0) → PublishesSeal Db C
publishes_seal Db C config base tail next written moment half_is start_is folds title ready has = (
  (
    record {
      folds = folds;
      gate = subst (λ (half : Half). IsOpenHalf config.geometry half moment) (sym (other_twice base.half)) ready.gate;
      area = subst (λ (half : Half). HasCheckpoint config half base.new moment) (sym (other_twice base.half)) ready.area;
      journal = subst (λ (t : Tail C). FlusherPart Durable config.format.commands (limits_of base.new.head.version) config.geometry t Seal moment) tail_is larger;
    },
    ready.closed,
  ),
  record {
    groups = record { chain = refl; clean = λ i from to. absurd (omega arith); room = omega (arith, title.store.limits) };
    can = subst (λ (n : ℕ). n ≤ last_place) here has.can;
    facts = record { closed = first.closed; clean = first.clean };
  },
)
  where
    larger : FlusherPart Durable config.format.commands (limits_of base.new.head.version) config.geometry tail Seal moment
    larger = stays_under_larger_limits C Durable config.format.commands (limits_of base.version) (limits_of base.new.head.version) config.geometry tail Seal moment
        (later_allow_more base.version base.new.head.version ready.tail) has

    tail_is : tail ≡ sealed_of (base_switched base tail next)
    tail_is = λ i. record { half = (half_is ∙ sym (other_twice base.half)) i; start = start_is i; groups = tail.groups; gate = tail.gate }

    first : IsFirstClosed config.geometry (other tail.half) moment
    first = subst (λ (half : Half). IsFirstClosed config.geometry (other half) moment) (sym half_is) ready.first

    here : tail_place tail ≡ tail_place tail + 0
    here = omega arith

pub begins_plan : (Db C : Type 0) → BeginsPlan Db C
begins_plan Db C config base next written moment folds can has = (
  record { folds = folds; gate = has.0.gate; area = has.0.area; journal = has.0.journal },
  has.1,
  can,
  record { inside = omega arith; front = refl },
)

-- a write in front of the tail's journal is apart from the other half, and one at the other half's
-- gates from that front
front_apart : (geometry : Geometry) (half : Half) (sector n : ℕ) → area_at geometry half ≤ sector → 512 * sector + n ≤ 512 * (gate_at geometry half + 1)
    → AreRangesApart (512 * sector) n (512 * area_at geometry (other half)) (512 * half_sectors geometry)
front_apart geometry First sector n low high = inl (omega arith)
front_apart geometry Second sector n low high = inr (omega arith)

gates_apart : (geometry : Geometry) (half : Half) (n : ℕ) → 2 ≤ geometry.journal → n ≤ 1024 → AreRangesApart (512 * gate_at geometry (other half)) n (512 * area_at geometry half) (512 * (geometry.checkpoint + 1))
gates_apart geometry First n room few = inr (omega arith)
gates_apart geometry Second n room few = inl (omega arith)

pub length-gates : length (closed_gate ++ closed_gate) ≡ 1024
length-gates = length-append closed_gate closed_gate ∙ omega (arith, length-replicate {A = ℕ} 512 0)

module _ {T E Db C : Type 0} (config : StoreConfig Db C) (base : CheckpointPair Db C) (result : Result T E) (old new : Disk) (honest : IsHonest old) (title : HasTitle config.geometry old.history.now)
    (sector : ℕ) (bytes : List ℕ) (call : WriteCall sector bytes result old new) (low : area_at config.geometry base.half ≤ sector)
    (high : 512 * sector + length bytes ≤ 512 * (gate_at config.geometry base.half + 1)) where
  front_leaves : (at n : ℕ) → AreRangesApart (512 * sector) (length bytes) at n → Untouched at n old.history.now new.history.now
  front_leaves at n apart =
      writes_leave_what_is_beside T E sector bytes result old new at n call honest (omega (arith, high, half_inside config.geometry base.half, title.store.room)) apart

  old_left : OldStands config base old.history.now → OldStands config base new.history.now
  old_left has =
      old_kept config base old.history.now new.history.now title
      (front_leaves (512 * area_at config.geometry (other base.half)) (512 * half_sectors config.geometry) (front_apart config.geometry base.half sector (length bytes) low high)) has

-- a chunk
module _ {Db C : Type 0} (config : StoreConfig Db C) (base : CheckpointPair Db C) (written more : ℕ) (old new : Disk)
    (inside : 512 * (written + more) ≤ length (checkpoint_encoding config.format.rows base.new)) (honest : IsHonest old) (title : HasTitle config.geometry old.history.now)
    (has : BasePart Planned config base written old.history.now) where
  abbrev encoding : List ℕ
  encoding = checkpoint_encoding config.format.rows base.new

  abbrev chunk : List ℕ
  chunk = part (512 * written) (512 * more) (checkpoint_encoding config.format.rows base.new)

  chunk_long : length (part (512 * written) (512 * more) (checkpoint_encoding config.format.rows base.new)) ≡ 512 * more
  chunk_long = length-part (512 * written) (512 * more) (checkpoint_encoding config.format.rows base.new) (omega (arith, inside))

  chunk_left : {T E : Type 0} (result : Result T E) → WriteCall (area_at config.geometry base.half + written) chunk result old new → BasePart Planned config base written new.history.now
  chunk_left result call = (
    old_left config base result old new honest title (area_at config.geometry base.half + written) chunk call (omega arith) (omega (arith, chunk_long, has.2.fits, inside)) has.0,
    closed_half_kept config.geometry old.history.now new.history.now title.store base.half
        (front_leaves config base result old new honest title (area_at config.geometry base.half + written) chunk call (omega arith) (omega (arith, chunk_long, has.2.fits, inside))
        (512 * gate_at config.geometry base.half) 512 (inl (omega (arith, chunk_long, has.2.fits, inside)))) has.1,
    has.2,
    written_kept config base old.history.now new.history.now title written
        (front_leaves config base result old new honest title (area_at config.geometry base.half + written) chunk call (omega arith) (omega (arith, chunk_long, has.2.fits, inside))
        (512 * area_at config.geometry base.half) (512 * written) (inr (omega arith))) has.3,
  )

  chunk_there : {T : Type 0} (E : Type 0) (value : T) → WriteCall (area_at config.geometry base.half + written) chunk (success E value) old new → HasWritten config base written new.history.now
      → HasWritten config base (written + more) new.history.now
  chunk_there {T} E value call front = record {
    inside = inside;
    front =
        ap (λ (n : ℕ). part (512 * area_at config.geometry base.half) n (reads_of new)) both
        ∙ parts_joined (512 * area_at config.geometry base.half) (512 * written) (512 * more) (reads_of new)
        ∙ (λ i. front.front i ++ behind i)
        ∙ sym (take-add (512 * written) (512 * more) encoding)
        ∙ ap (λ (n : ℕ). take n encoding) (sym both);
  }
    where
      both : 512 * (written + more) ≡ 512 * written + 512 * more
      both = omega arith

      there : 512 * area_at config.geometry base.half + 512 * written ≡ 512 * (area_at config.geometry base.half + written)
      there = omega arith

      behind : part (512 * area_at config.geometry base.half + 512 * written) (512 * more) (reads_of new) ≡ part (512 * written) (512 * more) encoding
      behind =
          (λ i. part (there i) (sym chunk_long i) (reads_of new))
          ∙ writes_are_read T E value (area_at config.geometry base.half + written) chunk old new call honest
          (omega (arith, chunk_long, has.2.fits, inside, half_inside config.geometry base.half, title.store.room))

pub writes_chunk : (T E Db C : Type 0) → ChunkIsWritten T E Db C
writes_chunk T E Db C config base written more (Ok value) old new inside call honest title has =
    let left = chunk_left config base written more old new inside honest title has (success E value) call in
    (left.0, left.1, left.2, chunk_there config base written more old new inside honest title has E value call left.3)
writes_chunk T E Db C config base written more (Err error) old new inside call honest title has =
    chunk_left config base written more old new inside honest title has (Err error) call

-- all of it is there
all_there : {Db C : Type 0} (config : StoreConfig Db C) (base : CheckpointPair Db C) (written : ℕ) (moment : Moment) → 512 * written ≡ length (checkpoint_encoding config.format.rows base.new)
    → CanBeNewCheckpoint config base.new → HasWritten config base written moment → IsCheckpoint config.format.rows (area_of config.geometry base.half moment.reads) base.new
all_there {Db} {C} config base written moment all can has = record {
  can = can.can;
  spelled =
      take_take size (512 * config.geometry.checkpoint) (drop at moment.reads) (omega (arith, few, can.fits))
      ∙ sym (take_take size (512 * written) (drop at moment.reads) (omega (arith, few, all)))
      ∙ ap (take size) (has.front ∙ take_all (512 * written) encoding (omega (arith, all)))
      ∙ take_at (checkpoint_bytes config.format.rows base.new) zeros size long;
}
  where
    at : ℕ
    at = 512 * area_at config.geometry base.half

    size : ℕ
    size = checkpoint_size config.format.rows base.new

    encoding : List ℕ
    encoding = checkpoint_encoding config.format.rows base.new

    zeros : List ℕ
    zeros = replicate (512 * sectors_of (length (checkpoint_bytes config.format.rows base.new)) - length (checkpoint_bytes config.format.rows base.new)) 0

    long : length (checkpoint_bytes config.format.rows base.new) ≡ checkpoint_size config.format.rows base.new
    long = omega arith

    few : checkpoint_size config.format.rows base.new ≤ length (checkpoint_encoding config.format.rows base.new)
    few = omega (arith, long, length-padded (checkpoint_bytes config.format.rows base.new))

pub syncs_chunks : (T E Db C : Type 0) → ChunksAreSynced T E Db C
syncs_chunks T E Db C config base written (Ok value) old new all call honest title has =
    let kept = base_kept config base old.history.now new.history.now title ((syncs_leave_both T E config.geometry base.half (success E value) old new call honest).1) Planned written has in (
      kept.0,
      kept.1,
      record {
        begins = all_there config base written new.history.now all kept.2 kept.3;
        known = kept.2.known;
        clean = synced_clean E value old new call honest (512 * area_at config.geometry base.half) (checkpoint_size config.format.rows base.new);
      },
    )
syncs_chunks T E Db C config base written (Err error) old new all call honest title has =
    base_kept config base old.history.now new.history.now title ((syncs_leave_both T E config.geometry base.half (Err error) old new call honest).1) Planned written has

-- the new half's gate, whatever lands
half_written : {T E Db C : Type 0} (config : StoreConfig Db C) (base : CheckpointPair Db C) (written : ℕ) (result : Result T E) (old new : Disk)
    → WriteCall (gate_at config.geometry base.half) open_gate result old new → IsHonest old → HasTitle config.geometry old.history.now
    → BasePart Laid config base written old.history.now → BasePart SwitchFailed config base written new.history.now
half_written config base written result old new call honest title has = (
  old_left config base result old new honest title (gate_at config.geometry base.half) open_gate call (omega arith) (omega (arith, length-open_gate)) has.0,
  checkpoint_kept config old.history.now new.history.now title.store base.half base.new
      (front_leaves config base result old new honest title (gate_at config.geometry base.half) open_gate call (omega arith) (omega (arith, length-open_gate))
      (512 * area_at config.geometry base.half) (checkpoint_size config.format.rows base.new) (inr (omega (arith, inside)))) has.2,
)
  where
    inside : checkpoint_size config.format.rows base.new ≤ 512 * config.geometry.checkpoint
    inside = checkpoint_inside config.format.rows config.geometry (reads_of old) base.half base.new title.store has.2.begins

pub opens_half : (T E Db C : Type 0) → OpensHalf T E Db C
opens_half T E Db C config base written (Ok value) old new call honest title has =
    let left = half_written config base written (success E value) old new call honest title has in (left.0, left.1, opened)
  where
    fits : 512 * gate_at config.geometry base.half + length open_gate ≤ length (reads_of old)
    fits = omega (arith, length-open_gate, half_inside config.geometry base.half, title.store.room)

    gate_is : gate_of config.geometry base.half (reads_of new) ≡ open_gate
    gate_is =
        ap (λ (n : ℕ). part (512 * gate_at config.geometry base.half) n (reads_of new)) (sym length-open_gate)
        ∙ writes_are_read T E value (gate_at config.geometry base.half) open_gate old new call honest fits

    opened : ReadsOpen config.geometry base.half new.history.now
    opened = ap (λ (list : List ℕ). get_or list 0 0) gate_is
opens_half T E Db C config base written (Err error) old new call honest title has = half_written config base written (Err error) old new call honest title has

pub syncs_half : (T E Db C : Type 0) → HalfIsSynced T E Db C
syncs_half T E Db C config base written (Ok value) old new call honest title has =
    let kept = base_kept config base old.history.now new.history.now title ((syncs_leave_both T E config.geometry base.half (success E value) old new call honest).1) Switched written has in
    record {
      epoch = kept.0.folds.epoch;
      tail = omega (arith, kept.0.folds.tail, kept.0.folds.version);
      gate = record { opened = kept.2; clean = synced_clean E value old new call honest (512 * gate_at config.geometry base.half) 512 };
      area = kept.1;
      old = head_of_checkpoint config (other base.half) base.old new.history.now kept.0.area;
    }
syncs_half T E Db C config base written (Err error) old new call honest title has =
    base_kept config base old.history.now new.history.now title ((syncs_leave_both T E config.geometry base.half (Err error) old new call honest).1) Switched written has

-- the old half's gates
module _ {Db C : Type 0} (config : StoreConfig Db C) (base : CheckpointPair Db C) (old new : Disk) (honest : IsHonest old) (title : HasTitle config.geometry old.history.now) where
  gates_fit : 512 * gate_at config.geometry (other base.half) + length (closed_gate ++ closed_gate) ≤ length (reads_of old)
  gates_fit = omega (arith, length-gates, half_inside config.geometry (other base.half), title.store.room, title.store.limits)

  -- whatever lands
  gates_written : {T E : Type 0} (result : Result T E) → WriteCall (gate_at config.geometry (other base.half)) (closed_gate ++ closed_gate) result old new
      → NewStands config base old.history.now → NewStands config base new.history.now
  gates_written {T} {E} result call has =
      new_kept config base old.history.now new.history.now title
      (leave (512 * area_at config.geometry base.half) (512 * (config.geometry.checkpoint + 1))
      (gates_apart config.geometry base.half (length (closed_gate ++ closed_gate)) (omega (arith, title.store.limits)) (omega (arith, length-gates))))
      (leave (512 * area_at config.geometry (other base.half)) 24 (inr (omega (arith, title.store.limits)))) has
    where
      leave : (at n : ℕ) → AreRangesApart (512 * gate_at config.geometry (other base.half)) (length (closed_gate ++ closed_gate)) at n → Untouched at n old.history.now new.history.now
      leave at n apart =
          writes_leave_what_is_beside T E (gate_at config.geometry (other base.half)) (closed_gate ++ closed_gate) result old new at n call honest gates_fit apart

  one_gate : length closed_gate ≡ 512
  one_gate = length-replicate {A = ℕ} 512 0

  -- both are closed
  module _ {T : Type 0} (E : Type 0) (value : T) (call : WriteCall (gate_at config.geometry (other base.half)) (closed_gate ++ closed_gate) (success E value) old new) where
    gate_is : gate_of config.geometry (other base.half) (reads_of new) ≡ closed_gate
    gate_is =
        ap (λ (at : ℕ). part at 512 (reads_of new)) here
        ∙ written_part E value (gate_at config.geometry (other base.half)) (closed_gate ++ closed_gate) old new call honest gates_fit 0 512 (omega (arith, length-gates))
        ∙ take_at closed_gate closed_gate 512 one_gate
      where
        here : 512 * gate_at config.geometry (other base.half) ≡ 512 * gate_at config.geometry (other base.half) + 0
        here = omega arith

    first_is : sector_at 0 (journal_of config.geometry (other base.half) (reads_of new)) ≡ closed_gate
    first_is =
        journal_part config.geometry (other base.half) (512 * 0) 512 (reads_of new) (omega (arith, title.store.limits))
        ∙ ap (λ (at : ℕ). part at 512 (reads_of new)) here
        ∙ written_part E value (gate_at config.geometry (other base.half)) (closed_gate ++ closed_gate) old new call honest gates_fit 512 512 (omega (arith, length-gates))
        ∙ ap (take 512) (drop_at closed_gate closed_gate 512 one_gate) ∙ take_all 512 closed_gate (omega (arith, one_gate))
      where
        here : 512 * journal_at config.geometry (other base.half) + 512 * 0 ≡ 512 * gate_at config.geometry (other base.half) + 512
        here = omega arith

    gate_closed : ReadsOpen config.geometry (other base.half) new.history.now → ⊥
    gate_closed opened = closed_gate_closed (subst IsOpenGate gate_is opened)

    first_closed : FirstReadsClosed config.geometry (other base.half) new.history.now
    first_closed opened = closed_gate_closed (subst IsOpenGate first_is opened)

pub closes_half : (T E Db C : Type 0) → ClosesHalf T E Db C
closes_half T E Db C config base written (Ok value) old new call honest title has = (
  gates_written config base old new honest title (success E value) call has,
  gate_closed config base old new honest title E value call,
  first_closed config base old new honest title E value call,
)
closes_half T E Db C config base written (Err error) old new call honest title has = gates_written config base old new honest title (Err error) call has

pub syncs_close : (T E Db C : Type 0) → CloseIsSynced T E Db C
syncs_close T E Db C config base written (Ok value) old new call honest title has =
    let kept = base_kept config base old.history.now new.history.now title ((syncs_leave_both T E config.geometry base.half (success E value) old new call honest).1) Closing written has in
    record {
      tail = kept.0.tail;
      gate = kept.0.gate;
      area = kept.0.area;
      closed = record { closed = kept.1; clean = synced_clean E value old new call honest (512 * gate_at config.geometry (other base.half)) 512 };
      first = record { closed = kept.2; clean = synced_clean E value old new call honest (512 * (journal_at config.geometry (other base.half) + 0)) (512 * 1) };
    }
syncs_close T E Db C config base written (Err error) old new call honest title has =
    base_kept config base old.history.now new.history.now title ((syncs_leave_both T E config.geometry base.half (Err error) old new call honest).1) Closing written has

pub writes_beside_journal : (Db C : Type 0) → WritesBesideJournal Db C
writes_beside_journal Db C config base written more sizes can inside = record {
  chunk = inl (record { from = omega arith; to = omega (arith, long, can.fits, inside) });
  gate = inl (record { from = omega arith; to = omega (arith, length-open_gate) });
  gates = inr (record { from = omega arith; to = omega (arith, length-gates, sizes) });
}
  where
    long : length (part (512 * written) (512 * more) (checkpoint_encoding config.format.rows base.new)) ≡ 512 * more
    long = length-part (512 * written) (512 * more) (checkpoint_encoding config.format.rows base.new) (omega (arith, inside))
