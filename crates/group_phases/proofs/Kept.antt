-- What one actor leaves alone, and so what stays of the other's part.
use Rattle.std.proofs.Common.{inl, inr, ℕ, ◌+◌, ◌*◌, ◌≤◌, List, length, ◌∙◌, ap, arith, length-take}
use Rattle.sector_dev.specs.Disk.{Moment}
use Rattle.store_layout.specs.declared.half.Half.{Half}
use Rattle.store_layout.specs.declared.half.Half.TheVariants.{First, Second}
use Rattle.store_layout.specs.Limits.{limits_of}
use Rattle.store_layout.specs.Layout.{Geometry, other, half_sectors, area_at, gate_at, journal_at, image_sectors, area_of}
use Rattle.store_layout.specs.FirstSector.{IsStore}
use Rattle.store_layout.specs.StoreFormat.{RowsFormat}
use Rattle.store_layout.specs.Checkpoint.{Checkpoint, checkpoint_size, IsCheckpoint}
use Rattle.store_layout.proofs.Exports.{area_long}
use Rattle.group_phases.specs.declared.phases.Flush.TheVariants.{Durable}
use Rattle.group_phases.specs.declared.phases.Check.{Check}
use Rattle.group_phases.specs.declared.phases.Check.TheVariants.{Ready, Sealed, Planned, Laid, Switched, SwitchFailed, Live, Closing, CloseFailed}
use Rattle.group_phases.specs.Range.{Untouched, AreRangesApart}
use Rattle.group_phases.specs.StoreConfig.{StoreConfig, HasTitle}
use Rattle.group_phases.specs.Tail.{Seal}
use Rattle.group_phases.specs.Halves.{HasCheckpoint}
use Rattle.group_phases.specs.BasePart.{CheckpointPair, sealed_of, OldStands, NewStands, HasWritten, BasePart}
use Rattle.group_phases.specs.Kept.{IsBaseUntouched, KeepsFlusherPart, KeepsBasePart, IsInJournal, IsBesideJournal, TailWritesLeaveBase, BaseWritesLeaveTail, SyncsLeaveBoth}
use Rattle.group_phases.proofs.Ranges.{reads_as_before, has_untouched_parts}
use Rattle.group_phases.proofs.Calls.{writes_leave_what_is_beside, syncs_leave_all}
use Rattle.group_phases.proofs.TailReads.{part_kept}
use Rattle.group_phases.proofs.HalfReads.{open_reads_kept, closed_reads_kept, open_half_kept, closed_half_kept, first_reads_kept, first_kept, checkpoint_kept, head_kept}

-- a journal from its first sector on
pub whole_journal : (geometry : Geometry) (half : Half) (old new : Moment) → Untouched (512 * journal_at geometry half) (512 * geometry.journal) old new
    → Untouched (512 * (journal_at geometry half + 0)) (512 * geometry.journal) old new
whole_journal geometry half old new same =
    has_untouched_parts (512 * journal_at geometry half) (512 * geometry.journal) (512 * (journal_at geometry half + 0)) (512 * geometry.journal) old new (omega arith) (omega arith) same

pub keeps_flusher_part : (C : Type 0) → KeepsFlusherPart C
keeps_flusher_part C phase format limits geometry tail load old new title same has =
    part_kept format limits geometry tail old new title.store.room phase load (whole_journal geometry tail.half old new same.journal) has

-- a checkpoint lies within its area
pub checkpoint_inside : {Db : Type 0} (rows : RowsFormat Db) (geometry : Geometry) (image : List ℕ) (half : Half) (checkpoint : Checkpoint Db) → IsStore geometry image
    → IsCheckpoint rows (area_of geometry half image) checkpoint → checkpoint_size rows checkpoint ≤ 512 * geometry.checkpoint
checkpoint_inside rows geometry image half checkpoint store is =
    omega (arith, ap length is.spelled, length-take (checkpoint_size rows checkpoint) (area_of geometry half image), area_long geometry image store.room half)

module _ {Db C : Type 0} (config : StoreConfig Db C) (old new : Moment) (title : HasTitle config.geometry old) (half : Half) where
  -- the area and the gate in front of a journal
  abbrev SameFront : Type 0
  SameFront = Untouched (512 * area_at config.geometry half) (512 * (config.geometry.checkpoint + 1)) old new

  pub front_gate : SameFront → Untouched (512 * gate_at config.geometry half) 512 old new
  front_gate same =
      has_untouched_parts (512 * area_at config.geometry half) (512 * (config.geometry.checkpoint + 1)) (512 * gate_at config.geometry half) 512 old new (omega arith) (omega arith) same

  pub front_area : (n : ℕ) → n ≤ 512 * config.geometry.checkpoint → SameFront → Untouched (512 * area_at config.geometry half) n old new
  front_area n inside same =
      has_untouched_parts (512 * area_at config.geometry half) (512 * (config.geometry.checkpoint + 1)) (512 * area_at config.geometry half) n old new (omega arith) (omega arith) same

  pub front_checkpoint : (checkpoint : Checkpoint Db) → SameFront → HasCheckpoint config half checkpoint old → HasCheckpoint config half checkpoint new
  front_checkpoint checkpoint same has =
      checkpoint_kept config old new title.store half checkpoint
      (front_area (checkpoint_size config.format.rows checkpoint) (checkpoint_inside config.format.rows config.geometry old.reads half checkpoint title.store has.begins) same) has

  -- a whole half has these, and its journal
  abbrev SameHalf : Type 0
  SameHalf = Untouched (512 * area_at config.geometry half) (512 * half_sectors config.geometry) old new

  pub half_front : SameHalf → SameFront
  half_front same =
      has_untouched_parts (512 * area_at config.geometry half) (512 * half_sectors config.geometry) (512 * area_at config.geometry half) (512 * (config.geometry.checkpoint + 1)) old new (omega arith) (omega arith) same

  pub half_journal : SameHalf → Untouched (512 * (journal_at config.geometry half + 0)) (512 * config.geometry.journal) old new
  half_journal same =
      has_untouched_parts (512 * area_at config.geometry half) (512 * half_sectors config.geometry) (512 * (journal_at config.geometry half + 0)) (512 * config.geometry.journal) old new (omega arith) (omega arith) same

  pub half_first : SameHalf → Untouched (512 * (journal_at config.geometry half + 0)) (512 * 1) old new
  half_first same =
      has_untouched_parts (512 * area_at config.geometry half) (512 * half_sectors config.geometry) (512 * (journal_at config.geometry half + 0)) (512 * 1) old new (omega arith) (omega (arith, title.store.limits)) same

module _ {Db C : Type 0} (config : StoreConfig Db C) (base : CheckpointPair Db C) (old new : Moment) (title : HasTitle config.geometry old) where
  abbrev beside : Half
  beside = other base.half

  abbrev SameBeside : Type 0
  SameBeside = Untouched (512 * area_at config.geometry (other base.half)) (512 * half_sectors config.geometry) old new

  some : 1 ≤ config.geometry.journal
  some = omega (arith, title.store.limits)

  pub old_kept : SameBeside → OldStands config base old → OldStands config base new
  old_kept same has = record {
    folds = has.folds;
    gate = open_half_kept config.geometry old new title.store beside (front_gate config old new title beside (half_front config old new title beside same)) has.gate;
    area = front_checkpoint config old new title beside base.old (half_front config old new title beside same) has.area;
    journal = part_kept config.format.commands (limits_of base.old.head.version) config.geometry (sealed_of base) old new title.store.room Durable Seal
        (half_journal config old new title beside same) has.journal;
  }

  abbrev SameNew : Type 0
  SameNew = Untouched (512 * area_at config.geometry base.half) (512 * (config.geometry.checkpoint + 1)) old new

  pub new_kept : SameNew → Untouched (512 * area_at config.geometry (other base.half)) 24 old new → NewStands config base old → NewStands config base new
  new_kept same same_head has = record {
    epoch = has.epoch;
    tail = has.tail;
    gate = open_half_kept config.geometry old new title.store base.half (front_gate config old new title base.half same) has.gate;
    area = front_checkpoint config old new title base.half base.new same has.area;
    old = head_kept config old new title.store beside base.old.head same_head has.old;
  }

  pub written_kept : (written : ℕ) → Untouched (512 * area_at config.geometry base.half) (512 * written) old new → HasWritten config base written old → HasWritten config base written new
  written_kept written same has = record { inside = has.inside; front = reads_as_before (512 * area_at config.geometry base.half) (512 * written) old new same ∙ has.front }

  module _ (same : IsBaseUntouched config.geometry base.half old new) where
    gate : Untouched (512 * gate_at config.geometry base.half) 512 old new
    gate = front_gate config old new title base.half same.front

    other_gate : Untouched (512 * gate_at config.geometry (other base.half)) 512 old new
    other_gate = front_gate config old new title beside (half_front config old new title beside same.beside)

    head : Untouched (512 * area_at config.geometry (other base.half)) 24 old new
    head = front_area config old new title beside 24 (omega (arith, title.store.limits)) (half_front config old new title beside same.beside)

    pub base_kept : (phase : Check) (written : ℕ) → BasePart phase config base written old → BasePart phase config base written new
    base_kept Ready written has = record {
      tail = has.tail;
      gate = open_half_kept config.geometry old new title.store base.half gate has.gate;
      area = front_checkpoint config old new title base.half base.new same.front has.area;
      closed = closed_half_kept config.geometry old new title.store beside other_gate has.closed;
      first = first_kept config.geometry old new title.store beside some (half_first config old new title beside same.beside) has.first;
    }
    base_kept Sealed written has = (old_kept same.beside has.0, closed_half_kept config.geometry old new title.store base.half gate has.1)
    base_kept Planned written has = (
      old_kept same.beside has.0,
      closed_half_kept config.geometry old new title.store base.half gate has.1,
      has.2,
      written_kept written (front_area config old new title base.half (512 * written) (omega (arith, has.2.fits, has.3.inside)) same.front) has.3,
    )
    base_kept Laid written has = (
      old_kept same.beside has.0,
      closed_half_kept config.geometry old new title.store base.half gate has.1,
      front_checkpoint config old new title base.half base.new same.front has.2,
    )
    base_kept Switched written has = (
      old_kept same.beside has.0,
      front_checkpoint config old new title base.half base.new same.front has.1,
      open_reads_kept config.geometry old new title.store base.half gate has.2,
    )
    base_kept SwitchFailed written has = (old_kept same.beside has.0, front_checkpoint config old new title base.half base.new same.front has.1)
    base_kept Live written has = new_kept same.front head has
    base_kept Closing written has = (
      new_kept same.front head has.0,
      closed_reads_kept config.geometry old new title.store beside other_gate has.1,
      first_reads_kept config.geometry old new title.store beside some (half_first config old new title beside same.beside) has.2,
    )
    base_kept CloseFailed written has = new_kept same.front head has

pub keeps_base_part : (Db C : Type 0) → KeepsBasePart Db C
keeps_base_part Db C phase config base written old new title same has = base_kept config base old new title same phase written has

-- where the ranges are
module _ (geometry : Geometry) where
  halves_inside : (half : Half) → journal_at geometry half + geometry.journal ≤ image_sectors geometry
  halves_inside First = omega arith
  halves_inside Second = omega arith

  area_behind : (half : Half) → 1 ≤ area_at geometry half
  area_behind First = omega arith
  area_behind Second = omega arith

  pub journal_apart_beside : (half : Half) (sector n : ℕ) → IsInJournal geometry half sector n
      → AreRangesApart (512 * sector) n (512 * area_at geometry (other half)) (512 * half_sectors geometry)
  journal_apart_beside First sector n in_journal = inl (omega (arith, in_journal))
  journal_apart_beside Second sector n in_journal = inr (omega (arith, in_journal))

  pub beside_apart : (half : Half) (sector n : ℕ) → IsBesideJournal geometry half sector n → AreRangesApart (512 * sector) n (512 * journal_at geometry half) (512 * geometry.journal)
  beside_apart half sector n (inl before) = inl (omega (arith, before))
  beside_apart First sector n (inr in_half) = inr (omega (arith, in_half))
  beside_apart Second sector n (inr in_half) = inl (omega (arith, in_half))

  -- they are after sector 0, and in the image
  pub beside_inside : (half : Half) (sector n : ℕ) → IsBesideJournal geometry half sector n → (1 ≤ sector) × (512 * sector + n ≤ 512 * image_sectors geometry)
  beside_inside half sector n (inl before) = (omega (arith, before, area_behind half), omega (arith, before, halves_inside half))
  beside_inside half sector n (inr in_half) = (omega (arith, in_half, area_behind (other half)), omega (arith, in_half, halves_inside (other half)))

pub tail_writes_leave_base : (T E : Type 0) → TailWritesLeaveBase T E
tail_writes_leave_base T E geometry half sector bytes result old new call honest room in_journal = record {
  title = leave 0 20 (inr (omega (arith, in_journal, area_behind geometry half)));
  front = leave (512 * area_at geometry half) (512 * (geometry.checkpoint + 1)) (inr (omega (arith, in_journal)));
  beside = leave (512 * area_at geometry (other half)) (512 * half_sectors geometry) (journal_apart_beside geometry half sector (length bytes) in_journal);
}
  where
    leave : (at n : ℕ) → AreRangesApart (512 * sector) (length bytes) at n → Untouched at n old.history.now new.history.now
    leave at n apart = writes_leave_what_is_beside T E sector bytes result old new at n call honest (omega (arith, in_journal, halves_inside geometry half)) apart

pub base_writes_leave_tail : (T E : Type 0) → BaseWritesLeaveTail T E
base_writes_leave_tail T E geometry half sector bytes result old new call honest room beside_journal =
    let inside = beside_inside geometry half sector (length bytes) beside_journal in
    record {
      title = writes_leave_what_is_beside T E sector bytes result old new 0 20 call honest (omega (arith, inside.1)) (inr (omega (arith, inside.0)));
      journal = writes_leave_what_is_beside T E sector bytes result old new (512 * journal_at geometry half) (512 * geometry.journal) call honest (omega (arith, inside.1))
          (beside_apart geometry half sector (length bytes) beside_journal);
    }

pub syncs_leave_both : (T E : Type 0) → SyncsLeaveBoth T E
syncs_leave_both T E geometry half result old new call honest = (
  record { title = leave 0 20; journal = leave (512 * journal_at geometry half) (512 * geometry.journal) },
  record {
    title = leave 0 20;
    front = leave (512 * area_at geometry half) (512 * (geometry.checkpoint + 1));
    beside = leave (512 * area_at geometry (other half)) (512 * half_sectors geometry);
  },
)
  where
    leave : (at n : ℕ) → Untouched at n old.history.now new.history.now
    leave at n = syncs_leave_all T E result old new at n call honest
