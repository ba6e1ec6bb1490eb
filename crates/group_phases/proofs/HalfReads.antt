-- Facts of the halves from moment to moment.
use Rattle.std.proofs.Common.{◌≡◌, ℕ, ◌+◌, ◌*◌, ◌≤◌, sym, subst, arith}
use Rattle.byte_lists.specs.Sectors.{sector_at, IsOpenGate}
use Rattle.sector_dev.specs.Disk.{Moment}
use Rattle.sector_dev.proofs.Images.{clean_part_in}
use Rattle.store_layout.specs.declared.half.Half.{Half}
use Rattle.store_layout.specs.Layout.{Geometry, area_at, gate_at, journal_at, area_of, gate_of, journal_of}
use Rattle.store_layout.specs.FirstSector.{IsStore}
use Rattle.store_layout.specs.Checkpoint.{Head, Checkpoint, checkpoint_size}
use Rattle.store_layout.proofs.Exports.{store_same, head_same, checkpoint_same, begins_with_its_head}
use Rattle.group_phases.specs.Range.{Untouched}
use Rattle.group_phases.specs.StoreConfig.{StoreConfig, HasTitle}
use Rattle.group_phases.specs.Halves.{ReadsOpen, IsOpenHalf, IsClosedHalf, HasCheckpoint, HasHead, FirstReadsClosed, IsFirstClosed}
use Rattle.group_phases.proofs.Ranges.{reads_as_before, clean_kept}
use Rattle.group_phases.proofs.TailReads.{sectors_same}

-- a checkpoint that is there has its head there
pub head_of_checkpoint : {Db C : Type 0} (config : StoreConfig Db C) (half : Half) (checkpoint : Checkpoint Db) (moment : Moment) → HasCheckpoint config half checkpoint moment
    → HasHead config half checkpoint.head moment
head_of_checkpoint config half checkpoint moment has = record {
  begins = begins_with_its_head config.format.rows (area_of config.geometry half moment.reads) checkpoint has.begins;
  known = has.known;
  clean = clean_part_in moment.dirty at (checkpoint_size config.format.rows checkpoint) at 24 (omega arith) (omega arith) has.clean;
}
  where
    at : ℕ
    at = 512 * area_at config.geometry half

module _ (geometry : Geometry) (old new : Moment) (store : IsStore geometry old.reads) where
  pub title_kept : Untouched 0 20 old new → HasTitle geometry old → HasTitle geometry new
  title_kept same has = record {
    store = store_same geometry old.reads new.reads same.size store (reads_as_before 0 20 old new same);
    clean = clean_kept 0 20 old new same has.clean;
  }

  module _ (half : Half) where
    abbrev SameGate : Type 0
    SameGate = Untouched (512 * gate_at geometry half) 512 old new

    abbrev SameFirst : Type 0
    SameFirst = Untouched (512 * (journal_at geometry half + 0)) (512 * 1) old new

    gate_is : SameGate → gate_of geometry half new.reads ≡ gate_of geometry half old.reads
    gate_is same = reads_as_before (512 * gate_at geometry half) 512 old new same

    pub open_reads_kept : SameGate → ReadsOpen geometry half old → ReadsOpen geometry half new
    open_reads_kept same opened = subst IsOpenGate (sym (gate_is same)) opened

    pub closed_reads_kept : SameGate → (ReadsOpen geometry half old → ⊥) → ReadsOpen geometry half new → ⊥
    closed_reads_kept same closed opened = closed (subst IsOpenGate (gate_is same) opened)

    pub open_half_kept : SameGate → IsOpenHalf geometry half old → IsOpenHalf geometry half new
    open_half_kept same has = record { opened = open_reads_kept same has.opened; clean = clean_kept (512 * gate_at geometry half) 512 old new same has.clean }

    pub closed_half_kept : SameGate → IsClosedHalf geometry half old → IsClosedHalf geometry half new
    closed_half_kept same has = record { closed = closed_reads_kept same has.closed; clean = clean_kept (512 * gate_at geometry half) 512 old new same has.clean }

    first_is : 1 ≤ geometry.journal → SameFirst → sector_at 0 (journal_of geometry half old.reads) ≡ sector_at 0 (journal_of geometry half new.reads)
    first_is some same = sectors_same geometry half old new store.room 0 1 some same

    pub first_reads_kept : 1 ≤ geometry.journal → SameFirst → FirstReadsClosed geometry half old → FirstReadsClosed geometry half new
    first_reads_kept some same closed opened = closed (subst IsOpenGate (sym (first_is some same)) opened)

    pub first_kept : 1 ≤ geometry.journal → SameFirst → IsFirstClosed geometry half old → IsFirstClosed geometry half new
    first_kept some same has = record {
      closed = first_reads_kept some same has.closed;
      clean = clean_kept (512 * (journal_at geometry half + 0)) (512 * 1) old new same has.clean;
    }

module _ {Db C : Type 0} (config : StoreConfig Db C) (old new : Moment) (store : IsStore config.geometry old.reads) (half : Half) where
  pub checkpoint_kept : (checkpoint : Checkpoint Db) → Untouched (512 * area_at config.geometry half) (checkpoint_size config.format.rows checkpoint) old new
      → HasCheckpoint config half checkpoint old → HasCheckpoint config half checkpoint new
  checkpoint_kept checkpoint same has =
      let at : ℕ = 512 * area_at config.geometry half in
      let size : ℕ = checkpoint_size config.format.rows checkpoint in
      record {
        begins = checkpoint_same config.geometry old.reads new.reads same.size store half config.format.rows checkpoint (reads_as_before at size old new same) has.begins;
        known = has.known;
        clean = clean_kept at size old new same has.clean;
      }

  pub head_kept : (head : Head) → Untouched (512 * area_at config.geometry half) 24 old new → HasHead config half head old → HasHead config half head new
  head_kept head same has = record {
    begins = head_same config.geometry old.reads new.reads same.size store half head (reads_as_before (512 * area_at config.geometry half) 24 old new same) has.begins;
    known = has.known;
    clean = clean_kept (512 * area_at config.geometry half) 24 old new same has.clean;
  }
