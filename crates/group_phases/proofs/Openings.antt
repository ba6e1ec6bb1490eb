-- What images open to, by the checkpointer's part and what the tail's journal reads as.
use Rattle.std.proofs.Common.{◌≡◌, ℕ, ◌+◌, ◌*◌, ◌<◌, ◌≤◌, Bool, true, false, List, Some, None, refl, sym, subst, arith}
use Rattle.byte_lists.specs.Sectors.{IsOpenGate, is_open_gate}
use Rattle.byte_lists.proofs.Padding.{true_open, false_open}
use Rattle.sector_dev.specs.Disk.{Moment}
use Rattle.sector_dev.specs.Image.{IsCleanPart, IsImage}
use Rattle.store_layout.specs.declared.half.Half.{Half}
use Rattle.store_layout.specs.Limits.{limits_of}
use Rattle.store_layout.specs.Journal.{Reading, IsJournal}
use Rattle.store_layout.specs.Layout.{other, area_at, gate_at, journal_at, area_of, gate_of, journal_of}
use Rattle.store_layout.specs.FirstSector.{IsStore}
use Rattle.store_layout.specs.StoreFormat.{db_after}
use Rattle.store_layout.specs.Checkpoint.{Checkpoint, IsCheckpoint, checkpoint_size}
use Rattle.store_layout.specs.Opening.{HasOlderHead}
use Rattle.store_layout.specs.TakeOver.{empty_journal}
use Rattle.store_layout.proofs.Exports.{read_under_larger_limits, later_allow_more, other_twice, empty_read}
use Rattle.group_phases.specs.declared.phases.Flush.TheVariants.{Durable}
use Rattle.group_phases.specs.declared.phases.Check.{Check}
use Rattle.group_phases.specs.declared.phases.Check.TheVariants.{Ready, Sealed, Planned, Laid, Switched, SwitchFailed, Live, Closing, CloseFailed}
use Rattle.group_phases.specs.Range.{Untouched, as_moment}
use Rattle.group_phases.specs.StoreConfig.{StoreConfig, HasTitle}
use Rattle.group_phases.specs.Tail.{Seal, tail_place, with_load}
use Rattle.group_phases.specs.Halves.{IsOpenHalf, IsClosedHalf, HasCheckpoint, HasHead}
use Rattle.group_phases.specs.BasePart.{CheckpointPair, sealed_of, OldStands, NewStands, IsOtherHalfReady, BasePart, MayBeSealed}
use Rattle.group_phases.specs.CommitState.{OpensSince}
use Rattle.group_phases.proofs.Ranges.{clean_stays_in_images}
use Rattle.group_phases.proofs.TailReads.{reads_by_its_part}
use Rattle.group_phases.proofs.HalfReads.{head_of_checkpoint, title_kept, open_half_kept, closed_half_kept, first_kept, checkpoint_kept, head_kept}

-- an image whose chosen half is known
module _ {Db C : Type 0} (config : StoreConfig Db C) (image : List ℕ) (store : IsStore config.geometry image) where
  -- what it opens to
  abbrev OpensSo : ℕ → Db → Reading C → Type 0
  OpensSo version db journal = OpensSince config version image (record { db = db_after config.format db journal.commands; place = journal.place })

  -- a half's journal from a place on, under the limits of a version
  abbrev Reads : Half → ℕ → ℕ → Reading C → Type 0
  Reads half version place journal = IsJournal config.format.commands (limits_of version) (journal_of config.geometry half image) place journal

  larger : (half : Half) (few many place : ℕ) (journal : Reading C) → few ≤ many → Reads half few place journal → Reads half many place journal
  larger half few many place journal allowed reads =
      read_under_larger_limits C config.format.commands (limits_of few) (limits_of many) (journal_of config.geometry half image) place journal (later_allow_more few many allowed) reads

  module _ (half : Half) (checkpoint : Checkpoint Db) (gate : IsOpenGate (gate_of config.geometry half image))
      (begins : IsCheckpoint config.format.rows (area_of config.geometry half image) checkpoint) (known : checkpoint.head.version ≤ config.latest)
      (version : ℕ) (since : version ≤ checkpoint.head.version) where
    pub opens_plain : (journal : Reading C) → (IsOpenGate (gate_of config.geometry (other half) image) → HasOlderHead config.latest (area_of config.geometry (other half) image) checkpoint.head.epoch)
        → Reads half checkpoint.head.version checkpoint.head.place journal → journal.sealed ≡ false → OpensSo version checkpoint.db journal
    opens_plain journal older reads unsealed = record {
      opens = record {
        opening = record { geometry = config.geometry; chosen = half; checkpoint = checkpoint; journal = journal; tail = None };
        is = record { half = record { store = store; gate = gate; begins = begins; known = known; older = older }; journal = reads; tail = unsealed };
        stands_for = refl;
      };
      since = since;
    }

    pub opens_sealed : (front behind : Reading C) → (IsOpenGate (gate_of config.geometry (other half) image) → ⊥)
        → Reads half checkpoint.head.version checkpoint.head.place front → front.sealed ≡ true
        → Reads (other half) checkpoint.head.version front.place behind → behind.sealed ≡ false → OpensSo version (db_after config.format checkpoint.db front.commands) behind
    opens_sealed front behind closed reads sealed goes_on unsealed = record {
      opens = record {
        opening = record { geometry = config.geometry; chosen = half; checkpoint = checkpoint; journal = front; tail = Some behind };
        is = record {
          half = record { store = store; gate = gate; begins = begins; known = known; older = λ opened. absurd (closed opened) };
          journal = reads;
          tail = (closed, record { sealed = sealed; journal = goes_on; unsealed = unsealed });
        };
        stands_for = refl;
      };
      since = since;
    }

-- images of a device that has the checkpointer's part
module _ {Db C : Type 0} (config : StoreConfig Db C) (base : CheckpointPair Db C) (moment : Moment) (title : HasTitle config.geometry moment) (image : List ℕ) (is : IsImage moment image)
    (journal : Reading C) (reads : IsJournal config.format.commands (limits_of base.version) (journal_of config.geometry base.half image) base.new.head.place journal) where
  abbrev im : Moment
  im = as_moment image

  same : (at n : ℕ) → IsCleanPart moment.dirty at n → Untouched at n moment im
  same at n clean = clean_stays_in_images at n moment image clean is

  store : IsStore config.geometry image
  store = (title_kept config.geometry moment im title.store (same 0 20 title.clean) title).store

  abbrev Opens : Type 0
  Opens = OpensSo config image store base.version base.new.db journal

  opened : (half : Half) → IsOpenHalf config.geometry half moment → IsOpenGate (gate_of config.geometry half image)
  opened half has = (open_half_kept config.geometry moment im title.store half (same (512 * gate_at config.geometry half) 512 has.clean) has).opened

  closed : (half : Half) → IsClosedHalf config.geometry half moment → IsOpenGate (gate_of config.geometry half image) → ⊥
  closed half has = (closed_half_kept config.geometry moment im title.store half (same (512 * gate_at config.geometry half) 512 has.clean) has).closed

  begins : (half : Half) (checkpoint : Checkpoint Db) → HasCheckpoint config half checkpoint moment → IsCheckpoint config.format.rows (area_of config.geometry half image) checkpoint
  begins half checkpoint has =
      (checkpoint_kept config moment im title.store half checkpoint (same (512 * area_at config.geometry half) (checkpoint_size config.format.rows checkpoint) has.clean) has).begins

  older : (half : Half) (checkpoint : Checkpoint Db) (epoch : ℕ) → HasHead config half checkpoint.head moment → checkpoint.head.epoch < epoch
      → HasOlderHead config.latest (area_of config.geometry half image) epoch
  older half checkpoint epoch has before = record {
    head = checkpoint.head;
    is = (head_kept config moment im title.store half checkpoint.head (same (512 * area_at config.geometry half) 24 has.clean) has).begins;
    known = has.known;
    older = before;
  }

  -- the tail under the limits of a later version
  reads_under : (version : ℕ) → base.version ≤ version → IsJournal config.format.commands (limits_of version) (journal_of config.geometry base.half image) base.new.head.place journal
  reads_under version allowed = larger config image store base.half base.version version base.new.head.place journal allowed reads

  ready : IsOtherHalfReady config base moment → Opens
  ready facts = by_seal journal.sealed refl
    where
      alone : IsOpenGate (gate_of config.geometry (other base.half) image) → ⊥
      alone = closed (other base.half) facts.closed

      by_seal : (b : Bool) → journal.sealed ≡ b → Opens
      by_seal false unsealed =
          opens_plain config image store base.half base.new (opened base.half facts.gate) (begins base.half base.new facts.area) facts.area.known base.version facts.tail journal
          (λ open_too. absurd (alone open_too)) (reads_under base.new.head.version facts.tail) unsealed
      by_seal true sealed =
          opens_sealed config image store base.half base.new (opened base.half facts.gate) (begins base.half base.new facts.area) facts.area.known base.version facts.tail journal (empty_journal journal.place)
          alone (reads_under base.new.head.version facts.tail) sealed
          (empty_read config.format.commands (limits_of base.new.head.version) (journal_of config.geometry (other base.half) image) journal.place
          (first_kept config.geometry moment im title.store (other base.half) (omega (arith, title.store.limits)) (same (512 * (journal_at config.geometry (other base.half) + 0)) (512 * 1) facts.first.clean) facts.first).closed)
          refl

  live : NewStands config base moment → journal.sealed ≡ false → Opens
  live facts unsealed =
      opens_plain config image store base.half base.new (opened base.half facts.gate) (begins base.half base.new facts.area) facts.area.known base.version facts.tail journal
      (λ open_too. older (other base.half) base.old base.new.head.epoch facts.old facts.epoch) (reads_under base.new.head.version facts.tail) unsealed

  -- the new half is closed
  old : OldStands config base moment → (IsOpenGate (gate_of config.geometry base.half image) → ⊥) → journal.sealed ≡ false → Opens
  old facts shut unsealed =
      subst (λ (db : Db). OpensSo config image store base.version db journal) facts.folds.db
      (opens_sealed config image store (other base.half) base.old (opened (other base.half) facts.gate) (begins (other base.half) base.old facts.area) facts.area.known base.version facts.folds.tail
      (with_load config.format.commands (sealed_of base) Seal) journal
      (subst (λ (half : Half). IsOpenGate (gate_of config.geometry half image) → ⊥) (sym (other_twice base.half)) shut)
      (reads_by_its_part C Durable config.format.commands (limits_of base.old.head.version) config.geometry (sealed_of base) Seal moment title facts.journal image is) refl
      behind unsealed)
    where
      tail : IsJournal config.format.commands (limits_of base.old.head.version) (journal_of config.geometry base.half image) (tail_place (sealed_of base)) journal
      tail = subst (λ (place : ℕ). IsJournal config.format.commands (limits_of base.old.head.version) (journal_of config.geometry base.half image) place journal) (sym facts.folds.place)
          (reads_under base.old.head.version facts.folds.tail)

      behind : IsJournal config.format.commands (limits_of base.old.head.version) (journal_of config.geometry (other (other base.half)) image) (tail_place (sealed_of base)) journal
      behind = subst (λ (half : Half). IsJournal config.format.commands (limits_of base.old.head.version) (journal_of config.geometry half image) (tail_place (sealed_of base)) journal)
          (sym (other_twice base.half)) tail

  -- the new half's gate is in doubt
  either : OldStands config base moment → HasCheckpoint config base.half base.new moment → journal.sealed ≡ false → Opens
  either facts new unsealed = by_gate (is_open_gate (gate_of config.geometry base.half image)) refl
    where
      by_gate : (b : Bool) → is_open_gate (gate_of config.geometry base.half image) ≡ b → Opens
      by_gate false shut = old facts (false_open (gate_of config.geometry base.half image) shut) unsealed
      by_gate true open_now =
          opens_plain config image store base.half base.new (true_open (gate_of config.geometry base.half image) open_now) (begins base.half base.new new) new.known base.version (omega (arith, facts.folds.tail, facts.folds.version)) journal
          (λ open_too. older (other base.half) base.old base.new.head.epoch (head_of_checkpoint config (other base.half) base.old moment facts.area) facts.folds.epoch)
          (reads_under base.new.head.version (omega (arith, facts.folds.tail, facts.folds.version))) unsealed

  pub base_images : (phase : Check) (written : ℕ) → BasePart phase config base written moment → MayBeSealed phase journal.sealed
      → OpensSince config base.version image (record { db = db_after config.format base.new.db journal.commands; place = journal.place })
  base_images Ready written facts may = ready facts
  base_images Sealed written facts may = old facts.0 (closed base.half facts.1) may
  base_images Planned written facts may = old facts.0 (closed base.half facts.1) may
  base_images Laid written facts may = old facts.0 (closed base.half facts.1) may
  base_images Switched written facts may = either facts.0 facts.1 may
  base_images SwitchFailed written facts may = either facts.0 facts.1 may
  base_images Live written facts may = live facts may
  base_images Closing written facts may = live facts.0 may
  base_images CloseFailed written facts may = live facts may
