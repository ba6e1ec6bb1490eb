-- What a device holds of a store that was just opened.
use Rattle.std.proofs.Common.{◌≡◌, ℕ, ◌+◌, ◌<◌, ◌≤◌, Bool, true, false, List, [], length, Option, Some, None, refl, sym, ◌∙◌, ap, subst, arith}
use Rattle.byte_lists.specs.Sectors.{IsOpenGate, sector_at}
use Rattle.sector_dev.specs.Disk.{Moment, ByteRange}
use Rattle.sector_dev.specs.Image.{IsCleanPart}
use Rattle.sector_dev.proofs.Images.{clean_part_none}
use Rattle.store_layout.specs.declared.half.Half.{Half}
use Rattle.store_layout.specs.Limits.{limits_of}
use Rattle.store_layout.specs.Group.{last_place, seal_encoding}
use Rattle.store_layout.specs.Journal.{Reading, IsJournal, JournalEndsAs, all_of}
use Rattle.store_layout.specs.Layout.{Geometry, other, journal_of, gate_of}
use Rattle.store_layout.specs.StoreFormat.{StoreFormat, db_after}
use Rattle.store_layout.specs.Checkpoint.{Checkpoint}
use Rattle.store_layout.specs.Opening.{Opening, IsOpening, ContinuesAfterSeal}
use Rattle.store_layout.specs.TakeOver.{FoldsJournal}
use Rattle.store_layout.proofs.Exports.{chain_seal_room, chain_places, other_twice, journal_long}
use Rattle.group_phases.specs.declared.phases.Flush.TheVariants.{Resting, Durable}
use Rattle.group_phases.specs.StoreConfig.{StoreConfig, HasTitle}
use Rattle.group_phases.specs.Tail.{Seal, Tail}
use Rattle.group_phases.specs.Halves.{IsOpenHalf, HasCheckpoint}
use Rattle.group_phases.specs.FlusherPart.{HasGroups, FlusherPart}
use Rattle.group_phases.specs.BasePart.{CheckpointPair, OldStands}
use Rattle.group_phases.specs.CommitState.{DeviceContents}
use Rattle.group_phases.specs.HeldOpened.{config_at_opening, IsHeldFrom, IsHeldBehindSeal, HeldAtRest, HeldBehindSeal}

module _ {Db C : Type 0} (format : StoreFormat Db C) (latest : ℕ) (opening : Opening Db C) (moment : Moment) (none : moment.dirty ≡ []) (is : IsOpening format latest moment.reads opening) where
  abbrev config : StoreConfig Db C
  config = config_at_opening format latest opening

  clean : (at n : ℕ) → IsCleanPart moment.dirty at n
  clean at n = subst (λ (dirty : List ByteRange). IsCleanPart dirty at n) (sym none) (clean_part_none at n)

  title : HasTitle opening.geometry moment
  title = record { store = is.half.store; clean = clean 0 20 }

  open_half : IsOpenHalf opening.geometry opening.chosen moment
  open_half = record { opened = is.half.gate; clean = clean _ _ }

  checkpoint_there : HasCheckpoint config opening.chosen opening.checkpoint moment
  checkpoint_there = record { begins = is.half.begins; known = is.half.known; clean = clean _ _ }

  -- the groups of a journal that was read
  module _ (half : Half) (start : ℕ) (reading : Reading C)
      (journal : IsJournal format.commands (limits_of opening.checkpoint.head.version) (journal_of opening.geometry half moment.reads) start reading) where
    abbrev tail : Tail C
    tail = record { half = half; start = start; groups = journal.groups; gate = reading.tail }

    groups_there : HasGroups format.commands (limits_of opening.checkpoint.head.version) opening.geometry tail moment
    groups_there = record {
      chain = journal.chain;
      clean = clean _ _;
      room =
          let long = journal_long opening.geometry moment.reads is.half.store.room half in
          omega (
            arith,
            long,
            is.half.store.limits,
            chain_seal_room format.commands (limits_of opening.checkpoint.head.version) (journal_of opening.geometry half moment.reads) 0 start journal.groups reading.tail journal.chain (omega (arith, long, is.half.store.limits)),
          );
    }

    place_there : start + length (all_of journal.groups) ≡ reading.place
    place_there = omega (arith, journal.place, ap length journal.commands)

    small : start ≤ last_place → start + length (all_of journal.groups) ≤ last_place
    small = chain_places format.commands (limits_of opening.checkpoint.head.version) (journal_of opening.geometry half moment.reads) 0 start journal.groups reading.tail journal.chain

    -- it is not sealed
    resting_there : start ≤ last_place → reading.sealed ≡ false
        → FlusherPart Resting format.commands (limits_of opening.checkpoint.head.version) opening.geometry tail Seal moment
    resting_there low unsealed = record {
      groups = groups_there;
      can = small low;
      facts = record {
        closed = subst (λ (b : Bool). JournalEndsAs b (journal_of opening.geometry half moment.reads) reading.tail reading.place) unsealed journal.ends;
        clean = clean _ _;
      };
    }

    -- or it is
    sealed_there : start ≤ last_place → reading.sealed ≡ true
        → FlusherPart Durable format.commands (limits_of opening.checkpoint.head.version) opening.geometry tail Seal moment
    sealed_there low sealed = record {
      groups = groups_there;
      can = small low;
      facts = (
        record { spelled = ends.1.seal.spelled ∙ ap seal_encoding (sym place_there); next = tt },
        clean _ _,
        ends.0,
        clean _ _,
      );
    }
      where
        ends : JournalEndsAs true (journal_of opening.geometry half moment.reads) reading.tail reading.place
        ends = subst (λ (b : Bool). JournalEndsAs b (journal_of opening.geometry half moment.reads) reading.tail reading.place) sealed journal.ends

-- at rest
module _ {Db C : Type 0} (format : StoreFormat Db C) (latest : ℕ) (geometry : Geometry) (chosen : Half) (checkpoint : Checkpoint Db) (journal : Reading C) (moment : Moment) (none : moment.dirty ≡ []) where
  abbrev alone : Opening Db C
  alone = record { geometry = geometry; chosen = chosen; checkpoint = checkpoint; journal = journal; tail = None }

  at_rest : IsOpening format latest moment.reads alone → (¬ IsOpenGate (gate_of geometry (other chosen) moment.reads))
      → (¬ IsOpenGate (sector_at 0 (journal_of geometry (other chosen) moment.reads))) → IsHeldFrom format latest alone checkpoint moment
  at_rest is gate first = record {
    behind = record { groups = is.journal.groups; new = checkpoint; old = checkpoint; old_groups = []; old_gate = 0 };
    new_is = refl;
    by = record {
      title = title format latest alone moment none is;
      taken = omega arith;
      place = place_there format latest alone moment none is chosen checkpoint.head.place journal is.journal;
      db = ap (db_after format checkpoint.db) (sym is.journal.commands);
      flusher = resting_there format latest alone moment none is chosen checkpoint.head.place journal is.journal is.half.begins.can.head.place is.tail;
      base = record {
        tail = omega arith;
        gate = open_half format latest alone moment none is;
        area = checkpoint_there format latest alone moment none is;
        closed = record { closed = gate; clean = clean format latest alone moment none is _ _ };
        first = record { closed = first; clean = clean format latest alone moment none is _ _ };
      };
      seal = tt;
      follower = tt;
    };
  }

  -- after a seal
  module _ (last : Reading C) (next : Checkpoint Db) where
    abbrev sealed : Opening Db C
    sealed = record { geometry = geometry; chosen = chosen; checkpoint = checkpoint; journal = journal; tail = Some last }

    behind_seal : IsOpening format latest moment.reads sealed → FoldsJournal format sealed next → checkpoint.head.epoch < next.head.epoch
        → IsHeldBehindSeal format latest sealed next moment
    behind_seal is folds newer = record {
      held = record {
        behind = behind;
        new_is = refl;
        by = record {
          title = title format latest sealed moment none is;
          taken = omega arith;
          place = omega (arith, place_there format latest sealed moment none is (other chosen) journal.place last goes_on.journal, folds.place);
          db = ap (db_after format next.db) (sym goes_on.journal.commands) ∙ ap (λ (db : Db). db_after format db last.commands) folds.db;
          flusher =
              subst (λ (start : ℕ). FlusherPart Resting format.commands (limits_of checkpoint.head.version) geometry (tail_from start) Seal moment) (sym folds.place)
              (resting_there format latest sealed moment none is (other chosen) journal.place last goes_on.journal reached goes_on.unsealed);
          base = (old_stands, record { closed = is.tail.0; clean = clean format latest sealed moment none is _ _ });
          seal = refl;
          follower = tt;
        };
      };
      old_is = refl;
    }
      where
        goes_on : ContinuesAfterSeal format.commands (limits_of checkpoint.head.version) (journal_of geometry (other chosen) moment.reads) journal last
        goes_on = is.tail.1

        behind : DeviceContents Db C
        behind = record { groups = goes_on.journal.groups; new = next; old = checkpoint; old_groups = is.journal.groups; old_gate = journal.tail }

        tail_from : ℕ → Tail C
        tail_from start = record { half = other chosen; start = start; groups = goes_on.journal.groups; gate = last.tail }

        sealed_place : checkpoint.head.place + length (all_of is.journal.groups) ≡ journal.place
        sealed_place = place_there format latest sealed moment none is chosen checkpoint.head.place journal is.journal

        reached : journal.place ≤ last_place
        reached = omega (arith, sealed_place, small format latest sealed moment none is chosen checkpoint.head.place journal is.journal is.half.begins.can.head.place)

        base : CheckpointPair Db C
        base = record { half = other chosen; version = checkpoint.head.version; new = next; old = checkpoint; groups = is.journal.groups; gate = journal.tail }

        old_stands : OldStands (config_at_opening format latest sealed) base moment
        old_stands = record {
          folds = record {
            place = sealed_place ∙ sym folds.place;
            db = ap (db_after format checkpoint.db) (sym is.journal.commands) ∙ sym folds.db;
            epoch = newer;
            tail = omega arith;
            version = folds.version;
          };
          gate = subst (λ (half : Half). IsOpenHalf geometry half moment) (sym (other_twice chosen)) (open_half format latest sealed moment none is);
          area = subst (λ (half : Half). HasCheckpoint (config_at_opening format latest sealed) half checkpoint moment) (sym (other_twice chosen)) (checkpoint_there format latest sealed moment none is);
          journal =
              subst (λ (half : Half). FlusherPart Durable format.commands (limits_of checkpoint.head.version) geometry (record { half = half; start = checkpoint.head.place; groups = is.journal.groups; gate = journal.tail }) Seal moment)
              (sym (other_twice chosen)) (sealed_there format latest sealed moment none is chosen checkpoint.head.place journal is.journal is.half.begins.can.head.place goes_on.sealed);
        }

pub held_at_rest : (Db C : Type 0) → HeldAtRest Db C
held_at_rest Db C format latest opening moment none is ready = by_tail opening.tail refl
  where
    with_tail : Option (Reading C) → Opening Db C
    with_tail tail = record opening { tail = tail }

    by_tail : (tail : Option (Reading C)) → opening.tail ≡ tail → IsHeldFrom format latest opening opening.checkpoint moment
    by_tail None same =
        subst (λ (o : Opening Db C). IsHeldFrom format latest o opening.checkpoint moment) (λ i. with_tail (sym same i))
        (at_rest format latest opening.geometry opening.chosen opening.checkpoint opening.journal moment none
        (subst (λ (o : Opening Db C). IsOpening format latest moment.reads o) (λ i. with_tail (same i)) is) ready.gate ready.journal)
    by_tail (Some last) same = cc (same, ready.alone)

pub held_behind_seal : (Db C : Type 0) → HeldBehindSeal Db C
held_behind_seal Db C format latest opening moment last next none is same folds newer =
    subst (λ (o : Opening Db C). IsHeldBehindSeal format latest o next moment) (λ i. with_tail (sym same i))
    (behind_seal format latest opening.geometry opening.chosen opening.checkpoint opening.journal moment none last next
    (subst (λ (o : Opening Db C). IsOpening format latest moment.reads o) (λ i. with_tail (same i)) is) (record { db = folds.db; place = folds.place; version = folds.version }) newer)
  where
    with_tail : Option (Reading C) → Opening Db C
    with_tail tail = record opening { tail = tail }
