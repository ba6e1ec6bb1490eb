-- A checkpoint at rest, by the views of its store.
use Rattle.std.proofs.Common.{◌≡◌, ℕ, ◌+◌, ◌*◌, ◌≤◌, true, false, List, [], length, Some, None, Option, Ok, refl, sym, ◌∙◌, ap, subst, arith}
use Rattle.byte_lists.specs.Sectors.{sectors_of}
use Rattle.byte_lists.proofs.Padding.{length-padded}
use Rattle.sector_dev.specs.Disk.{Disk, IsHonest, IsWhole, reads_of}
use Rattle.sector_dev.specs.Image.{EveryImage, IsFromImage}
use Rattle.sector_dev.specs.Stretch.{Stretch}
use Rattle.sector_dev.proofs.Images.{image_of_reads, image_is_reads}
use Rattle.sector_dev.proofs.Stretches.{honest_before, stretch_here, at_exit, stretch_honest}
use Rattle.store_layout.specs.declared.half.Half.{Half}
use Rattle.store_layout.specs.Journal.{Reading}
use Rattle.store_layout.specs.Layout.{Geometry, other}
use Rattle.store_layout.specs.Checkpoint.{Head, Checkpoint, CanBeCheckpoint, checkpoint_bytes, checkpoint_encoding}
use Rattle.store_layout.specs.Opening.{Opening, limits_in, IsTail, IsOpening, StoreValue, opening_value, db_at_seal}
use Rattle.store_layout.specs.TakeOver.{taken_over, empty_journal}
use Rattle.store_open.specs.Closing.{HasClosedGates}
use Rattle.store_open.specs.NewStore.{DeviceHasRoomFor}
use Rattle.store_open.specs.Behind.{SameBehind}
use Rattle.row_map.specs.Database.{RowView, rows_len}
use Rattle.path_records.specs.RowRecord.{rows_encoding}
use Rattle.path_records.specs.RecordLaws.{WrittenRowsAreCounted}
use Rattle.path_db.specs.declared.command.Command.{Command}
use Rattle.store_layout.specs.Limits.{latest}
use Rattle.ckpt_pair.specs.Rows.{rows_format}
use Rattle.ckpt_pair.specs.Checkpoint.{written_checkpoint}
use Rattle.store_open.specs.PathStores.{store_format}
use Rattle.store_open.specs.Store.{StoreView, HasOpening, IsAtRest, OpensToStore, MayCheckpoint, counted_len, checkpointed, Checkpoints}
use Rattle.store_open.specs.StoreShape.{IsStoreWhole}
use Rattle.store_open.specs.TakingOver.{IsTakingOver, taken}
use Rattle.store_open.proofs.Switching.{MayTakeOver, same_value, taken_opens, taken_closed, opens_meanwhile}
use Rattle.store_open.proofs.Behind.{taking_beyond}
use Rattle.store_open.proofs.Rests.{sound_at_rest}

-- nothing was done
pub left_alone : (old : StoreView) → IsStoreWhole old → (view : StoreView) → old ≡ view → Stretch view.disk view.disk (OpensToStore view)
left_alone old whole view view_is =
    subst (λ (v : StoreView). Stretch v.disk v.disk (OpensToStore v)) view_is (stretch_here (OpensToStore old) old.disk (λ honest. (whole.sound honest).every))

-- nothing is dirty where a checkpoint may be made
pub settled_before : (old : StoreView) → IsStoreWhole old → (view : StoreView) → old ≡ view → MayCheckpoint view → IsHonest old.disk → old.disk.history.now.dirty ≡ []
settled_before old whole view view_is may honest = ((whole.sound honest).rest (subst MayCheckpoint (sym view_is) may).whole).settled

-- an opening whose journal is not sealed has no tail
no_tail : (opening : Opening (List RowView) Command) (image : List ℕ) → IsOpening store_format latest image opening → opening.journal.sealed ≡ false → opening.tail ≡ None
no_tail opening image is unsealed = by_tail opening.tail is.tail
  where
    by_tail : (tail : Option (Reading Command)) → IsTail store_format.commands (limits_in opening.checkpoint) opening.geometry (other opening.chosen) image opening.journal tail → tail ≡ None
    by_tail None on = refl
    by_tail (Some behind) on = absurd (true_is_false (sym on.1.sealed ∙ unsealed))
      where
        true_is_false : true ≡ false → ⊥
        true_is_false same = cc

-- the value of an opening without a tail
value_by_tail : (opening : Opening (List RowView) Command) (tail : Option (Reading Command)) → tail ≡ None
    → opening_value store_format (record opening { tail = tail }) ≡ record { db = db_at_seal store_format opening; place = opening.journal.place }
value_by_tail opening None is = refl
value_by_tail opening (Some behind) is = absurd (some_is_none is)
  where
    some_is_none : Some behind ≡ None → ⊥
    some_is_none same = cc

-- a checkpoint of these rows has room in the area
pub fits_area : (epoch place area : ℕ) (rows : List RowView) (bytes : List ℕ) → bytes ≡ checkpoint_encoding rows_format (written_checkpoint epoch place rows) → WrittenRowsAreCounted
    → 32 + rows_len rows ≤ 512 * area → length bytes ≤ 512 * area
fits_area epoch place area rows bytes spelled counted fits =
    let long : length bytes ≡ 512 * sectors_of (length (checkpoint_bytes rows_format (written_checkpoint epoch place rows))) = ap length spelled ∙ length-padded (checkpoint_bytes rows_format (written_checkpoint epoch place rows)) in
    let size : length (checkpoint_bytes rows_format (written_checkpoint epoch place rows)) ≡ 32 + length (rows_encoding rows) = omega arith in
    omega (arith, long, size, counted rows, fits)

-- A store at rest that may make a checkpoint, and the bytes of the checkpoint. The store before is
-- given as the view of its fields.
module _ (old : StoreView) (whole : IsStoreWhole old) (device : IsHonest old.disk → IsWhole old.disk) (view : StoreView) (view_is : old ≡ view) (may_view : MayCheckpoint view)
    (counted : WrittenRowsAreCounted) (bytes : List ℕ)
    (spelled : bytes ≡ checkpoint_encoding rows_format (written_checkpoint (old.head.epoch + 1) old.place old.rows))
    (can : CanBeCheckpoint rows_format (written_checkpoint (old.head.epoch + 1) old.place old.rows)) where
  may : MayCheckpoint old
  may = subst MayCheckpoint (sym view_is) may_view

  fits : length bytes ≤ 512 * old.geometry.checkpoint
  fits = fits_area (old.head.epoch + 1) old.place old.geometry.checkpoint old.rows bytes spelled counted may.fits

  abbrev next : Checkpoint (List RowView)
  next = written_checkpoint (old.head.epoch + 1) old.place old.rows

  abbrev MayBy : Opening (List RowView) Command → Type 0
  MayBy opening = MayTakeOver store_format latest (reads_of old.disk) opening next bytes

  rest : IsHonest old.disk → IsAtRest old
  rest honest = (whole.sound honest).rest may.whole

  module _ (honest : IsHonest old.disk) where
    abbrev opening : Opening (List RowView) Command
    opening = (rest honest).opening

    tells : HasOpening old opening
    tells = (rest honest).tells

    opens_so : IsOpening store_format latest (reads_of old.disk) opening
    opens_so = (rest honest).every (reads_of old.disk) (image_of_reads old.disk.history.now (device honest).bytes)

    none : opening.tail ≡ None
    none = no_tail opening (reads_of old.disk) opens_so (tells.sealed ∙ may.unsealed)

    abbrev reached : StoreValue (List RowView)
    reached = record { db = db_at_seal store_format opening; place = opening.journal.place }

    value : reached ≡ record { db = old.rows; place = old.place }
    value = sym (value_by_tail opening opening.tail none) ∙ tells.value

    value_db : db_at_seal store_format opening ≡ old.rows
    value_db = ap (λ (v : StoreValue (List RowView)). v.db) value

    value_place : opening.journal.place ≡ old.place
    value_place = ap (λ (v : StoreValue (List RowView)). v.place) value

    may_take_over : MayBy opening
    may_take_over = record {
      is = opens_so;
      none = none;
      unused = subst (λ (g : Geometry). HasClosedGates g (other opening.chosen) (reads_of old.disk)) (sym tells.geometry)
          (subst (λ (h : Half). HasClosedGates old.geometry (other h) (reads_of old.disk)) (sym tells.chosen)
          ((rest honest).unused may.unsealed (reads_of old.disk) (image_of_reads old.disk.history.now (device honest).bytes)));
      folds = record { db = sym value_db; place = sym value_place; version = opens_so.half.known };
      can = can;
      known = omega arith;
      newer = omega (arith, ap (λ (h : Head). h.epoch) tells.head);
      spelled = spelled;
      fits = omega (arith, fits, ap (λ (g : Geometry). g.checkpoint) tells.geometry);
    }

    abbrev fresh : Opening (List RowView) Command
    fresh = taken_over opening next (empty_journal old.place)

    taken_same : taken opening.geometry opening.chosen bytes (reads_of old.disk) ≡ taken old.geometry old.chosen bytes (reads_of old.disk)
    taken_same = λ i. taken (tells.geometry i) (tells.chosen i) bytes (reads_of old.disk)

    -- each image that a stop may leave in between opens to the same rows
    meanwhile : (content : List ℕ) → IsTakingOver old.geometry old.chosen bytes (reads_of old.disk) content → OpensToStore old content
    meanwhile content is =
        let after =
        opens_meanwhile store_format latest (reads_of old.disk) opening next bytes may_take_over content
        (subst (λ (g : Geometry). IsTakingOver g opening.chosen bytes (reads_of old.disk) content) (sym tells.geometry)
        (subst (λ (h : Half). IsTakingOver old.geometry h bytes (reads_of old.disk) content) (sym tells.chosen) is)) in
        record {
          opens = record { opening = after.opens.opening; is = after.opens.is; stands_for = after.opens.stands_for ∙ tells.value };
          since = omega (arith, after.since, ap (λ (h : Head). h.version) tells.head);
        }

    -- the other half alone is open afterwards
    module _ (new : Disk) (settled : new.history.now.dirty ≡ []) (is : reads_of new ≡ taken old.geometry old.chosen bytes (reads_of old.disk)) where
      new_reads : reads_of new ≡ taken opening.geometry opening.chosen bytes (reads_of old.disk)
      new_reads = is ∙ sym taken_same

      new_opens : IsOpening store_format latest (reads_of new) fresh
      new_opens = subst (λ (list : List ℕ). IsOpening store_format latest list fresh) (sym new_reads) (taken_opens store_format latest (reads_of old.disk) opening next bytes may_take_over)

      new_closed : HasClosedGates old.geometry (other (other old.chosen)) (reads_of new)
      new_closed = subst (λ (g : Geometry). HasClosedGates g (other (other old.chosen)) (reads_of new)) tells.geometry
          (subst (λ (h : Half). HasClosedGates opening.geometry (other (other h)) (reads_of new)) tells.chosen
          (subst (HasClosedGates opening.geometry (other (other opening.chosen))) (sym new_reads) (taken_closed store_format latest (reads_of old.disk) opening next bytes may_take_over)))

      pub rests : IsAtRest (checkpointed old new)
      rests = record {
        opening = fresh;
        tells = record {
          geometry = tells.geometry;
          chosen = ap other tells.chosen;
          head = refl;
          sealed = sym may.unsealed;
          gate = refl;
          value = same_value store_format latest (reads_of old.disk) opening next bytes may_take_over ∙ tells.value;
          sealed_len = refl;
        };
        settled = settled;
        every = λ content image. subst (λ (list : List ℕ). IsOpening store_format latest list fresh) (sym (image_is_reads new.history.now content settled image)) new_opens;
        unused = λ _ content image. subst (HasClosedGates old.geometry (other (other old.chosen))) (sym (image_is_reads new.history.now content settled image)) new_closed;
      }

  -- the images at every moment, on any device
  module _ (new : Disk) (moments : Stretch old.disk new (IsTakingOver old.geometry old.chosen bytes (reads_of old.disk))) where
    leaves_old : Stretch old.disk new (OpensToStore old)
    leaves_old = stretch_honest (IsTakingOver old.geometry old.chosen bytes (reads_of old.disk)) (OpensToStore old) old.disk new (λ honest content is. meanwhile honest content is) moments

    pub leaves_rows : Stretch view.disk new (OpensToStore view)
    leaves_rows = subst (λ (v : StoreView). Stretch v.disk new (OpensToStore v)) view_is leaves_old

    abbrev Behind : StoreView → List ℕ → Type 0
    Behind v = IsFromImage v.disk.history.now (SameBehind v.geometry)

    beyond : (honest : IsHonest old.disk) (content : List ℕ) → IsTakingOver old.geometry old.chosen bytes (reads_of old.disk) content → Behind old content
    beyond honest content is = record {
      before = reads_of old.disk;
      image = image_of_reads old.disk.history.now (device honest).bytes;
      related = taking_beyond old.geometry whole.room.allowed old.chosen bytes (reads_of old.disk) fits (omega (arith, (device honest).size, whole.room.room)) content is;
    }

    pub leaves_behind : Stretch view.disk new (Behind view)
    leaves_behind =
        subst (λ (v : StoreView). Stretch v.disk new (Behind v)) view_is
        (stretch_honest (IsTakingOver old.geometry old.chosen bytes (reads_of old.disk)) (Behind old) old.disk new beyond moments)

    still_room : DeviceHasRoomFor old.geometry new
    still_room = record { allowed = whole.room.allowed; room = omega (arith, whole.room.room, moments.keeps.sectors) }

    every_later : IsHonest new → EveryImage new.history.now (OpensToStore old)
    every_later honest = at_exit (OpensToStore old) old.disk new leaves_old (honest_before old.disk new moments.keeps honest)

    -- the device failed
    pub broken_store : IsStoreWhole (record old { disk = new; broken = true })
    broken_store = record {
      rows = whole.rows;
      room = still_room;
      within = whole.within;
      unsealed = λ _. may.unsealed;
      sound = λ honest. record {
        rest = λ is. absurd (true_is_false is);
        every = λ image is. let opens = every_later honest image is in record { opens = opens.opens; since = opens.since };
      };
    }
      where
        true_is_false : true ≡ false → ⊥
        true_is_false same = cc

    -- all went well
    module _ (settled : IsHonest old.disk → new.history.now.dirty ≡ []) (is : IsHonest old.disk → reads_of new ≡ taken old.geometry old.chosen bytes (reads_of old.disk))
        (chosen : Half) (chosen_is : chosen ≡ other old.chosen) (len : ℕ) (len_is : len ≡ counted_len old.rows) where
      abbrev made : StoreView
      made = record (checkpointed old new) { chosen = chosen; sealed_len = len }

      made_is : made ≡ checkpointed old new
      made_is = λ i. record (checkpointed old new) { chosen = chosen_is i; sealed_len = len_is i }

      at_rest : IsHonest old.disk → IsAtRest made
      at_rest honest = subst IsAtRest (sym made_is) (rests honest new (settled honest) (is honest))

      pub whole_store : IsStoreWhole made
      whole_store = record {
        rows = whole.rows;
        room = still_room;
        within = record { seal = omega (arith, whole.room.allowed.least_journal); known = omega arith };
        unsealed = λ _. may.unsealed;
        sound = λ honest. sound_at_rest made (at_rest (honest_before old.disk new moments.keeps honest));
      }

      pub made_so : (done : Unit {0}) → new.faults ≡ old.disk.faults → Checkpoints (Ok done) view made
      made_so done faults = subst (λ (v : StoreView). Checkpoints (Ok done) v made) view_is (may, made_is, faults, at_rest)
