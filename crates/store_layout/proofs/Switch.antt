-- One half takes over from the other when its gate is opened, and then the old half may change.
use Rattle.std.proofs.Common.{◌≡◌, ◌≢◌, inl, inr, ℕ, ◌+◌, ◌*◌, ◌≤◌, List, [], ◌∷◌, length, take, Some, None, Option, sym, ◌∙◌, ap, subst, arith}
use Rattle.std.specs.List.{AllByRecursion}
use Rattle.byte_lists.specs.Content.{part, overwrite}
use Rattle.byte_lists.specs.Sectors.{whole_sectors, sector_at, IsOpenGate}
use Rattle.byte_lists.proofs.Contents.{length-overwrite, part_below, part_above}
use Rattle.store_layout.specs.declared.half.Half.{Half}
use Rattle.store_layout.specs.Journal.{Reading, IsJournal}
use Rattle.store_layout.specs.Layout.{Geometry, other, area_at, gate_at, area_of, gate_of, journal_of, image_sectors, Area, Gate, Journal, Region, FirstSector, InHalf, region_of}
use Rattle.store_layout.specs.FirstSector.{IsStore}
use Rattle.store_layout.specs.StoreFormat.{StoreFormat}
use Rattle.store_layout.specs.Checkpoint.{Checkpoint, IsHead, IsCheckpoint}
use Rattle.store_layout.specs.Opening.{Opening, limits_in, HasOlderHead, IsTail, IsChosen, IsOpening}
use Rattle.store_layout.specs.WhatCounts.{span, chosen_spans, IsApart}
use Rattle.store_layout.specs.Switch.{IsLaid, SwitchesByTheGate, SwitchesByTheGateAtRest, OlderHalfMayChange}
use Rattle.store_layout.proofs.Growth.{written_gate}
use Rattle.store_layout.proofs.Places.{other_twice, gate_inside}
use Rattle.store_layout.proofs.Writes.{writes_leave_others}
use Rattle.store_layout.proofs.Heads.{part_take}
use Rattle.store_layout.proofs.Checkpoints.{begins_with_its_head}
use Rattle.store_layout.proofs.Counts.{head_same, spans_kept, goes_by_the_chosen_half}
use Rattle.store_layout.proofs.StoreGrowth.{halves_differ}
use Rattle.store_layout.proofs.TakeOver.{same_value, same_value_at_rest, takes_over_the_same, takes_over_the_same_at_rest}

-- the gate of a half is written
module _ (geometry : Geometry) (image : List ℕ) (room : image_sectors geometry ≤ whole_sectors image) (half : Half) (gate : List ℕ) (long : length gate ≡ 512) where
  gate_fits : 512 * gate_at geometry half + length gate ≤ length image
  gate_fits = omega (arith, gate_inside geometry image room half)

  pub gate_size : length (overwrite (512 * gate_at geometry half) gate image) ≡ length image
  gate_size = length-overwrite (512 * gate_at geometry half) gate image gate_fits

  beside : (region : Region) → region ≢ InHalf half Gate → region_of geometry region (overwrite (512 * gate_at geometry half) gate image) ≡ region_of geometry region image
  beside region others = writes_leave_others geometry (InHalf half Gate) region image (512 * gate_at geometry half) gate others room (omega arith) (omega arith)

  pub gate_there : gate_of geometry half (overwrite (512 * gate_at geometry half) gate image) ≡ gate
  gate_there = written_gate image gate (gate_at geometry half) (omega (arith, gate_fits)) long

  pub area_beside : (h : Half) → area_of geometry h (overwrite (512 * gate_at geometry half) gate image) ≡ area_of geometry h image
  area_beside h = beside (InHalf h Area) (λ same. cc)

  pub journal_beside : (h : Half) → journal_of geometry h (overwrite (512 * gate_at geometry half) gate image) ≡ journal_of geometry h image
  journal_beside h = beside (InHalf h Journal) (λ same. cc)

  pub gate_beside : (h : Half) → (h ≡ half → ⊥) → gate_of geometry h (overwrite (512 * gate_at geometry half) gate image) ≡ gate_of geometry h image
  gate_beside h others = beside (InHalf h Gate) (λ same. others (half_of_same h half same))
    where
      half_of_same : (a b : Half) → InHalf a Gate ≡ InHalf b Gate → a ≡ b
      half_of_same a b same = cc

  pub store_beside : IsStore geometry image → IsStore geometry (overwrite (512 * gate_at geometry half) gate image)
  store_beside is = record {
    title = sym (part_take 0 20 512 (overwrite (512 * gate_at geometry half) gate image) (omega arith)) ∙ ap (take 20) (beside FirstSector (λ same. cc)) ∙ part_take 0 20 512 image (omega arith) ∙ is.title;
    limits = is.limits;
    room = omega (arith, is.room, gate_size);
  }

module _ {Db C : Type 0} (format : StoreFormat Db C) (latest : ℕ) (image : List ℕ) (opening : Opening Db C) (is : IsOpening format latest image opening) (gate : List ℕ) (long : length gate ≡ 512) where
  abbrev switched : List ℕ
  switched = overwrite (512 * gate_at opening.geometry (other opening.chosen)) gate image

  -- where the gate stays closed, the opening is unchanged
  pub stays : (IsOpenGate gate → ⊥) → IsOpening format latest switched opening
  stays closed = record {
    half = record {
      store = store_beside opening.geometry image is.half.store.room (other opening.chosen) gate long is.half.store;
      gate = subst IsOpenGate (sym (gate_beside opening.geometry image is.half.store.room (other opening.chosen) gate long opening.chosen (halves_differ opening.chosen))) is.half.gate;
      begins = subst (λ (area : List ℕ). IsCheckpoint format.rows area opening.checkpoint)
          (sym (area_beside opening.geometry image is.half.store.room (other opening.chosen) gate long opening.chosen)) is.half.begins;
      known = is.half.known;
      older = λ opened. absurd (still_closed opened);
    };
    journal = subst (λ (bytes : List ℕ). IsJournal format.commands (limits_in opening.checkpoint) bytes opening.checkpoint.head.place opening.journal)
        (sym (journal_beside opening.geometry image is.half.store.room (other opening.chosen) gate long opening.chosen)) is.journal;
    tail = tail_stays opening.tail is.tail;
  }
    where
      still_closed : IsOpenGate (gate_of opening.geometry (other opening.chosen) switched) → ⊥
      still_closed opened = closed (subst IsOpenGate (gate_there opening.geometry image is.half.store.room (other opening.chosen) gate long) opened)

      tail_stays : (tail : Option (Reading C)) → IsTail format.commands (limits_in opening.checkpoint) opening.geometry (other opening.chosen) image opening.journal tail
          → IsTail format.commands (limits_in opening.checkpoint) opening.geometry (other opening.chosen) switched opening.journal tail
      tail_stays None tail = tail
      tail_stays (Some behind) tail = (
        still_closed,
        record {
          sealed = tail.1.sealed;
          journal = subst (λ (bytes : List ℕ). IsJournal format.commands (limits_in opening.checkpoint) bytes opening.journal.place behind)
              (sym (journal_beside opening.geometry image is.half.store.room (other opening.chosen) gate long (other opening.chosen))) tail.1.journal;
          unsealed = tail.1.unsealed;
        },
      )

  -- where the gate opens, the other half is chosen
  pub is_switched : (next : Checkpoint Db) → IsLaid format latest image opening next → IsOpenGate gate → IsChosen format latest switched opening.geometry (other opening.chosen) next
  is_switched next laid opened = record {
    store = store_beside opening.geometry image is.half.store.room (other opening.chosen) gate long is.half.store;
    gate = subst IsOpenGate (sym (gate_there opening.geometry image is.half.store.room (other opening.chosen) gate long)) opened;
    begins = subst (λ (area : List ℕ). IsCheckpoint format.rows area next)
        (sym (area_beside opening.geometry image is.half.store.room (other opening.chosen) gate long (other opening.chosen))) laid.begins;
    known = laid.known;
    older = λ _. subst (λ (half : Half). HasOlderHead latest (area_of opening.geometry half switched) next.head.epoch) (sym (other_twice opening.chosen)) (record {
      head = opening.checkpoint.head;
      is = subst (λ (area : List ℕ). IsHead area opening.checkpoint.head) (sym (area_beside opening.geometry image is.half.store.room (other opening.chosen) gate long opening.chosen))
          (begins_with_its_head format.rows (area_of opening.geometry opening.chosen image) opening.checkpoint is.half.begins);
      known = is.half.known;
      older = laid.newer;
    });
  }

pub switches_by_the_gate : (Db C : Type 0) → SwitchesByTheGate Db C
switches_by_the_gate Db C format latest image opening next behind gate is tail_is laid long = (
  λ opened. (takes_over_the_same Db C format latest image written opening next behind is tail_is laid.folds (is_switched format latest image opening is gate long next laid opened) journal).0,
  stays format latest image opening is gate long,
  same_value format opening next behind tail_is laid.folds,
)
  where
    written : List ℕ
    written = overwrite (512 * gate_at opening.geometry (other opening.chosen)) gate image

    tail : IsTail format.commands (limits_in opening.checkpoint) opening.geometry (other opening.chosen) image opening.journal (Some behind)
    tail = subst (IsTail format.commands (limits_in opening.checkpoint) opening.geometry (other opening.chosen) image opening.journal) tail_is is.tail

    journal : IsJournal format.commands (limits_in opening.checkpoint) (journal_of opening.geometry (other opening.chosen) written) opening.journal.place behind
    journal = subst (λ (bytes : List ℕ). IsJournal format.commands (limits_in opening.checkpoint) bytes opening.journal.place behind)
        (sym (journal_beside opening.geometry image is.half.store.room (other opening.chosen) gate long (other opening.chosen))) tail.1.journal

pub switches_by_the_gate_at_rest : (Db C : Type 0) → SwitchesByTheGateAtRest Db C
switches_by_the_gate_at_rest Db C format latest image opening next gate is none laid first long = (
  λ opened. (takes_over_the_same_at_rest Db C format latest written opening next none laid.folds (is_switched format latest image opening is gate long next laid opened) closed).0,
  stays format latest image opening is gate long,
  same_value_at_rest format opening next none laid.folds,
)
  where
    written : List ℕ
    written = overwrite (512 * gate_at opening.geometry (other opening.chosen)) gate image

    closed : IsOpenGate (sector_at 0 (journal_of opening.geometry (other opening.chosen) written)) → ⊥
    closed opened = first (subst (λ (bytes : List ℕ). IsOpenGate (sector_at 0 bytes))
        (journal_beside opening.geometry image is.half.store.room (other opening.chosen) gate long (other opening.chosen)) opened)

-- an older half
pub older_half_may_change : (Db C : Type 0) → OlderHalfMayChange Db C
older_half_may_change Db C format latest image opening at bytes is none older inside apart =
    goes_by_the_chosen_half Db C format latest image written opening size none (spans_kept at bytes image inside (chosen_spans format opening []) (fronts apart)) (λ _. still_older) is
  where
    written : List ℕ
    written = overwrite at bytes image

    size : length written ≡ length image
    size = length-overwrite at bytes image inside

    fronts : AllByRecursion (IsApart at (length bytes)) (chosen_spans format opening ((span (512 * area_at opening.geometry (other opening.chosen)) 24) ∷ [])) → AllByRecursion (IsApart at (length bytes)) (chosen_spans format opening [])
    fronts all = (all.0, (all.1.0, (all.1.1.0, (all.1.1.1.0, tt))))

    head_kept : IsApart at (length bytes) (span (512 * area_at opening.geometry (other opening.chosen)) 24) → part (512 * area_at opening.geometry (other opening.chosen)) 24 written ≡ part (512 * area_at opening.geometry (other opening.chosen)) 24 image
    head_kept (inl before) = part_above at bytes image (512 * area_at opening.geometry (other opening.chosen)) 24 inside before
    head_kept (inr behind) = part_below at bytes image (512 * area_at opening.geometry (other opening.chosen)) 24 inside behind

    still_older : HasOlderHead latest (area_of opening.geometry (other opening.chosen) written) opening.checkpoint.head.epoch
    still_older = record {
      head = older.head;
      is = head_same opening.geometry image written size is.half.store (other opening.chosen) older.head (head_kept apart.1.1.1.1.0) older.is;
      known = older.known;
      older = older.older;
    }
