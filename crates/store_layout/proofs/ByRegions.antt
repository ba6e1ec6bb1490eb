-- An opening depends on its regions alone; the area of a closed half is not one of them.
use Rattle.std.proofs.Common.{◌≡◌, ℕ, ◌+◌, ◌*◌, ◌≤◌, List, length, take, Some, None, Option, sym, ◌∙◌, ap, subst, arith}
use Rattle.byte_lists.specs.Content.{overwrite}
use Rattle.byte_lists.specs.Sectors.{IsOpenGate}
use Rattle.byte_lists.proofs.Contents.{length-overwrite}
use Rattle.store_layout.specs.declared.half.Half.{Half}
use Rattle.store_layout.specs.Journal.{Reading, IsJournal}
use Rattle.store_layout.specs.Layout.{Geometry, other, area_at, area_of, gate_of, journal_of, Area, Gate, Journal, Region, FirstSector, InHalf, region_of}
use Rattle.store_layout.specs.StoreFormat.{StoreFormat}
use Rattle.store_layout.specs.Checkpoint.{IsCheckpoint}
use Rattle.store_layout.specs.Opening.{Opening, limits_in, HasOlderHead, IsTail, IsOpening}
use Rattle.store_layout.specs.Switch.{ClosedAreaMayChange}
use Rattle.store_layout.proofs.Places.{half_inside}
use Rattle.store_layout.proofs.Writes.{writes_leave_others}
use Rattle.store_layout.proofs.Heads.{part_take}
use Rattle.store_layout.proofs.StoreGrowth.{halves_differ}

-- the regions that count for an opening are the same in another image
pub record KeepsRegions (geometry : Geometry) (chosen : Half) (one two : List ℕ) : Type 0 where
  size : length two ≡ length one
  title : region_of geometry FirstSector two ≡ region_of geometry FirstSector one
  gates : (half : Half) → gate_of geometry half two ≡ gate_of geometry half one
  journals : (half : Half) → journal_of geometry half two ≡ journal_of geometry half one
  area : area_of geometry chosen two ≡ area_of geometry chosen one
  other_area : IsOpenGate (gate_of geometry (other chosen) one) → area_of geometry (other chosen) two ≡ area_of geometry (other chosen) one

module _ {Db C : Type 0} (format : StoreFormat Db C) (latest : ℕ) (one two : List ℕ) (opening : Opening Db C) (same : KeepsRegions opening.geometry opening.chosen one two) where
  journal_same : (half : Half) (start : ℕ) (reading : Reading C) → IsJournal format.commands (limits_in opening.checkpoint) (journal_of opening.geometry half one) start reading
      → IsJournal format.commands (limits_in opening.checkpoint) (journal_of opening.geometry half two) start reading
  journal_same half start reading is = subst (λ (bytes : List ℕ). IsJournal format.commands (limits_in opening.checkpoint) bytes start reading) (sym (same.journals half)) is

  closed_same : (half : Half) → (IsOpenGate (gate_of opening.geometry half one) → ⊥) → IsOpenGate (gate_of opening.geometry half two) → ⊥
  closed_same half closed opened = closed (subst IsOpenGate (same.gates half) opened)

  tail_same : (tail : Option (Reading C)) → IsTail format.commands (limits_in opening.checkpoint) opening.geometry (other opening.chosen) one opening.journal tail
      → IsTail format.commands (limits_in opening.checkpoint) opening.geometry (other opening.chosen) two opening.journal tail
  tail_same None tail = tail
  tail_same (Some behind) tail = (
    closed_same (other opening.chosen) tail.0,
    record { sealed = tail.1.sealed; journal = journal_same (other opening.chosen) opening.journal.place behind tail.1.journal; unsealed = tail.1.unsealed },
  )

  pub opens_by_regions : IsOpening format latest one opening → IsOpening format latest two opening
  opens_by_regions is = record {
    half = record {
      store = record {
        title = sym (part_take 0 20 512 two (omega arith)) ∙ ap (take 20) same.title ∙ part_take 0 20 512 one (omega arith) ∙ is.half.store.title;
        limits = is.half.store.limits;
        room = omega (arith, is.half.store.room, same.size);
      };
      gate = subst IsOpenGate (sym (same.gates opening.chosen)) is.half.gate;
      begins = subst (λ (area : List ℕ). IsCheckpoint format.rows area opening.checkpoint) (sym same.area) is.half.begins;
      known = is.half.known;
      older = λ opened.
          let opened_before = subst IsOpenGate (same.gates (other opening.chosen)) opened in
          subst (λ (area : List ℕ). HasOlderHead latest area opening.checkpoint.head.epoch) (sym (same.other_area opened_before)) (is.half.older opened_before);
    };
    journal = journal_same opening.chosen opening.checkpoint.head.place opening.journal is.journal;
    tail = tail_same opening.tail is.tail;
  }

pub closed_area_may_change : (Db C : Type 0) → ClosedAreaMayChange Db C
closed_area_may_change Db C format latest image opening at bytes is closed inside =
    opens_by_regions format latest image written opening (record {
      size = length-overwrite (512 * area_at opening.geometry (other opening.chosen) + at) bytes image fits;
      title = kept FirstSector (λ same. cc);
      gates = λ half. kept (InHalf half Gate) (λ same. cc);
      journals = λ half. kept (InHalf half Journal) (λ same. cc);
      area = kept (InHalf opening.chosen Area) (λ same. halves_differ opening.chosen (half_of_same opening.chosen (other opening.chosen) same));
      other_area = λ opened. absurd (closed opened);
    }) is
  where
    written : List ℕ
    written = overwrite (512 * area_at opening.geometry (other opening.chosen) + at) bytes image

    fits : 512 * area_at opening.geometry (other opening.chosen) + at + length bytes ≤ length image
    fits = omega (arith, half_inside opening.geometry (other opening.chosen), is.half.store.room)

    half_of_same : (a b : Half) → InHalf a Area ≡ InHalf b Area → a ≡ b
    half_of_same a b same = cc

    kept : (region : Region) → (region ≡ InHalf (other opening.chosen) Area → ⊥) → region_of opening.geometry region written ≡ region_of opening.geometry region image
    kept region others =
        writes_leave_others opening.geometry (InHalf (other opening.chosen) Area) region image (512 * area_at opening.geometry (other opening.chosen) + at) bytes others is.half.store.room
        (omega arith) (omega arith)
