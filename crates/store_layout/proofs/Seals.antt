-- A seal does not change the value of an image.
use Rattle.std.proofs.Common.{◌≡◌, ℕ, ◌+◌, ◌*◌, ◌≤◌, false, List, length, Some, refl, sym, subst, arith}
use Rattle.byte_lists.specs.Content.{overwrite}
use Rattle.byte_lists.specs.Sectors.{whole_sectors, sector_at, IsOpenGate}
use Rattle.store_layout.specs.Group.{seal_encoding}
use Rattle.store_layout.specs.Journal.{Reading, HasSeal, IsJournal, reading_with_seal}
use Rattle.store_layout.specs.JournalLaws.{IsWithinBounds}
use Rattle.store_layout.specs.Layout.{other, journal_at, journal_of}
use Rattle.store_layout.specs.StoreFormat.{StoreFormat, db_after}
use Rattle.store_layout.specs.Opening.{Opening, limits_in, IsTail, IsChosen, IsOpening, tail_commands, last_journal}
use Rattle.store_layout.specs.TakeOver.{empty_journal}
use Rattle.store_layout.specs.StoreGrowth.{IsOtherHalfClosed, StoreIsMadeReadyForSeal, StoreIsSealedByItsGate}
use Rattle.store_layout.proofs.Bounds.{stays_within_bounds}
use Rattle.store_layout.proofs.Growth.{sealed_by_its_gate}
use Rattle.store_layout.proofs.Staged.{made_ready_for_seal}
use Rattle.store_layout.proofs.Places.{journal_long, store_journal}
use Rattle.store_layout.proofs.TakeOver.{empty_read}
use Rattle.store_layout.proofs.StoreGrowth.{halves_differ, gates_kept, journal_written, journal_kept, still_chosen, in_image, in_sectors, behind_gate}

module _ {Db C : Type 0} (format : StoreFormat Db C) (latest : ℕ) (image : List ℕ) (opening : Opening Db C) (is : IsOpening format latest image opening) (ready : IsOtherHalfClosed opening image) where
  abbrev bytes_of : List ℕ
  bytes_of = journal_of opening.geometry opening.chosen image

  abbrev image_with : ℕ → List ℕ → List ℕ
  image_with at bytes = overwrite (512 * journal_at opening.geometry opening.chosen + at) bytes image

  unsealed : opening.journal.sealed ≡ false
  unsealed = subst (IsTail format.commands (limits_in opening.checkpoint) opening.geometry (other opening.chosen) image opening.journal) ready.alone is.tail

  sectors_are : whole_sectors bytes_of ≡ opening.geometry.journal
  sectors_are = omega (arith, journal_long opening.geometry image is.half.store.room opening.chosen)

  bounds : IsWithinBounds format.commands (limits_in opening.checkpoint) bytes_of opening.checkpoint.head.place opening.journal
  bounds = stays_within_bounds C format.commands (limits_in opening.checkpoint) bytes_of opening.checkpoint.head.place opening.journal
      (store_journal opening.geometry image is.half.store opening.chosen) is.journal

  seal_room : opening.journal.tail + 2 ≤ whole_sectors bytes_of
  seal_room = bounds.seal (omega (arith, sectors_are, is.half.store.limits))

  chosen_with : (at : ℕ) (bytes : List ℕ) → at + length bytes ≤ 512 * opening.geometry.journal
      → IsChosen format latest (image_with at bytes) opening.geometry opening.chosen opening.checkpoint
  chosen_with at bytes inside = still_chosen format latest image opening.geometry opening.chosen opening.checkpoint is.half opening.journal is.journal opening.chosen at bytes inside

  read_with : (at : ℕ) (bytes : List ℕ) → at + length bytes ≤ 512 * opening.geometry.journal → (reading : Reading C)
      → IsJournal format.commands (limits_in opening.checkpoint) (overwrite at bytes bytes_of) opening.checkpoint.head.place reading
      → IsJournal format.commands (limits_in opening.checkpoint) (journal_of opening.geometry opening.chosen (image_with at bytes)) opening.checkpoint.head.place reading
  read_with at bytes inside reading read =
      in_image format latest image opening.geometry opening.chosen opening.checkpoint is.half opening.journal is.journal opening.chosen at bytes inside opening.checkpoint.head.place reading read

  -- a write to one half's journal leaves the other half unchanged
  other_still : (at : ℕ) (bytes : List ℕ) → at + length bytes ≤ 512 * opening.geometry.journal → IsOtherHalfClosed opening (image_with at bytes)
  other_still at bytes inside = record {
    alone = ready.alone;
    gate = λ opened. ready.gate (subst IsOpenGate (gates_kept opening.geometry image is.half.store.room opening.chosen at bytes inside (other opening.chosen)) opened);
    journal = λ opened. ready.journal (subst (λ (list : List ℕ). IsOpenGate (sector_at 0 list))
        (journal_kept opening.geometry image is.half.store.room opening.chosen at bytes inside (other opening.chosen) (λ same. halves_differ opening.chosen (sym same))) opened);
  }

  -- the opening is unchanged, where a write leaves the journal unchanged
  kept_with : (at : ℕ) (bytes : List ℕ) → at + length bytes ≤ 512 * opening.geometry.journal
      → IsJournal format.commands (limits_in opening.checkpoint) (overwrite at bytes bytes_of) opening.checkpoint.head.place opening.journal → IsOpening format latest (image_with at bytes) opening
  kept_with at bytes inside read = record {
    half = chosen_with at bytes inside;
    journal = read_with at bytes inside opening.journal read;
    tail = subst (IsTail format.commands (limits_in opening.checkpoint) opening.geometry (other opening.chosen) (image_with at bytes) opening.journal) (sym ready.alone) unsealed;
  }

  -- a seal is written after the last gate
  seal_inside : 512 * (opening.journal.tail + 1) + length (seal_encoding opening.journal.place) ≤ 512 * opening.geometry.journal
  seal_inside = omega (arith, seal_room, sectors_are)

  placed : IsJournal format.commands (limits_in opening.checkpoint) (overwrite (512 * (opening.journal.tail + 1)) (seal_encoding opening.journal.place) bytes_of) opening.checkpoint.head.place opening.journal
      × HasSeal (overwrite (512 * (opening.journal.tail + 1)) (seal_encoding opening.journal.place) bytes_of) opening.journal.tail opening.journal.place
  placed = made_ready_for_seal C format.commands (limits_in opening.checkpoint) bytes_of opening.checkpoint.head.place opening.journal is.journal unsealed
      (bounds.place is.half.begins.can.head.place) seal_room

  pub seal_placed : IsOpening format latest (image_with (512 * (opening.journal.tail + 1)) (seal_encoding opening.journal.place)) opening
      × IsOtherHalfClosed opening (image_with (512 * (opening.journal.tail + 1)) (seal_encoding opening.journal.place))
      × HasSeal (journal_of opening.geometry opening.chosen (image_with (512 * (opening.journal.tail + 1)) (seal_encoding opening.journal.place))) opening.journal.tail opening.journal.place
  seal_placed = (
    kept_with (512 * (opening.journal.tail + 1)) (seal_encoding opening.journal.place) seal_inside placed.0,
    other_still (512 * (opening.journal.tail + 1)) (seal_encoding opening.journal.place) seal_inside,
    subst (λ (list : List ℕ). HasSeal list opening.journal.tail opening.journal.place)
        (sym (journal_written opening.geometry image is.half.store.room opening.chosen (512 * (opening.journal.tail + 1)) (seal_encoding opening.journal.place) seal_inside)) placed.1,
  )

  -- the last gate is written after the seal
  module _ (gate : List ℕ) (has : HasSeal bytes_of opening.journal.tail opening.journal.place) (long : length gate ≡ 512) where
    gate_inside : 512 * opening.journal.tail + length gate ≤ 512 * opening.geometry.journal
    gate_inside = omega (arith, has.room, sectors_are)

    both : (IsOpenGate gate → IsJournal format.commands (limits_in opening.checkpoint) (overwrite (512 * opening.journal.tail) gate bytes_of) opening.checkpoint.head.place (reading_with_seal opening.journal))
        × ((IsOpenGate gate → ⊥) → IsJournal format.commands (limits_in opening.checkpoint) (overwrite (512 * opening.journal.tail) gate bytes_of) opening.checkpoint.head.place opening.journal)
    both = sealed_by_its_gate C format.commands (limits_in opening.checkpoint) bytes_of opening.checkpoint.head.place opening.journal gate is.journal unsealed has long

    pub seal_closed : (IsOpenGate gate → ⊥) → IsOpening format latest (image_with (512 * opening.journal.tail) gate) opening
    seal_closed closed = kept_with (512 * opening.journal.tail) gate gate_inside (both.1 closed)

    pub seal_opened : IsOpenGate gate
        → IsOpening format latest (image_with (512 * opening.journal.tail) gate) (record opening { journal = reading_with_seal opening.journal; tail = Some (empty_journal opening.journal.place) })
    seal_opened opened =
        let still = other_still (512 * opening.journal.tail) gate gate_inside in
        record {
          half = chosen_with (512 * opening.journal.tail) gate gate_inside;
          journal = read_with (512 * opening.journal.tail) gate gate_inside (reading_with_seal opening.journal) (both.0 opened);
          tail = (
            still.gate,
            record {
              sealed = refl;
              journal = empty_read format.commands (limits_in opening.checkpoint) (journal_of opening.geometry (other opening.chosen) (image_with (512 * opening.journal.tail) gate)) opening.journal.place still.journal;
              unsealed = refl;
            },
          );
        }

pub store_is_made_ready_for_seal : (Db C : Type 0) → StoreIsMadeReadyForSeal Db C
store_is_made_ready_for_seal Db C format latest image opening is ready =
    subst (λ (at : ℕ). let written = overwrite at (seal_encoding opening.journal.place) image in
    IsOpening format latest written opening × IsOtherHalfClosed opening written × HasSeal (journal_of opening.geometry opening.chosen written) opening.journal.tail opening.journal.place)
    (behind_gate (journal_at opening.geometry opening.chosen) opening.journal.tail) (seal_placed format latest image opening is ready)

pub store_is_sealed_by_its_gate : (Db C : Type 0) → StoreIsSealedByItsGate Db C
store_is_sealed_by_its_gate Db C format latest image opening gate is ready has long = (
  λ opened. subst (λ (at : ℕ). IsOpening format latest (overwrite at gate image) (record opening { journal = reading_with_seal opening.journal; tail = Some (empty_journal opening.journal.place) })) there
      (seal_opened format latest image opening is ready gate has long opened),
  λ closed. subst (λ (at : ℕ). IsOpening format latest (overwrite at gate image) opening) there (seal_closed format latest image opening is ready gate has long closed),
  λ i. record {
    db = db_after format (db_after format opening.checkpoint.db opening.journal.commands) (tail_commands (sym ready.alone i));
    place = (last_journal opening.journal (sym ready.alone i)).place;
  },
)
  where
    there : 512 * journal_at opening.geometry opening.chosen + 512 * opening.journal.tail ≡ 512 * (journal_at opening.geometry opening.chosen + opening.journal.tail)
    there = in_sectors (journal_at opening.geometry opening.chosen) opening.journal.tail
