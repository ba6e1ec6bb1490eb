-- An opening depends on the bytes that count for it.
use Rattle.std.proofs.Common.{◌≡◌, inl, inr, ℕ, ◌+◌, ◌*◌, ◌≤◌, Bool, true, false, List, [], ◌∷◌, length, take, get_or, subst, length-take, Some, None, Option, sym, ◌∙◌, ap, arith}
use Rattle.std.specs.List.{AllByRecursion}
use Rattle.byte_lists.specs.Content.{part, overwrite}
use Rattle.byte_lists.specs.Sectors.{whole_sectors, IsOpenGate, is_open_gate}
use Rattle.byte_lists.proofs.Contents.{length-overwrite, part_below, part_above, get_or-part}
use Rattle.byte_lists.proofs.Padding.{open_true}
use Rattle.store_layout.specs.declared.half.Half.{Half}
use Rattle.store_layout.specs.Limits.{Limits}
use Rattle.store_layout.specs.CommandFormat.{CommandFormat}
use Rattle.store_layout.specs.Journal.{Reading, IsJournal, sectors_to, sectors_read}
use Rattle.store_layout.specs.Layout.{Geometry, other, area_at, gate_at, journal_at, area_of, gate_of, journal_of}
use Rattle.store_layout.specs.FirstSector.{IsStore}
use Rattle.store_layout.specs.StoreFormat.{RowsFormat, StoreFormat}
use Rattle.store_layout.specs.Checkpoint.{Head, Checkpoint, IsHead, checkpoint_size, IsCheckpoint}
use Rattle.store_layout.specs.Opening.{Opening, limits_in, HasOlderHead, IsTail, IsChosen, IsOpening}
use Rattle.store_layout.specs.WhatCounts.{CountedSpan, span, chosen_spans, head_spans, tail_spans, spans_in, IsSameSpan, IsApart}
use Rattle.store_layout.specs.WhatCountsLaws.{GoesByWhatCounts, IsKeptByWritesElsewhere, GoesByTheChosenHalf}
use Rattle.store_layout.proofs.Bounds.{stays_within_bounds}
use Rattle.store_layout.proofs.Growth.{goes_by_its_front}
use Rattle.store_layout.proofs.Heads.{take_take}
use Rattle.store_layout.proofs.Places.{area_long, journal_long, store_journal}

-- the front of a part
pub front_same : (at n m : ℕ) (one two : List ℕ) → n ≤ m → part at n two ≡ part at n one → take n (part at m two) ≡ take n (part at m one)
front_same at n m one two few same = take_take n m _ few ∙ same ∙ sym (take_take n m _ few)

-- whether a gate is open depends on its first byte
pub gate_same : (at : ℕ) (one two : List ℕ) → part at 1 two ≡ part at 1 one → IsOpenGate (part at 512 one) → IsOpenGate (part at 512 two)
gate_same at one two same opened =
    get_or-part at 512 two 0 (omega arith) ∙ sym (get_or-part at 1 two 0 (omega arith)) ∙ ap (λ (list : List ℕ). get_or list 0 0) same
    ∙ get_or-part at 1 one 0 (omega arith) ∙ sym (get_or-part at 512 one 0 (omega arith)) ∙ opened

-- how many sectors of a journal are read
read_inside : (sealed : Bool) (tail sectors : ℕ) → tail + 2 ≤ sectors → sectors_to sealed tail ≤ sectors
read_inside false tail sectors room = omega arith
read_inside true tail sectors room = omega arith

-- the head that counts, and the other bytes that count
head_counts : (P : CountedSpan → Type 0) (geometry : Geometry) (half : Half) (opened : Bool) (more : List CountedSpan) → AllByRecursion P (head_spans geometry half opened more)
    → (opened ≡ true → P (span (512 * area_at geometry half) 24)) × AllByRecursion P more
head_counts P geometry half false more all = (λ opened. cc, all)
head_counts P geometry half true more all = (λ opened. all.0, all.1)

module _ (geometry : Geometry) (one two : List ℕ) (size : length two ≡ length one) (store : IsStore geometry one) where
  pub store_same : part 0 20 two ≡ part 0 20 one → IsStore geometry two
  store_same same = record { title = same ∙ store.title; limits = store.limits; room = omega (arith, store.room) }

  module _ (half : Half) where
    pub head_same : (head : Head) → part (512 * area_at geometry half) 24 two ≡ part (512 * area_at geometry half) 24 one → IsHead (area_of geometry half one) head → IsHead (area_of geometry half two) head
    head_same head same is =
        record { can = is.can; spelled = front_same (512 * area_at geometry half) 24 (512 * geometry.checkpoint) one two (omega (arith, store.limits)) same ∙ is.spelled }

    pub checkpoint_same : {Db : Type 0} (rows : RowsFormat Db) (checkpoint : Checkpoint Db)
        → part (512 * area_at geometry half) (checkpoint_size rows checkpoint) two ≡ part (512 * area_at geometry half) (checkpoint_size rows checkpoint) one
        → IsCheckpoint rows (area_of geometry half one) checkpoint → IsCheckpoint rows (area_of geometry half two) checkpoint
    checkpoint_same rows checkpoint same is =
        record { can = is.can; spelled = front_same (512 * area_at geometry half) (checkpoint_size rows checkpoint) (512 * geometry.checkpoint) one two inside same ∙ is.spelled }
      where
        inside : checkpoint_size rows checkpoint ≤ 512 * geometry.checkpoint
        inside =
            omega (arith, ap length is.spelled, length-take (checkpoint_size rows checkpoint) (area_of geometry half one), area_long geometry one store.room half)

    pub journal_same : {C : Type 0} (format : CommandFormat C) (limits : Limits) (start : ℕ) (reading : Reading C)
        → part (512 * journal_at geometry half) (512 * sectors_read reading) two ≡ part (512 * journal_at geometry half) (512 * sectors_read reading) one
        → IsJournal format limits (journal_of geometry half one) start reading → IsJournal format limits (journal_of geometry half two) start reading
    journal_same {C} format limits start reading same is =
        goes_by_its_front C format limits (journal_of geometry half one) (journal_of geometry half two) start reading long
        (sym (front_same (512 * journal_at geometry half) (512 * sectors_read reading) (512 * geometry.journal) one two inside same)) is
      where
        long : length (journal_of geometry half one) ≡ length (journal_of geometry half two)
        long = journal_long geometry one store.room half ∙ sym (journal_long geometry two (omega (arith, store.room)) half)

        sectors : whole_sectors (journal_of geometry half one) ≡ geometry.journal
        sectors = omega (arith, journal_long geometry one store.room half)

        bounds : reading.tail + 2 ≤ geometry.journal
        bounds =
            let within = stays_within_bounds C format limits (journal_of geometry half one) start reading (store_journal geometry one store half) is in
            omega (arith, within.seal (omega (arith, sectors, store.limits)), sectors)

        inside : 512 * sectors_read reading ≤ 512 * geometry.journal
        inside = omega (arith, read_inside reading.sealed reading.tail geometry.journal bounds)

-- the bytes of the chosen half that count
chosen_same : {Db C : Type 0} (format : StoreFormat Db C) (latest : ℕ) (one two : List ℕ) (opening : Opening Db C) (more : List CountedSpan) → length two ≡ length one
    → AllByRecursion (IsSameSpan one two) (chosen_spans format opening more)
    → (IsOpenGate (gate_of opening.geometry (other opening.chosen) two) → HasOlderHead latest (area_of opening.geometry (other opening.chosen) two) opening.checkpoint.head.epoch)
    → IsOpening format latest one opening → IsChosen format latest two opening.geometry opening.chosen opening.checkpoint
chosen_same format latest one two opening more size same older is = record {
  store = store_same opening.geometry one two size is.half.store same.0;
  gate = gate_same (512 * gate_at opening.geometry opening.chosen) one two same.1.0 is.half.gate;
  begins = checkpoint_same opening.geometry one two size is.half.store opening.chosen format.rows opening.checkpoint same.1.1.0 is.half.begins;
  known = is.half.known;
  older = older;
}

pub goes_by_the_chosen_half : (Db C : Type 0) → GoesByTheChosenHalf Db C
goes_by_the_chosen_half Db C format latest one two opening size none same older is = record {
  half = chosen_same format latest one two opening [] size same older is;
  journal = journal_same opening.geometry one two size is.half.store opening.chosen format.commands (limits_in opening.checkpoint) opening.checkpoint.head.place opening.journal same.1.1.1.0 is.journal;
  tail = subst (IsTail format.commands (limits_in opening.checkpoint) opening.geometry (other opening.chosen) two opening.journal) (sym none)
      (subst (IsTail format.commands (limits_in opening.checkpoint) opening.geometry (other opening.chosen) one opening.journal) none is.tail);
}

pub goes_by_what_counts : (Db C : Type 0) → GoesByWhatCounts Db C
goes_by_what_counts Db C format latest one two opening size same is = record {
  half = chosen_same format latest one two opening
      (span (512 * gate_at geometry beside) 1 ∷ head_spans geometry beside (is_open_gate (gate_of geometry beside one)) (tail_spans geometry beside opening.tail)) size same older is;
  journal = journal_same geometry one two size is.half.store opening.chosen format.commands (limits_in opening.checkpoint) opening.checkpoint.head.place opening.journal same.1.1.1.0 is.journal;
  tail = tail_same opening.tail rest.1 is.tail;
}
  where
    geometry : Geometry
    geometry = opening.geometry

    beside : Half
    beside = other opening.chosen

    rest : (is_open_gate (gate_of opening.geometry (other opening.chosen) one) ≡ true → IsSameSpan one two (span (512 * area_at opening.geometry (other opening.chosen)) 24))
        × AllByRecursion (IsSameSpan one two) (tail_spans opening.geometry (other opening.chosen) opening.tail)
    rest = head_counts (IsSameSpan one two) opening.geometry (other opening.chosen) (is_open_gate (gate_of opening.geometry (other opening.chosen) one))
        (tail_spans opening.geometry (other opening.chosen) opening.tail) same.1.1.1.1.1

    older : IsOpenGate (gate_of opening.geometry (other opening.chosen) two) → HasOlderHead latest (area_of opening.geometry (other opening.chosen) two) opening.checkpoint.head.epoch
    older opened =
        let opened_before = gate_same (512 * gate_at opening.geometry (other opening.chosen)) two one (sym same.1.1.1.1.0) opened in
        let was = is.half.older opened_before in
        record {
          head = was.head;
          is = head_same opening.geometry one two size is.half.store (other opening.chosen) was.head (rest.0 (open_true (gate_of opening.geometry (other opening.chosen) one) opened_before)) was.is;
          known = was.known;
          older = was.older;
        }

    tail_same : (tail : Option (Reading C)) → AllByRecursion (IsSameSpan one two) (tail_spans opening.geometry (other opening.chosen) tail)
        → IsTail format.commands (limits_in opening.checkpoint) opening.geometry (other opening.chosen) one opening.journal tail
        → IsTail format.commands (limits_in opening.checkpoint) opening.geometry (other opening.chosen) two opening.journal tail
    tail_same None all unsealed = unsealed
    tail_same (Some last) all goes_on = (
      λ opened. goes_on.0 (gate_same (512 * gate_at opening.geometry (other opening.chosen)) two one (sym same.1.1.1.1.0) opened),
      record {
        sealed = goes_on.1.sealed;
        journal = journal_same opening.geometry one two size is.half.store (other opening.chosen) format.commands (limits_in opening.checkpoint) opening.journal.place last all.0 goes_on.1.journal;
        unsealed = goes_on.1.unsealed;
      },
    )

-- a write outside of these spans
pub spans_kept : (at : ℕ) (bytes image : List ℕ) → at + length bytes ≤ length image → (spans : List CountedSpan) → AllByRecursion (IsApart at (length bytes)) spans
    → AllByRecursion (IsSameSpan image (overwrite at bytes image)) spans
spans_kept at bytes image inside [] all = tt
spans_kept at bytes image inside (place ∷ more) all = (one all.0, spans_kept at bytes image inside more all.1)
  where
    one : IsApart at (length bytes) place → part place.at place.size (overwrite at bytes image) ≡ part place.at place.size image
    one (inl before) = part_above at bytes image place.at place.size inside before
    one (inr behind) = part_below at bytes image place.at place.size inside behind

pub kept_by_writes_elsewhere : (Db C : Type 0) → IsKeptByWritesElsewhere Db C
kept_by_writes_elsewhere Db C format latest image opening at bytes inside apart is =
    goes_by_what_counts Db C format latest image (overwrite at bytes image) opening (length-overwrite at bytes image inside)
    (spans_kept at bytes image inside (spans_in format image opening) apart) is
