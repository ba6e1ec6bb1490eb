-- Sectors that are written one after the other, and the contents of the device then.
use Rattle.std.proofs.Common.{◌≡◌, ℕ, ◌+◌, ◌*◌, ◌<◌, ◌≤◌, List, length, take, drop, sym, ◌∙◌, ap, subst, arith, refl, Result, Ok, Err, OnOk}
use Rattle.std.proofs.lemmas.List.{take-take}
use Rattle.byte_lists.specs.Content.{part, overwrite}
use Rattle.byte_lists.specs.Sectors.{whole_sectors, sector_at, padded, open_gate, closed_gate}
use Rattle.byte_lists.proofs.Contents.{length-overwrite, part_below, part_new}
use Rattle.sector_dev.specs.Disk.{History, Disk, IsHonest, IsWhole, reads_of}
use Rattle.sector_dev.specs.Calls.{WriteCall, SyncCall}
use Rattle.sector_dev.proofs.Images.{image_is_reads}
use Rattle.sector_dev.proofs.Results.{success}
use Rattle.sector_dev.proofs.Parts.{history_written, history_synced}
use Rattle.sector_dev.proofs.Stretches.{honest_after}
use Rattle.store_layout.specs.declared.half.Half.TheVariants.{First, Second}
use Rattle.store_layout.specs.Layout.{Geometry, IsGeometry, image_sectors, area_at, gate_at, journal_at}
use Rattle.store_layout.specs.FirstSector.{first_sector}
use Rattle.store_open.specs.NewStore.{first_checkpoint_bytes, IsNewStore, IsEmptyStore, HoldsNewStore, DeviceHasRoomFor}
use Rattle.store_open.proofs.NewStores.{empty_store}

-- a sector is written: it has these bytes, and the sectors before it are unchanged
record IsPut (at : ℕ) (bytes old new : List ℕ) : Type 0 where
  long : length new ≡ length old
  before : (sector : ℕ) → sector < at → sector_at sector new ≡ sector_at sector old
  there : sector_at at new ≡ bytes

put : (at : ℕ) (bytes old new : List ℕ) → new ≡ overwrite (512 * at) bytes old → length bytes ≡ 512 → 512 * at + 512 ≤ length old → IsPut at bytes old new
put at bytes old new is one inside = record {
  long = ap length is ∙ length-overwrite (512 * at) bytes old (omega (arith, one));
  before = λ sector below. ap (sector_at sector) is ∙ part_below (512 * at) bytes old (512 * sector) 512 (omega (arith, one)) (omega arith);
  there = ap (sector_at at) is ∙ (λ i. part (512 * at) (sym one i) (overwrite (512 * at) bytes old)) ∙ part_new (512 * at) bytes old (omega (arith, one));
}

-- the sectors of a new store
record HasNewSectors (geometry : Geometry) (content : List ℕ) : Type 0 where
  room : image_sectors geometry ≤ whole_sectors content
  title : sector_at 0 content ≡ first_sector geometry
  begins : sector_at (area_at geometry First) content ≡ padded first_checkpoint_bytes
  gate : sector_at (gate_at geometry First) content ≡ open_gate
  journal : sector_at (journal_at geometry First) content ≡ closed_gate
  second_gate : sector_at (gate_at geometry Second) content ≡ closed_gate
  second_journal : sector_at (journal_at geometry Second) content ≡ closed_gate

-- an image with these sectors is a new store
new_store : (geometry : Geometry) (content : List ℕ) → IsGeometry geometry → HasNewSectors geometry content → IsNewStore geometry content
new_store geometry content limits has = record {
  store = record {
    title = sym (take-take 20 512 content (omega arith)) ∙ ap (take 20) has.title;
    limits = limits;
    room = has.room;
  };
  title = has.title;
  begins = first (area_at geometry First) geometry.checkpoint (omega (arith, limits)) ∙ has.begins;
  gate = has.gate;
  journal = first (journal_at geometry First) geometry.journal (omega (arith, limits)) ∙ has.journal;
  second_gate = has.second_gate;
  second_journal = first (journal_at geometry Second) geometry.journal (omega (arith, limits)) ∙ has.second_journal;
}
  where
    -- the first sector of a part of several
    first : (at sectors : ℕ) → 1 ≤ sectors → sector_at 0 (part (512 * at) (512 * sectors) content) ≡ sector_at at content
    first at sectors some = take-take 512 (512 * sectors) (drop (512 * at) content) (omega (arith, some))

-- six sectors are written, one after the other
module _ (geometry : Geometry) (limits : IsGeometry geometry) (r0 r1 r2 r3 r4 r5 r6 : List ℕ) (room : 512 * image_sectors geometry ≤ length r0)
    (is1 : r1 ≡ overwrite (512 * 0) (first_sector geometry) r0)
    (is2 : r2 ≡ overwrite (512 * area_at geometry First) (padded first_checkpoint_bytes) r1)
    (is3 : r3 ≡ overwrite (512 * gate_at geometry First) open_gate r2)
    (is4 : r4 ≡ overwrite (512 * journal_at geometry First) closed_gate r3)
    (is5 : r5 ≡ overwrite (512 * gate_at geometry Second) closed_gate r4)
    (is6 : r6 ≡ overwrite (512 * journal_at geometry Second) closed_gate r5) where
  put1 : IsPut 0 (first_sector geometry) r0 r1
  put1 = put 0 (first_sector geometry) r0 r1 is1 refl (omega (arith, room))

  put2 : IsPut (area_at geometry First) (padded first_checkpoint_bytes) r1 r2
  put2 = put (area_at geometry First) (padded first_checkpoint_bytes) r1 r2 is2 refl (omega (arith, room, put1.long, limits))

  put3 : IsPut (gate_at geometry First) open_gate r2 r3
  put3 = put (gate_at geometry First) open_gate r2 r3 is3 refl (omega (arith, room, put1.long, put2.long, limits))

  put4 : IsPut (journal_at geometry First) closed_gate r3 r4
  put4 = put (journal_at geometry First) closed_gate r3 r4 is4 refl (omega (arith, room, put1.long, put2.long, put3.long, limits))

  put5 : IsPut (gate_at geometry Second) closed_gate r4 r5
  put5 = put (gate_at geometry Second) closed_gate r4 r5 is5 refl (omega (arith, room, put1.long, put2.long, put3.long, put4.long, limits))

  put6 : IsPut (journal_at geometry Second) closed_gate r5 r6
  put6 = put (journal_at geometry Second) closed_gate r5 r6 is6 refl (omega (arith, room, put1.long, put2.long, put3.long, put4.long, put5.long, limits))

  -- the sectors before the journal's first gate are unchanged from then on
  kept_behind : (sector : ℕ) → sector < journal_at geometry First → sector_at sector r6 ≡ sector_at sector r3
  kept_behind sector below =
      put6.before sector (omega (arith, below)) ∙ put5.before sector (omega (arith, below)) ∙ put4.before sector below

  new_sectors : HasNewSectors geometry r6
  new_sectors = record {
    room = omega (arith, room, put1.long, put2.long, put3.long, put4.long, put5.long, put6.long);
    title = kept_behind 0 (omega arith) ∙ put3.before 0 (omega (arith, limits)) ∙ put2.before 0 (omega arith) ∙ put1.there;
    begins = kept_behind (area_at geometry First) (omega arith) ∙ put3.before (area_at geometry First) (omega (arith, limits)) ∙ put2.there;
    gate = kept_behind (gate_at geometry First) (omega arith) ∙ put3.there;
    journal = put6.before (journal_at geometry First) (omega (arith, limits)) ∙ put5.before (journal_at geometry First) (omega (arith, limits)) ∙ put4.there;
    second_gate = put6.before (gate_at geometry Second) (omega arith) ∙ put5.there;
    second_journal = put6.there;
  }

-- the effect of a write of an honest device that succeeded
written : {T : Type 0} (E : Type 0) (u : T) (sector at : ℕ) (bytes given : List ℕ) (old new : Disk) → WriteCall sector bytes (success E u) old new → sector ≡ at → bytes ≡ given → IsHonest old
    → reads_of new ≡ overwrite (512 * at) given (reads_of old)
written E u sector at bytes given old new call place what honest =
    ap (λ (h : History). h.now.reads) (history_written E u sector bytes old new call honest)
    ∙ (λ i. overwrite (512 * place i) (what i) (reads_of old))

-- after a sync that succeeded, the bytes that reads return have P, and so has every image
synced_store : {T : Type 0} (E : Type 0) (u : T) (geometry : Geometry) (old new : Disk) → SyncCall (success E u) old new → IsHonest old → IsNewStore geometry (reads_of old) → HoldsNewStore geometry new
synced_store E u geometry old new call honest is =
    let so = history_synced E u old new call honest in
    let reads : reads_of new ≡ reads_of old = ap (λ (h : History). h.now.reads) so in
    let clean = ap (λ (h : History). h.now.dirty) so in
    let there : IsEmptyStore geometry (reads_of new) = subst (IsEmptyStore geometry) (sym reads) (empty_store geometry (reads_of old) is) in
    record { every = λ content image. subst (IsEmptyStore geometry) (sym (image_is_reads new.history.now content clean image)) there; reads = there }

module _ {T E : Type 0} (geometry : Geometry) (d0 : Disk) (has : DeviceHasRoomFor geometry d0) (whole : IsHonest d0 → IsWhole d0)
    (s2 s3 s4 s5 s6 : ℕ) (b1 b2 b3 b4 b5 b6 : List ℕ)
    (at2 : s2 ≡ area_at geometry First) (at3 : s3 ≡ gate_at geometry First) (at4 : s4 ≡ journal_at geometry First) (at5 : s5 ≡ gate_at geometry Second) (at6 : s6 ≡ journal_at geometry Second)
    (is1 : b1 ≡ first_sector geometry) (is2 : b2 ≡ padded first_checkpoint_bytes) (is3 : b3 ≡ open_gate) (is4 : b4 ≡ closed_gate) (is5 : b5 ≡ closed_gate) (is6 : b6 ≡ closed_gate) where
  pub laid_out : (u1 u2 u3 u4 u5 u6 : T) (result : Result T E) (d1 d2 d3 d4 d5 d6 d7 : Disk)
      → WriteCall 0 b1 (success E u1) d0 d1 → WriteCall s2 b2 (success E u2) d1 d2 → WriteCall s3 b3 (success E u3) d2 d3
      → WriteCall s4 b4 (success E u4) d3 d4 → WriteCall s5 b5 (success E u5) d4 d5 → WriteCall s6 b6 (success E u6) d5 d6
      → SyncCall result d6 d7 → OnOk result (IsHonest d0 → HoldsNewStore geometry d7)
  laid_out u1 u2 u3 u4 u5 u6 (Err _) d1 d2 d3 d4 d5 d6 d7 w1 w2 w3 w4 w5 w6 sync = tt
  laid_out u1 u2 u3 u4 u5 u6 (Ok u7) d1 d2 d3 d4 d5 d6 d7 w1 w2 w3 w4 w5 w6 sync = λ h0.
      let h1 = honest_after d0 d1 w1.keeps h0 in
      let h2 = honest_after d1 d2 w2.keeps h1 in
      let h3 = honest_after d2 d3 w3.keeps h2 in
      let h4 = honest_after d3 d4 w4.keeps h3 in
      let h5 = honest_after d4 d5 w5.keeps h4 in
      let h6 = honest_after d5 d6 w6.keeps h5 in
      synced_store E u7 geometry d6 d7 sync h6
      (new_store geometry (reads_of d6) has.allowed
      (new_sectors geometry has.allowed (reads_of d0) (reads_of d1) (reads_of d2) (reads_of d3) (reads_of d4) (reads_of d5) (reads_of d6)
      (omega (arith, (whole h0).size, has.room))
      (written E u1 0 0 b1 (first_sector geometry) d0 d1 w1 refl is1 h0)
      (written E u2 s2 (area_at geometry First) b2 (padded first_checkpoint_bytes) d1 d2 w2 at2 is2 h1)
      (written E u3 s3 (gate_at geometry First) b3 open_gate d2 d3 w3 at3 is3 h2)
      (written E u4 s4 (journal_at geometry First) b4 closed_gate d3 d4 w4 at4 is4 h3)
      (written E u5 s5 (gate_at geometry Second) b5 closed_gate d4 d5 w5 at5 is5 h4)
      (written E u6 s6 (journal_at geometry Second) b6 closed_gate d5 d6 w6 at6 is6 h5)))
