-- The value of an image grows by the group after its last gate, and a seal does not change it.
use Rattle.std.proofs.Common.{◌≡◌, ◌≢◌, ℕ, ◌+◌, ◌*◌, ◌≤◌, false, List, [], ◌∷◌, ◌++◌, length, take, Some, None, Option, refl, sym, ◌∙◌, ap, subst, arith, length-append}
use Rattle.byte_lists.specs.Content.{overwrite}
use Rattle.byte_lists.specs.Sectors.{whole_sectors, IsOpenGate}
use Rattle.byte_lists.proofs.Contents.{length-overwrite}
use Rattle.store_layout.specs.declared.half.Half.{Half}
use Rattle.store_layout.specs.declared.half.Half.TheVariants.{First, Second}
use Rattle.store_layout.specs.Group.{group_encoding, group_sectors, JournalHasRoom, CanBeGroup}
use Rattle.store_layout.specs.Journal.{Reading, IsJournal, reading_with_group}
use Rattle.store_layout.specs.JournalLaws.{IsReadyFor}
use Rattle.store_layout.specs.Layout.{Geometry, other, journal_at, area_of, gate_of, journal_of, image_sectors, Area, Gate, Journal, Region, FirstSector, InHalf, region_of}
use Rattle.store_layout.specs.StoreFormat.{StoreFormat, db_after}
use Rattle.store_layout.specs.Checkpoint.{Checkpoint, IsCheckpoint}
use Rattle.store_layout.specs.Opening.{Opening, limits_in, HasOlderHead, IsTail, IsChosen, IsOpening, tail_half, last_journal, opening_value}
use Rattle.store_layout.specs.StoreGrowth.{FoldsInParts, last_half, last_reading, start_of, last_start, last_gate, with_last, StoreGoesByItsLastJournal, StoreIsMadeReady, StoreGrowsByItsGate}
use Rattle.store_layout.specs.StoreValues.{value_after}
use Rattle.store_layout.proofs.Growth.{grows_by_its_gate}
use Rattle.store_layout.proofs.Staged.{length-group_encoding, made_ready}
use Rattle.store_layout.proofs.Places.{half_inside, journal_long}
use Rattle.store_layout.proofs.Writes.{writes_leave_others, writes_change_their_region}
use Rattle.store_layout.proofs.Heads.{part_take}

pub folds_in_parts : (Db C : Type 0) → FoldsInParts Db C
folds_in_parts Db C format db [] behind = refl
folds_in_parts Db C format db (command ∷ front) behind = folds_in_parts Db C format (format.apply db command) front behind

-- a half is not the other half
pub halves_differ : (half : Half) → half ≡ other half → ⊥
halves_differ First same = cc
halves_differ Second same = cc

-- the choice of a half depends on sector 0, and on the areas and gates of both halves
chosen_kept : {Db C : Type 0} (format : StoreFormat Db C) (latest : ℕ) (one two : List ℕ) (geometry : Geometry) (half : Half) (checkpoint : Checkpoint Db) → length two ≡ length one
    → region_of geometry FirstSector two ≡ region_of geometry FirstSector one
    → ((h : Half) → area_of geometry h two ≡ area_of geometry h one) → ((h : Half) → gate_of geometry h two ≡ gate_of geometry h one)
    → IsChosen format latest one geometry half checkpoint → IsChosen format latest two geometry half checkpoint
chosen_kept format latest one two geometry half checkpoint size title areas gates is = record {
  store = record {
    title = sym (part_take 0 20 512 two (omega arith)) ∙ ap (take 20) title ∙ part_take 0 20 512 one (omega arith) ∙ is.store.title;
    limits = is.store.limits;
    room = omega (arith, is.store.room);
  };
  gate = subst IsOpenGate (sym (gates half)) is.gate;
  begins = subst (λ (area : List ℕ). IsCheckpoint format.rows area checkpoint) (sym (areas half)) is.begins;
  known = is.known;
  older = λ opened.
      subst (λ (area : List ℕ). HasOlderHead latest area checkpoint.head.epoch) (sym (areas (other half)))
      (is.older (subst IsOpenGate (gates (other half)) opened));
}

-- a half's journal is written
module _ (geometry : Geometry) (image : List ℕ) (room : image_sectors geometry ≤ whole_sectors image) (half : Half) (at : ℕ) (bytes : List ℕ) (inside : at + length bytes ≤ 512 * geometry.journal) where
  pub size_kept : length (overwrite (512 * journal_at geometry half + at) bytes image) ≡ length image
  size_kept = length-overwrite (512 * journal_at geometry half + at) bytes image (omega (arith, half_inside geometry half))

  pub region_kept : (region : Region) → region ≢ InHalf half Journal → region_of geometry region (overwrite (512 * journal_at geometry half + at) bytes image) ≡ region_of geometry region image
  region_kept region others = writes_leave_others geometry (InHalf half Journal) region image (512 * journal_at geometry half + at) bytes others room (omega arith) (omega arith)

  pub journal_written : journal_of geometry half (overwrite (512 * journal_at geometry half + at) bytes image) ≡ overwrite at bytes (journal_of geometry half image)
  journal_written = writes_change_their_region geometry (InHalf half Journal) image at bytes room inside

  pub title_kept : region_of geometry FirstSector (overwrite (512 * journal_at geometry half + at) bytes image) ≡ region_of geometry FirstSector image
  title_kept = region_kept FirstSector (λ same. cc)

  pub areas_kept : (h : Half) → area_of geometry h (overwrite (512 * journal_at geometry half + at) bytes image) ≡ area_of geometry h image
  areas_kept h = region_kept (InHalf h Area) (λ same. cc)

  pub gates_kept : (h : Half) → gate_of geometry h (overwrite (512 * journal_at geometry half + at) bytes image) ≡ gate_of geometry h image
  gates_kept h = region_kept (InHalf h Gate) (λ same. cc)

  pub journal_kept : (h : Half) → (h ≡ half → ⊥) → journal_of geometry h (overwrite (512 * journal_at geometry half + at) bytes image) ≡ journal_of geometry h image
  journal_kept h others = region_kept (InHalf h Journal) (λ same. others (half_of_same h half same))
    where
      half_of_same : (a b : Half) → InHalf a Journal ≡ InHalf b Journal → a ≡ b
      half_of_same a b same = cc

-- the last journal is written
module _ {Db C : Type 0} (format : StoreFormat Db C) (latest : ℕ) (image : List ℕ) (geometry : Geometry) (chosen : Half) (checkpoint : Checkpoint Db)
    (half : IsChosen format latest image geometry chosen checkpoint) (journal : Reading C)
    (is : IsJournal format.commands (limits_in checkpoint) (journal_of geometry chosen image) checkpoint.head.place journal) where
  abbrev opening_with : Reading C → Option (Reading C) → Opening Db C
  opening_with reading tail = record { geometry = geometry; chosen = chosen; checkpoint = checkpoint; journal = reading; tail = tail }

  -- the chosen half stays chosen
  pub still_chosen : (h : Half) (at : ℕ) (bytes : List ℕ) → at + length bytes ≤ 512 * geometry.journal
      → IsChosen format latest (overwrite (512 * journal_at geometry h + at) bytes image) geometry chosen checkpoint
  still_chosen h at bytes inside =
      chosen_kept format latest image (overwrite (512 * journal_at geometry h + at) bytes image) geometry chosen checkpoint
      (size_kept geometry image half.store.room h at bytes inside) (title_kept geometry image half.store.room h at bytes inside)
      (areas_kept geometry image half.store.room h at bytes inside) (gates_kept geometry image half.store.room h at bytes inside) half

  -- the reading of the written journal is a reading of the image
  pub in_image : (h : Half) (at : ℕ) (bytes : List ℕ) → at + length bytes ≤ 512 * geometry.journal → (start : ℕ) (reading : Reading C)
      → IsJournal format.commands (limits_in checkpoint) (overwrite at bytes (journal_of geometry h image)) start reading
      → IsJournal format.commands (limits_in checkpoint) (journal_of geometry h (overwrite (512 * journal_at geometry h + at) bytes image)) start reading
  in_image h at bytes inside start reading read =
      subst (λ (list : List ℕ). IsJournal format.commands (limits_in checkpoint) list start reading) (sym (journal_written geometry image half.store.room h at bytes inside)) read

  pub goes_by_last : (tail : Option (Reading C)) (at : ℕ) (bytes : List ℕ) (last : Reading C) → IsTail format.commands (limits_in checkpoint) geometry (other chosen) image journal tail
      → at + length bytes ≤ 512 * geometry.journal
      → IsJournal format.commands (limits_in checkpoint) (overwrite at bytes (journal_of geometry (tail_half chosen tail) image)) (start_of checkpoint.head.place journal tail) last
      → last.sealed ≡ false → IsOpening format latest (overwrite (512 * journal_at geometry (tail_half chosen tail) + at) bytes image) (with_last tail (opening_with journal tail) last)
  goes_by_last None at bytes last tail inside read unsealed = record {
    half = still_chosen chosen at bytes inside;
    journal = in_image chosen at bytes inside checkpoint.head.place last read;
    tail = unsealed;
  }
  goes_by_last (Some behind) at bytes last tail inside read unsealed = record {
    half = still_chosen (other chosen) at bytes inside;
    journal = subst (λ (list : List ℕ). IsJournal format.commands (limits_in checkpoint) list checkpoint.head.place journal)
        (sym (journal_kept geometry image half.store.room (other chosen) at bytes inside chosen (halves_differ chosen))) is;
    tail = (
      λ opened. tail.0 (subst IsOpenGate (gates_kept geometry image half.store.room (other chosen) at bytes inside (other chosen)) opened),
      record { sealed = tail.1.sealed; journal = in_image (other chosen) at bytes inside journal.place last read; unsealed = unsealed },
    );
  }

  -- the last journal of the image
  pub last_is : (tail : Option (Reading C)) → IsTail format.commands (limits_in checkpoint) geometry (other chosen) image journal tail
      → IsJournal format.commands (limits_in checkpoint) (journal_of geometry (tail_half chosen tail) image) (start_of checkpoint.head.place journal tail) (last_journal journal tail)
  last_is None tail = is
  last_is (Some behind) tail = tail.1.journal

  pub last_unsealed : (tail : Option (Reading C)) → IsTail format.commands (limits_in checkpoint) geometry (other chosen) image journal tail → (last_journal journal tail).sealed ≡ false
  last_unsealed None tail = tail
  last_unsealed (Some behind) tail = tail.1.unsealed

  pub same_last : (tail : Option (Reading C)) → with_last tail (opening_with journal tail) (last_journal journal tail) ≡ opening_with journal tail
  same_last None = refl
  same_last (Some behind) = refl

  -- the value of an image with one more group
  pub grown_value : (tail : Option (Reading C)) (group : List C)
      → opening_value format (with_last tail (opening_with journal tail) (reading_with_group format.commands (last_journal journal tail) group)) ≡ value_after format (opening_value format (opening_with journal tail)) group
  grown_value None group = λ i. record { db = folds_in_parts Db C format checkpoint.db journal.commands group i; place = journal.place + length group }
  grown_value (Some behind) group = λ i. record { db = folds_in_parts Db C format (db_after format checkpoint.db journal.commands) behind.commands group i; place = behind.place + length group }

-- the same of an opening
module _ {Db C : Type 0} (format : StoreFormat Db C) (latest : ℕ) (image : List ℕ) (opening : Opening Db C) (is : IsOpening format latest image opening) where
  abbrev last_bytes : List ℕ
  last_bytes = journal_of opening.geometry (last_half opening) image

  abbrev image_with : ℕ → List ℕ → List ℕ
  image_with at bytes = overwrite (512 * journal_at opening.geometry (last_half opening) + at) bytes image

  pub goes_by_its_last : (at : ℕ) (bytes : List ℕ) (last : Reading C) → at + length bytes ≤ 512 * opening.geometry.journal
      → IsJournal format.commands (limits_in opening.checkpoint) (overwrite at bytes last_bytes) (last_start opening) last → last.sealed ≡ false
      → IsOpening format latest (image_with at bytes) (with_last opening.tail opening last)
  goes_by_its_last at bytes last inside read unsealed =
      goes_by_last format latest image opening.geometry opening.chosen opening.checkpoint is.half opening.journal is.journal opening.tail at bytes last is.tail inside read unsealed

  last_so : IsJournal format.commands (limits_in opening.checkpoint) last_bytes (last_start opening) (last_reading opening)
  last_so = last_is format latest image opening.geometry opening.chosen opening.checkpoint is.half opening.journal is.journal opening.tail is.tail

  unsealed_so : (last_reading opening).sealed ≡ false
  unsealed_so = last_unsealed format latest image opening.geometry opening.chosen opening.checkpoint is.half opening.journal is.journal opening.tail is.tail

  -- a write that leaves the last journal unchanged leaves the opening unchanged
  kept_so : (at : ℕ) (bytes : List ℕ) → at + length bytes ≤ 512 * opening.geometry.journal
      → IsJournal format.commands (limits_in opening.checkpoint) (overwrite at bytes last_bytes) (last_start opening) (last_reading opening) → IsOpening format latest (image_with at bytes) opening
  kept_so at bytes inside read =
      subst (IsOpening format latest (image_with at bytes))
      (same_last format latest image opening.geometry opening.chosen opening.checkpoint is.half opening.journal is.journal opening.tail)
      (goes_by_its_last at bytes (last_reading opening) inside read unsealed_so)

  sectors_are : whole_sectors last_bytes ≡ opening.geometry.journal
  sectors_are = omega (arith, journal_long opening.geometry image is.half.store.room (last_half opening))

  written_is : (at : ℕ) (bytes : List ℕ) → at + length bytes ≤ 512 * opening.geometry.journal → journal_of opening.geometry (last_half opening) (image_with at bytes) ≡ overwrite at bytes last_bytes
  written_is at bytes inside = journal_written opening.geometry image is.half.store.room (last_half opening) at bytes inside

  -- a group is written after the last gate
  pub made_ready_so : (group : List C) (gate : List ℕ) → CanBeGroup format.commands (limits_in opening.checkpoint) (last_reading opening).place group
      → JournalHasRoom (last_reading opening).tail (group_sectors format.commands group) opening.geometry.journal → length gate ≡ 512 → (IsOpenGate gate → ⊥)
      → let bytes = group_encoding format.commands (last_reading opening).place group ++ gate in
      IsOpening format latest (image_with (512 * ((last_reading opening).tail + 1)) bytes) opening
      × IsReadyFor format.commands (limits_in opening.checkpoint) (journal_of opening.geometry (last_half opening) (image_with (512 * ((last_reading opening).tail + 1)) bytes)) (last_reading opening) group
  made_ready_so group gate can room long closed = (
    kept_so at bytes inside ready.0,
    subst (λ (list : List ℕ). IsReadyFor format.commands (limits_in opening.checkpoint) list (last_reading opening) group) (sym (written_is at bytes inside)) ready.1,
  )
    where
      at : ℕ
      at = 512 * ((last_reading opening).tail + 1)

      bytes : List ℕ
      bytes = group_encoding format.commands (last_reading opening).place group ++ gate

      inside : at + length bytes ≤ 512 * opening.geometry.journal
      inside = omega (arith, room, length-append (group_encoding format.commands (last_reading opening).place group) gate, length-group_encoding C format.commands (last_reading opening).place group)

      enough : JournalHasRoom (last_reading opening).tail (group_sectors format.commands group) (whole_sectors last_bytes)
      enough = omega (arith, room, sectors_are)

      ready : IsJournal format.commands (limits_in opening.checkpoint) (overwrite at bytes last_bytes) (last_start opening) (last_reading opening)
          × IsReadyFor format.commands (limits_in opening.checkpoint) (overwrite at bytes last_bytes) (last_reading opening) group
      ready = made_ready C format.commands (limits_in opening.checkpoint) last_bytes (last_start opening) (last_reading opening) group gate last_so unsealed_so can enough long closed

  -- the last gate is written after the group
  module _ (group : List C) (gate : List ℕ) (ready : IsReadyFor format.commands (limits_in opening.checkpoint) last_bytes (last_reading opening) group) (long : length gate ≡ 512) where
    gate_inside : 512 * (last_reading opening).tail + length gate ≤ 512 * opening.geometry.journal
    gate_inside = omega (arith, ready.has.room, sectors_are)

    both : (IsOpenGate gate → IsJournal format.commands (limits_in opening.checkpoint) (overwrite (512 * (last_reading opening).tail) gate last_bytes) (last_start opening)
        (reading_with_group format.commands (last_reading opening) group))
        × ((IsOpenGate gate → ⊥) → IsJournal format.commands (limits_in opening.checkpoint) (overwrite (512 * (last_reading opening).tail) gate last_bytes) (last_start opening) (last_reading opening))
    both = grows_by_its_gate C format.commands (limits_in opening.checkpoint) last_bytes (last_start opening) (last_reading opening) group gate last_so ready long

    pub opened_so : IsOpenGate gate → IsOpening format latest (image_with (512 * (last_reading opening).tail) gate) (with_last opening.tail opening (reading_with_group format.commands (last_reading opening) group))
    opened_so opened = goes_by_its_last (512 * (last_reading opening).tail) gate (reading_with_group format.commands (last_reading opening) group) gate_inside (both.0 opened) refl

    pub closed_so : (IsOpenGate gate → ⊥) → IsOpening format latest (image_with (512 * (last_reading opening).tail) gate) opening
    closed_so closed = kept_so (512 * (last_reading opening).tail) gate gate_inside (both.1 closed)

-- offsets in the image
pub in_sectors : (start gate : ℕ) → 512 * start + 512 * gate ≡ 512 * (start + gate)
in_sectors start gate = omega arith

pub behind_gate : (start gate : ℕ) → 512 * start + 512 * (gate + 1) ≡ 512 * (start + gate + 1)
behind_gate start gate = omega arith

pub store_goes_by_its_last_journal : (Db C : Type 0) → StoreGoesByItsLastJournal Db C
store_goes_by_its_last_journal Db C format latest image opening at bytes last is inside read unsealed = goes_by_its_last format latest image opening is at bytes last inside read unsealed

pub store_is_made_ready : (Db C : Type 0) → StoreIsMadeReady Db C
store_is_made_ready Db C format latest image opening group gate is can room long closed =
    subst (λ (at : ℕ). let written = overwrite at bytes image in
    IsOpening format latest written opening × IsReadyFor format.commands (limits_in opening.checkpoint) (journal_of opening.geometry (last_half opening) written) (last_reading opening) group)
    (behind_gate (journal_at opening.geometry (last_half opening)) (last_reading opening).tail) (made_ready_so format latest image opening is group gate can room long closed)
  where
    bytes : List ℕ
    bytes = group_encoding format.commands (last_reading opening).place group ++ gate

pub store_grows_by_its_gate : (Db C : Type 0) → StoreGrowsByItsGate Db C
store_grows_by_its_gate Db C format latest image opening group gate is ready long = (
  λ opened. subst (λ (at : ℕ). IsOpening format latest (overwrite at gate image) (with_last opening.tail opening (reading_with_group format.commands (last_reading opening) group))) there
      (opened_so format latest image opening is group gate ready long opened),
  λ closed. subst (λ (at : ℕ). IsOpening format latest (overwrite at gate image) opening) there (closed_so format latest image opening is group gate ready long closed),
  grown_value format latest image opening.geometry opening.chosen opening.checkpoint is.half opening.journal is.journal opening.tail group,
)
  where
    there : 512 * journal_at opening.geometry (last_half opening) + 512 * (last_reading opening).tail ≡ 512 * last_gate opening
    there = in_sectors (journal_at opening.geometry (last_half opening)) (last_reading opening).tail
