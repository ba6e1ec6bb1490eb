-- What is read is an opening, and what holds for each opening.
use Rattle.std.proofs.Common.{◌≡◌, ℕ, ◌<◌, ◌≤◌, Bool, true, false, ltb, eqb, List, Some, None, Option, Ok, Err, Result, refl, sym, ◌∙◌, ap, subst, arith}
use Rattle.std.proofs.lemmas.Bool.{eqb-false, ltb-true, ltb-false}
use Rattle.byte_lists.specs.Content.{AreBytes}
use Rattle.byte_lists.specs.Sectors.{IsOpenGate, is_open_gate}
use Rattle.byte_lists.proofs.Padding.{true_open, false_open}
use Rattle.store_layout.specs.declared.half.Half.{Half}
use Rattle.store_layout.specs.declared.half.Half.TheVariants.{First, Second}
use Rattle.store_layout.specs.GroupReading.{JournalRefusal}
use Rattle.store_layout.specs.Journal.{Reading}
use Rattle.store_layout.specs.Layout.{Geometry, other, area_of, gate_of, journal_of}
use Rattle.store_layout.specs.FirstSector.{IsStore, geometry_in}
use Rattle.store_layout.specs.StoreFormat.{StoreFormat}
use Rattle.store_layout.specs.Checkpoint.{Head, Checkpoint, IsCheckpoint}
use Rattle.store_layout.specs.CheckpointReading.{PairRefusal, head_in, checkpoint_in}
use Rattle.store_layout.specs.Opening.{Opening, limits_in, HasOlderHead, IsTail, IsChosen, IsOpening, StoreValue, OpensTo}
use Rattle.store_layout.specs.OpeningReading.{OpenRefusal, head_behind, head_of, by_epochs, choice_of, behind_journal, read_tail, with_tail, by_journal, journal_from, by_checkpoint, by_choice, by_geometry, opening_of, value_of_reading, store_value}
use Rattle.store_layout.specs.OpeningLaws.{IsOpenedSo, HasValueJustWhere, HasOneValue, OpensUnderLaterVersions}
use Rattle.store_layout.proofs.Scans.{read_journal}
use Rattle.store_layout.proofs.Titles.{store_from}
use Rattle.store_layout.proofs.Heads.{head_from, head_read}
use Rattle.store_layout.proofs.Checkpoints.{checkpoint_from, begins_with_its_head}
use Rattle.store_layout.proofs.Places.{store_area, store_journal, area_bytes, journal_bytes}
use Rattle.store_layout.proofs.Openings.{IsBehind, opening_read}

-- a half was chosen: its head, and that of the other one
record Chosen (mine others : Result (Option Head) PairRefusal) : Type 0 where
  head : Head
  passed_over : Option Head
  mine_is : mine ≡ Ok (Some head)
  others_is : others ≡ Ok passed_over
  behind : IsBehind head.epoch passed_over

abbrev ChosenAs : Half → Result (Option Head) PairRefusal → Result (Option Head) PairRefusal → Type 0
ChosenAs First one two = Chosen one two
ChosenAs Second one two = Chosen two one

epochs_from : (one two : Head) (same older : Bool) → eqb one.epoch two.epoch ≡ same → ltb one.epoch two.epoch ≡ older → (half : Half) → by_epochs same older ≡ Ok half
    → ChosenAs half (Ok (Some one)) (Ok (Some two))
epochs_from one two true older same_is older_is half is = cc
epochs_from one two false true same_is older_is First is = cc
epochs_from one two false true same_is older_is Second is =
    record { head = two; passed_over = Some one; mine_is = refl; others_is = refl; behind = ltb-true _ _ older_is }
epochs_from one two false false same_is older_is Second is = cc
epochs_from one two false false same_is older_is First is = record {
  head = one;
  passed_over = Some two;
  mine_is = refl;
  others_is = refl;
  behind = omega (arith, ltb-false _ _ older_is, λ (same : one.epoch ≡ two.epoch). eqb-false _ _ same_is same);
}

choice_from : (one two : Result (Option Head) PairRefusal) (half : Half) → choice_of one two ≡ Ok half → ChosenAs half one two
choice_from (Err e) two half is = cc
choice_from (Ok one) (Err e) half is = cc
choice_from (Ok None) (Ok None) half is = cc
choice_from (Ok (Some one)) (Ok None) First is = record { head = one; passed_over = None; mine_is = refl; others_is = refl; behind = tt }
choice_from (Ok (Some one)) (Ok None) Second is = cc
choice_from (Ok None) (Ok (Some two)) First is = cc
choice_from (Ok None) (Ok (Some two)) Second is = record { head = two; passed_over = None; mine_is = refl; others_is = refl; behind = tt }
choice_from (Ok (Some one)) (Ok (Some two)) half is = epochs_from one two (eqb one.epoch two.epoch) (ltb one.epoch two.epoch) refl refl half is

-- the chosen half and the other one
chosen_pair : (latest : ℕ) (geometry : Geometry) (image : List ℕ) (half : Half) → choice_of (head_of latest geometry First image) (head_of latest geometry Second image) ≡ Ok half
    → Chosen (head_of latest geometry half image) (head_of latest geometry (other half) image)
chosen_pair latest geometry image First is = choice_from _ _ First is
chosen_pair latest geometry image Second is = choice_from _ _ Second is

-- a head that was read comes from a half with an open gate
pub head_open : (b : Bool) (read : Result Head PairRefusal) (head : Head) → head_behind b read ≡ Ok (Some head) → (b ≡ true) × (read ≡ Ok head)
head_open false read head is = cc
head_open true (Err e) head is = cc
head_open true (Ok found) head is = (refl, cc)

pub head_closed : (b : Bool) (read : Result Head PairRefusal) → head_behind b read ≡ Ok None → b ≡ false
head_closed false read is = refl
head_closed true (Err e) is = cc
head_closed true (Ok found) is = cc

-- the result of reading after the chosen half's journal
abbrev TailRead : {C : Type 0} → Bool → Bool → Result (Reading C) JournalRefusal → Option (Reading C) → Type 0
TailRead sealed other_is_open behind None = sealed ≡ false
TailRead sealed other_is_open behind (Some last) = (sealed ≡ true) × (other_is_open ≡ false) × (behind ≡ Ok last) × (last.sealed ≡ false)

record ReadSo {Db C : Type 0} (sealed other_is_open : Bool) (behind : Result (Reading C) JournalRefusal) (alone opening : Opening Db C) : Type 0 where
  front : record { geometry = alone.geometry; chosen = alone.chosen; checkpoint = alone.checkpoint; journal = alone.journal; tail = opening.tail } ≡ opening
  tail_read : TailRead sealed other_is_open behind opening.tail

last_from : {Db C : Type 0} (alone opening : Opening Db C) (b : Bool) (last : Reading C) → last.sealed ≡ b → with_tail alone b last ≡ Ok opening → ReadSo true false (Ok last) alone opening
last_from alone opening true last sealed is = cc
last_from alone opening false last sealed is =
    let same : record { geometry = alone.geometry; chosen = alone.chosen; checkpoint = alone.checkpoint; journal = alone.journal; tail = Some last } ≡ opening = cc in
    subst (λ (o : Opening _ _). ReadSo true false (Ok last) alone o) same (record { front = refl; tail_read = (refl, refl, refl, sealed) })

tail_from : {Db C : Type 0} (alone opening : Opening Db C) (behind : Result (Reading C) JournalRefusal) → read_tail alone behind ≡ Ok opening → ReadSo true false behind alone opening
tail_from alone opening (Err e) is = cc
tail_from alone opening (Ok last) is = last_from alone opening last.sealed last refl is

behind_from : {Db C : Type 0} (sealed other_is_open : Bool) (alone opening : Opening Db C) (behind : Result (Reading C) JournalRefusal) → alone.tail ≡ None
    → behind_journal sealed other_is_open alone behind ≡ Ok opening → ReadSo sealed other_is_open behind alone opening
behind_from false other_is_open alone opening behind none is =
    let same : alone ≡ opening = cc in
    subst (λ (o : Opening _ _). ReadSo false other_is_open behind alone o) same (record { front = refl; tail_read = subst (TailRead false other_is_open behind) (sym none) refl })
behind_from true true alone opening behind none is = cc
behind_from true false alone opening behind none is = tail_from alone opening behind is

-- the steps by which a journal was read
record JournalSo {Db C : Type 0} (geometry : Geometry) (half : Half) (checkpoint : Checkpoint Db) (other_is_open : Bool) (first : Result (Reading C) JournalRefusal)
    (behind : ℕ → Result (Reading C) JournalRefusal) (opening : Opening Db C) : Type 0 where
  journal : Reading C
  first_is : first ≡ Ok journal
  parts : record { geometry = geometry; chosen = half; checkpoint = checkpoint; journal = journal; tail = opening.tail } ≡ opening
  tail_read : TailRead journal.sealed other_is_open (behind journal.place) opening.tail

journal_so : {Db C : Type 0} (geometry : Geometry) (half : Half) (checkpoint : Checkpoint Db) (other_is_open : Bool) (first : Result (Reading C) JournalRefusal)
    (behind : ℕ → Result (Reading C) JournalRefusal) (opening : Opening Db C) → by_journal geometry half checkpoint other_is_open first behind ≡ Ok opening
    → JournalSo geometry half checkpoint other_is_open first behind opening
journal_so geometry half checkpoint other_is_open (Err e) behind opening is = cc
journal_so geometry half checkpoint other_is_open (Ok journal) behind opening is =
    let so = behind_from journal.sealed other_is_open (record { geometry = geometry; chosen = half; checkpoint = checkpoint; journal = journal; tail = None }) opening (behind journal.place) refl is in
    record { journal = journal; first_is = refl; parts = so.front; tail_read = so.tail_read }

-- the steps by which an image was read
record ImageSo {Db C : Type 0} (format : StoreFormat Db C) (latest : ℕ) (image : List ℕ) (opening : Opening Db C) : Type 0 where
  geometry : Geometry
  half : Half
  checkpoint : Checkpoint Db
  geometry_is : geometry_in image ≡ Some geometry
  chosen_is : choice_of (head_of latest geometry First image) (head_of latest geometry Second image) ≡ Ok half
  checkpoint_is : checkpoint_in format.rows latest (area_of geometry half image) ≡ Ok checkpoint
  journal_is : JournalSo geometry half checkpoint (is_open_gate (gate_of geometry (other half) image)) (journal_from format checkpoint geometry half image checkpoint.head.place)
      (journal_from format checkpoint geometry (other half) image) opening

module _ {Db C : Type 0} (format : StoreFormat Db C) (latest : ℕ) (image : List ℕ) (opening : Opening Db C) where
  checkpoint_so : (geometry : Geometry) (half : Half) (found : Result (Checkpoint Db) PairRefusal) → geometry_in image ≡ Some geometry
      → choice_of (head_of latest geometry First image) (head_of latest geometry Second image) ≡ Ok half
      → checkpoint_in format.rows latest (area_of geometry half image) ≡ found → by_checkpoint format geometry half image found ≡ Ok opening → ImageSo format latest image opening
  checkpoint_so geometry half (Err e) geometry_is chosen_is found_is is = cc
  checkpoint_so geometry half (Ok checkpoint) geometry_is chosen_is found_is is = record {
    geometry = geometry;
    half = half;
    checkpoint = checkpoint;
    geometry_is = geometry_is;
    chosen_is = chosen_is;
    checkpoint_is = found_is;
    journal_is = journal_so geometry half checkpoint (is_open_gate (gate_of geometry (other half) image)) (journal_from format checkpoint geometry half image checkpoint.head.place)
        (journal_from format checkpoint geometry (other half) image) opening is;
  }

  choice_so : (geometry : Geometry) (half : Result Half PairRefusal) → geometry_in image ≡ Some geometry
      → choice_of (head_of latest geometry First image) (head_of latest geometry Second image) ≡ half → by_choice format latest geometry image half ≡ Ok opening → ImageSo format latest image opening
  choice_so geometry (Err e) geometry_is chosen_is is = cc
  choice_so geometry (Ok half) geometry_is chosen_is is = checkpoint_so geometry half (checkpoint_in format.rows latest (area_of geometry half image)) geometry_is chosen_is refl is

  geometry_so : (found : Option Geometry) → geometry_in image ≡ found → by_geometry format latest image found ≡ Ok opening → ImageSo format latest image opening
  geometry_so None found_is is = cc
  geometry_so (Some geometry) found_is is =
      choice_so geometry (choice_of (head_of latest geometry First image) (head_of latest geometry Second image)) found_is refl is

  -- the relation `IsOpening`, from the parts
  opens_so : AreBytes image → (so : ImageSo format latest image opening)
      → IsOpening format latest image (record { geometry = so.geometry; chosen = so.half; checkpoint = so.checkpoint; journal = so.journal_is.journal; tail = opening.tail })
  opens_so each so = record {
    half = record {
      store = store;
      gate = true_open (gate_of so.geometry so.half image) own.0;
      begins = checkpoint.0;
      known = checkpoint.1;
      older = λ opened. older pair.passed_over pair.others_is pair.behind opened;
    };
    journal = read_journal format.commands (limits_in so.checkpoint) (journal_of so.geometry so.half image) (journal_bytes so.geometry so.half image each) so.checkpoint.head.place
        so.journal_is.journal (store_journal so.geometry image store so.half) so.journal_is.first_is;
    tail = tail opening.tail so.journal_is.tail_read;
  }
    where
      store : IsStore so.geometry image
      store = store_from image so.geometry each so.geometry_is

      checkpoint : IsCheckpoint format.rows (area_of so.geometry so.half image) so.checkpoint × (so.checkpoint.head.version ≤ latest)
      checkpoint = checkpoint_from format.rows latest (area_of so.geometry so.half image) so.checkpoint (area_bytes so.geometry so.half image each)
          (store_area so.geometry image store so.half) so.checkpoint_is

      pair : Chosen (head_of latest so.geometry so.half image) (head_of latest so.geometry (other so.half) image)
      pair = chosen_pair latest so.geometry image so.half so.chosen_is

      own : (is_open_gate (gate_of so.geometry so.half image) ≡ true) × (head_in latest (area_of so.geometry so.half image) ≡ Ok pair.head)
      own = head_open (is_open_gate (gate_of so.geometry so.half image)) (head_in latest (area_of so.geometry so.half image)) pair.head pair.mine_is

      head : pair.head ≡ so.checkpoint.head
      head =
          let read = head_read (area_of so.geometry so.half image) so.checkpoint.head (begins_with_its_head format.rows (area_of so.geometry so.half image) so.checkpoint checkpoint.0) latest checkpoint.1 in
          let found = own.1 in
          cc

      older : (passed_over : Option Head) → head_of latest so.geometry (other so.half) image ≡ Ok passed_over → IsBehind pair.head.epoch passed_over
          → IsOpenGate (gate_of so.geometry (other so.half) image) → HasOlderHead latest (area_of so.geometry (other so.half) image) so.checkpoint.head.epoch
      older None read behind opened =
          absurd (false_open (gate_of so.geometry (other so.half) image)
          (head_closed (is_open_gate (gate_of so.geometry (other so.half) image)) (head_in latest (area_of so.geometry (other so.half) image)) read) opened)
      older (Some last) read behind opened =
          let parts = head_open (is_open_gate (gate_of so.geometry (other so.half) image)) (head_in latest (area_of so.geometry (other so.half) image)) last read in
          let is = head_from latest (area_of so.geometry (other so.half) image) last (area_bytes so.geometry (other so.half) image each) (store_area so.geometry image store (other so.half)) parts.1 in
          record { head = last; is = is.0; known = is.1; older = subst (λ (h : Head). last.epoch < h.epoch) head behind }

      tail : (last : Option (Reading C))
          → TailRead so.journal_is.journal.sealed (is_open_gate (gate_of so.geometry (other so.half) image)) (journal_from format so.checkpoint so.geometry (other so.half) image so.journal_is.journal.place) last
          → IsTail format.commands (limits_in so.checkpoint) so.geometry (other so.half) image so.journal_is.journal last
      tail None read = read
      tail (Some last) read = (
        false_open (gate_of so.geometry (other so.half) image) read.1,
        record {
          sealed = read.0;
          journal = read_journal format.commands (limits_in so.checkpoint) (journal_of so.geometry (other so.half) image) (journal_bytes so.geometry (other so.half) image each)
              so.journal_is.journal.place last (store_journal so.geometry image store (other so.half)) read.2;
          unsealed = read.3;
        },
      )

  pub opening_from : AreBytes image → opening_of format latest image ≡ Ok opening → IsOpening format latest image opening
  opening_from each is =
      let so = geometry_so (geometry_in image) refl is in
      subst (IsOpening format latest image) so.journal_is.parts (opens_so each so)

pub is_opened_so : (Db C : Type 0) → IsOpenedSo Db C
is_opened_so Db C format latest image opening each = (opening_from format latest image opening each, opening_read format latest image opening)

-- values
module _ {Db C : Type 0} (format : StoreFormat Db C) (latest : ℕ) (image : List ℕ) (value : StoreValue Db) where
  pub value_read : OpensTo format latest image value → store_value format latest image ≡ Ok value
  value_read is =
      ap (value_of_reading format) (opening_read format latest image is.opening is.is)
      ∙ ap (λ (v : StoreValue Db). let r : Result (StoreValue Db) OpenRefusal = Ok v in r) is.stands_for

  value_found : AreBytes image → (found : Result (Opening Db C) OpenRefusal) → opening_of format latest image ≡ found → value_of_reading format found ≡ Ok value → OpensTo format latest image value
  value_found each (Err e) found_is is = cc
  value_found each (Ok opening) found_is is = record { opening = opening; is = opening_from format latest image opening each found_is; stands_for = cc }

  pub value_from : AreBytes image → store_value format latest image ≡ Ok value → OpensTo format latest image value
  value_from each is = value_found each (opening_of format latest image) refl is

pub has_value_just_where : (Db C : Type 0) → HasValueJustWhere Db C
has_value_just_where Db C format latest image value each = (value_from format latest image value each, value_read format latest image value)

pub has_one_value : (Db C : Type 0) → HasOneValue Db C
has_one_value Db C format latest image one other is_one is_other =
    let a = value_read format latest image one is_one in
    let b = value_read format latest image other is_other in
    cc

-- more versions
pub chosen_later : {Db C : Type 0} (format : StoreFormat Db C) (earlier later : ℕ) (image : List ℕ) (geometry : Geometry) (half : Half) (checkpoint : Checkpoint Db) → earlier ≤ later
    → IsChosen format earlier image geometry half checkpoint → IsChosen format later image geometry half checkpoint
chosen_later format earlier later image geometry half checkpoint before is = record {
  store = is.store;
  gate = is.gate;
  begins = is.begins;
  known = omega (arith, is.known);
  older = λ opened.
      let older = is.older opened in
      record { head = older.head; is = older.is; known = omega (arith, older.known); older = older.older };
}

pub opens_later : {Db C : Type 0} (format : StoreFormat Db C) (earlier later : ℕ) (image : List ℕ) (opening : Opening Db C) → earlier ≤ later
    → IsOpening format earlier image opening → IsOpening format later image opening
opens_later format earlier later image opening before is = record {
  half = chosen_later format earlier later image opening.geometry opening.chosen opening.checkpoint before is.half;
  journal = is.journal;
  tail = is.tail;
}

pub opens_under_later_versions : (Db C : Type 0) → OpensUnderLaterVersions Db C
opens_under_later_versions Db C format earlier later image value before is =
    record { opening = is.opening; is = opens_later format earlier later image is.opening before is.is; stands_for = is.stands_for }
