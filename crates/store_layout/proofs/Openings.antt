-- An image that opens is read as its opening.
use Rattle.std.proofs.Common.{◌≡◌, ℕ, ◌<◌, ◌≤◌, Bool, true, false, ltb, List, Some, None, Option, Ok, Result, refl, ◌∙◌, ap, arith, ne_eqb}
use Rattle.std.proofs.lemmas.Bool.{lt-ltb, le-ltb}
use Rattle.byte_lists.specs.Sectors.{IsOpenGate, is_open_gate}
use Rattle.byte_lists.proofs.Padding.{open_true, open_false, true_open, false_open}
use Rattle.store_layout.specs.declared.half.Half.{Half}
use Rattle.store_layout.specs.declared.half.Half.TheVariants.{First, Second}
use Rattle.store_layout.specs.GroupReading.{JournalRefusal}
use Rattle.store_layout.specs.Journal.{Reading}
use Rattle.store_layout.specs.Layout.{Geometry, other, area_of, gate_of, journal_of}
use Rattle.store_layout.specs.StoreFormat.{StoreFormat}
use Rattle.store_layout.specs.Checkpoint.{Head, Checkpoint, IsHead}
use Rattle.store_layout.specs.CheckpointReading.{head_in}
use Rattle.store_layout.specs.Opening.{Opening, limits_in, HasOlderHead, IsTail, IsChosen, IsOpening}
use Rattle.store_layout.specs.OpeningReading.{head_behind, head_of, by_epochs, choice, choice_of, behind_journal, read_tail, with_tail, by_journal, journal_from, by_checkpoint, by_choice, by_geometry, opening_of}
use Rattle.store_layout.proofs.Chains.{journal_read}
use Rattle.store_layout.proofs.Titles.{store_read}
use Rattle.store_layout.proofs.Heads.{head_read}
use Rattle.store_layout.proofs.Checkpoints.{checkpoint_read, begins_with_its_head}
use Rattle.store_layout.proofs.Places.{store_journal}

-- the head of the half that is not chosen has an earlier epoch, if this half is open
abbrev pub IsBehind : ℕ → Option Head → Type 0
IsBehind epoch None = Unit {0}
IsBehind epoch (Some head) = head.epoch < epoch

pub choice_first : (head : Head) (others : Option Head) → IsBehind head.epoch others → choice (Some head) others ≡ Ok First
choice_first head None behind = refl
choice_first head (Some older) behind =
    ap (λ (b : Bool). by_epochs b (ltb head.epoch older.epoch)) (ne_eqb _ _ (λ same. omega arith))
    ∙ ap (λ (b : Bool). by_epochs false b) (le-ltb head.epoch older.epoch (omega arith))

pub choice_second : (head : Head) (others : Option Head) → IsBehind head.epoch others → choice others (Some head) ≡ Ok Second
choice_second head None behind = refl
choice_second head (Some older) behind =
    ap (λ (b : Bool). by_epochs b (ltb older.epoch head.epoch)) (ne_eqb _ _ (λ same. omega arith))
    ∙ ap (λ (b : Bool). by_epochs false b) (lt-ltb older.epoch head.epoch behind)

-- the result of reading the other half's head
record OtherHead (latest : ℕ) (geometry : Geometry) (half : Half) (image : List ℕ) (epoch : ℕ) : Type 0 where
  head : Option Head
  read : head_of latest geometry half image ≡ Ok head
  behind : IsBehind epoch head

module _ (latest : ℕ) (geometry : Geometry) (image : List ℕ) where
  -- the head of an open half, and of a closed one
  pub open_head : (half : Half) → IsOpenGate (gate_of geometry half image) → head_of latest geometry half image ≡ head_behind true (head_in latest (area_of geometry half image))
  open_head half opened = ap (λ (b : Bool). head_behind b (head_in latest (area_of geometry half image))) (open_true (gate_of geometry half image) opened)

  pub closed_head : (half : Half) → (IsOpenGate (gate_of geometry half image) → ⊥) → head_of latest geometry half image ≡ Ok None
  closed_head half closed = ap (λ (b : Bool). head_behind b (head_in latest (area_of geometry half image))) (open_false (gate_of geometry half image) closed)

  pub own_head : (half : Half) (head : Head) → IsOpenGate (gate_of geometry half image) → IsHead (area_of geometry half image) head → head.version ≤ latest
      → head_of latest geometry half image ≡ Ok (Some head)
  own_head half head opened is known = open_head half opened ∙ ap (head_behind true) (head_read (area_of geometry half image) head is latest known)

  passed_over : (half : Half) (epoch : ℕ) (b : Bool) → is_open_gate (gate_of geometry half image) ≡ b
      → (IsOpenGate (gate_of geometry half image) → HasOlderHead latest (area_of geometry half image) epoch) → OtherHead latest geometry half image epoch
  passed_over half epoch false closed older = record { head = None; read = closed_head half (false_open (gate_of geometry half image) closed); behind = tt }
  passed_over half epoch true opened older =
      let last = older (true_open (gate_of geometry half image) opened) in
      record { head = Some last.head; read = own_head half last.head (true_open (gate_of geometry half image) opened) last.is last.known; behind = last.older }

  by_half : (half : Half) (head : Head) → head_of latest geometry half image ≡ Ok (Some head) → OtherHead latest geometry (other half) image head.epoch
      → choice_of (head_of latest geometry First image) (head_of latest geometry Second image) ≡ Ok half
  by_half First head own its = (λ i. choice_of (own i) (its.read i)) ∙ choice_first head its.head its.behind
  by_half Second head own its = (λ i. choice_of (its.read i) (own i)) ∙ choice_second head its.head its.behind

  -- an open half with a head is chosen where the other half is closed or older
  pub half_chosen : (half : Half) (head : Head) → IsOpenGate (gate_of geometry half image) → IsHead (area_of geometry half image) head → head.version ≤ latest
      → (IsOpenGate (gate_of geometry (other half) image) → HasOlderHead latest (area_of geometry (other half) image) head.epoch)
      → choice_of (head_of latest geometry First image) (head_of latest geometry Second image) ≡ Ok half
  half_chosen half head opened is known older =
      by_half half head (own_head half head opened is known) (passed_over (other half) head.epoch (is_open_gate (gate_of geometry (other half) image)) refl older)

-- the chosen half's checkpoint is read
pub chosen_read : {Db C : Type 0} (format : StoreFormat Db C) (latest : ℕ) (image : List ℕ) (geometry : Geometry) (half : Half) (checkpoint : Checkpoint Db)
    → IsChosen format latest image geometry half checkpoint → opening_of format latest image ≡ by_checkpoint format geometry half image (Ok checkpoint)
chosen_read format latest image geometry half checkpoint is =
    ap (by_geometry format latest image) (store_read image geometry is.store)
    ∙ ap (by_choice format latest geometry image)
    (half_chosen latest geometry image half checkpoint.head is.gate (begins_with_its_head format.rows (area_of geometry half image) checkpoint is.begins) is.known is.older)
    ∙ ap (by_checkpoint format geometry half image) (checkpoint_read format.rows latest (area_of geometry half image) checkpoint is.begins is.known)

module _ {Db C : Type 0} (format : StoreFormat Db C) (latest : ℕ) (image : List ℕ) (opening : Opening Db C) (is : IsOpening format latest image opening) where
  abbrev behind : ℕ → Result (Reading C) JournalRefusal
  behind place = journal_from format opening.checkpoint opening.geometry (other opening.chosen) image place

  tail_so : (tail : Option (Reading C)) → IsTail format.commands (limits_in opening.checkpoint) opening.geometry (other opening.chosen) image opening.journal tail
      → behind_journal opening.journal.sealed (is_open_gate (gate_of opening.geometry (other opening.chosen) image))
      (record { geometry = opening.geometry; chosen = opening.chosen; checkpoint = opening.checkpoint; journal = opening.journal; tail = None }) (behind opening.journal.place)
      ≡ Ok (record { geometry = opening.geometry; chosen = opening.chosen; checkpoint = opening.checkpoint; journal = opening.journal; tail = tail })
  tail_so None unsealed = ap (λ (b : Bool). behind_journal b (is_open_gate (gate_of opening.geometry (other opening.chosen) image)) alone (behind opening.journal.place)) unsealed
    where
      alone : Opening Db C
      alone = record { geometry = opening.geometry; chosen = opening.chosen; checkpoint = opening.checkpoint; journal = opening.journal; tail = None }
  tail_so (Some last) goes_on =
      ap (λ (b : Bool). behind_journal b (is_open_gate (gate_of opening.geometry (other opening.chosen) image)) alone (behind opening.journal.place)) goes_on.1.sealed
      ∙ ap (λ (b : Bool). behind_journal true b alone (behind opening.journal.place)) (open_false (gate_of opening.geometry (other opening.chosen) image) goes_on.0)
      ∙ ap (read_tail alone) (journal_read format.commands (limits_in opening.checkpoint) (journal_of opening.geometry (other opening.chosen) image) opening.journal.place last
      (store_journal opening.geometry image is.half.store (other opening.chosen)) goes_on.1.journal)
      ∙ ap (λ (b : Bool). with_tail alone b last) goes_on.1.unsealed
    where
      alone : Opening Db C
      alone = record { geometry = opening.geometry; chosen = opening.chosen; checkpoint = opening.checkpoint; journal = opening.journal; tail = None }

  pub opening_read : opening_of format latest image ≡ Ok opening
  opening_read =
      chosen_read format latest image opening.geometry opening.chosen opening.checkpoint is.half
      ∙ ap (λ (r : Result (Reading C) JournalRefusal). by_journal opening.geometry opening.chosen opening.checkpoint (is_open_gate (gate_of opening.geometry (other opening.chosen) image)) r behind)
      (journal_read format.commands (limits_in opening.checkpoint) (journal_of opening.geometry opening.chosen image) opening.checkpoint.head.place opening.journal
      (store_journal opening.geometry image is.half.store opening.chosen) is.journal)
      ∙ tail_so opening.tail is.tail
