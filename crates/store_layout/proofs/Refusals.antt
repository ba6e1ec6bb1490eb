-- An image is refused exactly where the definition of the refusal holds.
use Rattle.std.proofs.Common.{◌≡◌, inl, inr, ℕ, ◌<◌, ◌≤◌, Bool, true, false, ltb, eqb, List, Some, None, Option, Ok, Err, Result, refl, sym, ◌∙◌, ap, subst, arith, eq-eqb, eqb-true}
use Rattle.std.proofs.lemmas.Bool.{eqb-false, ltb-true, ltb-false}
use Rattle.byte_lists.specs.Content.{AreBytes}
use Rattle.byte_lists.specs.Numbers.{four_at}
use Rattle.byte_lists.specs.Sectors.{IsOpenGate, is_open_gate}
use Rattle.byte_lists.proofs.Padding.{open_true, open_false, true_open, false_open}
use Rattle.store_layout.specs.declared.half.Half.{Half}
use Rattle.store_layout.specs.declared.half.Half.TheVariants.{First, Second}
use Rattle.store_layout.specs.GroupReading.{JournalRefusal}
use Rattle.store_layout.specs.Journal.{Reading, IsJournal}
use Rattle.store_layout.specs.Layout.{Geometry, other, area_of, gate_of, journal_of}
use Rattle.store_layout.specs.FirstSector.{IsStore, geometry_in}
use Rattle.store_layout.specs.StoreFormat.{StoreFormat}
use Rattle.store_layout.specs.Checkpoint.{Head, Checkpoint, IsHead, IsCheckpoint, checkpoint_magic}
use Rattle.store_layout.specs.CheckpointReading.{PairRefusal, NoHalf, SameEpoch, BadCheckpoint, SealedNewer, NewerFormat, head_in, db_in, with_rows, checkpoint_in}
use Rattle.store_layout.specs.Opening.{Opening, limits_in, HasOlderHead, IsChosen}
use Rattle.store_layout.specs.OpeningReading.{OpenRefusal, NotAStore, BadPair, BadJournal, head_behind, head_of, by_epochs, choice_of, behind_journal, read_tail, with_tail, by_journal, journal_from, by_checkpoint, by_choice, by_geometry, opening_of}
use Rattle.store_layout.specs.OpeningRefusals.{IsClosedOrKnown, HasBadHead, HasBadHeads, HasOneEpoch, HasSealedJournal, IsStoreRefusal, IsOpenRefusal}
use Rattle.store_layout.specs.OpeningLaws.{IsOpenRefusedSo}
use Rattle.store_layout.proofs.Chains.{journal_read}
use Rattle.store_layout.proofs.Scans.{read_journal, refused_journal, journal_refused}
use Rattle.store_layout.proofs.Titles.{store_read, store_from}
use Rattle.store_layout.proofs.Heads.{head_read, head_from, refused_from_magic, refused_head, numbers_are}
use Rattle.store_layout.proofs.Checkpoints.{begins_with_its_head, db_read, checkpoint_from}
use Rattle.store_layout.proofs.Places.{store_area, store_journal, area_bytes, journal_bytes}
use Rattle.store_layout.proofs.Openings.{open_head, closed_head, own_head, half_chosen, chosen_read}
use Rattle.store_layout.proofs.Opened.{head_open, head_closed}

-- a head that was refused comes from a half with an open gate
head_bad : (b : Bool) (read : Result Head PairRefusal) (refusal : PairRefusal) → head_behind b read ≡ Err refusal → (b ≡ true) × (read ≡ Err refusal)
head_bad false read refusal is = cc
head_bad true (Err e) refusal is = (refl, cc)
head_bad true (Ok head) refusal is = cc

-- a head without rows after it
no_rows : {Db : Type 0} (head : Head) (found : Option Db) (refusal : PairRefusal) → with_rows (Ok head) found ≡ Err refusal → (refusal ≡ BadCheckpoint) × (found ≡ None)
no_rows head None refusal is = (cc, refl)
no_rows head (Some db) refusal is = cc

-- an image is refused where the definition of the refusal holds
module _ {Db C : Type 0} (format : StoreFormat Db C) (latest : ℕ) (image : List ℕ) (each : AreBytes image) where
  module _ (geometry : Geometry) (store : IsStore geometry image) where
    bad_head : (half : Half) (refusal : PairRefusal) → HasBadHead latest geometry half image refusal → head_of latest geometry half image ≡ Err refusal
    bad_head half refusal bad =
        open_head latest geometry image half bad.gate
        ∙ ap (head_behind true) (refused_head latest (area_of geometry half image) refusal bad.head)

    bad_second : (refusal : PairRefusal) (b : Bool) → is_open_gate (gate_of geometry First image) ≡ b → IsClosedOrKnown latest geometry First image
        → HasBadHead latest geometry Second image refusal → choice_of (head_of latest geometry First image) (head_of latest geometry Second image) ≡ Err refusal
    bad_second refusal false closed fine bad =
        λ i. choice_of (closed_head latest geometry image First (false_open (gate_of geometry First image) closed) i) (bad_head Second refusal bad i)
    bad_second refusal true opened fine bad =
        let gate = true_open (gate_of geometry First image) opened in
        let first = fine gate in
        λ i. choice_of (own_head latest geometry image First first.head gate first.is first.known i) (bad_head Second refusal bad i)

    bad_heads : (refusal : PairRefusal) → HasBadHeads latest geometry image refusal → choice_of (head_of latest geometry First image) (head_of latest geometry Second image) ≡ Err refusal
    bad_heads refusal (inl bad) = ap (λ (first : Result (Option Head) PairRefusal). choice_of first (head_of latest geometry Second image)) (bad_head First refusal bad)
    bad_heads refusal (inr bad) = bad_second refusal (is_open_gate (gate_of geometry First image)) refl bad.0 bad.1

    one_epoch : HasOneEpoch latest geometry image → choice_of (head_of latest geometry First image) (head_of latest geometry Second image) ≡ Err SameEpoch
    one_epoch has =
        (λ i. choice_of (own_head latest geometry image First has.first.head (has.gates First) has.first.is has.first.known i)
        (own_head latest geometry image Second has.second.head (has.gates Second) has.second.is has.second.known i))
        ∙ ap (λ (b : Bool). by_epochs b (ltb has.first.head.epoch has.second.head.epoch)) (eq-eqb _ _ has.same)

    none_found : (half : Half) (head : Head) → IsHead (area_of geometry half image) head → head.version ≤ latest
        → ((checkpoint : Checkpoint Db) → IsCheckpoint format.rows (area_of geometry half image) checkpoint → ⊥)
        → (found : Option Db) → db_in format.rows (area_of geometry half image) ≡ found → checkpoint_in format.rows latest (area_of geometry half image) ≡ Err BadCheckpoint
    none_found half head is known none None found_is =
        λ i. with_rows (head_read (area_of geometry half image) head is latest known i) (found_is i)
    none_found half head is known none (Some db) found_is =
        let read : checkpoint_in format.rows latest (area_of geometry half image) ≡ Ok (record { head = head; db = db }) =
        λ i. with_rows (head_read (area_of geometry half image) head is latest known i) (found_is i) in
        absurd (none (record { head = head; db = db })
        (checkpoint_from format.rows latest (area_of geometry half image) (record { head = head; db = db }) (area_bytes geometry half image each) (store_area geometry image store half) read).0)

    store_by : opening_of format latest image ≡ by_choice format latest geometry image (choice_of (head_of latest geometry First image) (head_of latest geometry Second image))
    store_by = ap (by_geometry format latest image) (store_read image geometry store)

    -- after the chosen half's sealed journal
    sealed_read : (has : HasSealedJournal format latest geometry image)
        → opening_of format latest image ≡ behind_journal true (is_open_gate (gate_of geometry (other has.half) image))
        (record { geometry = geometry; chosen = has.half; checkpoint = has.checkpoint; journal = has.front; tail = None })
        (journal_from format has.checkpoint geometry (other has.half) image has.front.place)
    sealed_read has =
        chosen_read format latest image geometry has.half has.checkpoint has.chosen
        ∙ ap (λ (r : Result (Reading C) JournalRefusal). by_journal geometry has.half has.checkpoint (is_open_gate (gate_of geometry (other has.half) image)) r
        (journal_from format has.checkpoint geometry (other has.half) image))
        (journal_read format.commands (limits_in has.checkpoint) (journal_of geometry has.half image) has.checkpoint.head.place has.front (store_journal geometry image store has.half) has.journal)
        ∙ ap (λ (b : Bool). behind_journal b (is_open_gate (gate_of geometry (other has.half) image))
        (record { geometry = geometry; chosen = has.half; checkpoint = has.checkpoint; journal = has.front; tail = None })
        (journal_from format has.checkpoint geometry (other has.half) image has.front.place)) has.sealed

    tail_read : (has : HasSealedJournal format latest geometry image) → (IsOpenGate (gate_of geometry (other has.half) image) → ⊥)
        → opening_of format latest image ≡ read_tail (record { geometry = geometry; chosen = has.half; checkpoint = has.checkpoint; journal = has.front; tail = None })
        (journal_from format has.checkpoint geometry (other has.half) image has.front.place)
    tail_read has closed =
        sealed_read has
        ∙ ap (λ (b : Bool). behind_journal true b (record { geometry = geometry; chosen = has.half; checkpoint = has.checkpoint; journal = has.front; tail = None })
        (journal_from format has.checkpoint geometry (other has.half) image has.front.place)) (open_false (gate_of geometry (other has.half) image) closed)

    store_refused : (refusal : OpenRefusal) → IsStoreRefusal refusal format latest geometry image → opening_of format latest image ≡ Err refusal
    store_refused NotAStore never = absurd never
    store_refused (BadPair NoHalf) none =
        store_by ∙ ap (by_choice format latest geometry image) (λ i. choice_of (closed_head latest geometry image First (none First) i) (closed_head latest geometry image Second (none Second) i))
    store_refused (BadPair SameEpoch) has = store_by ∙ ap (by_choice format latest geometry image) (one_epoch has)
    store_refused (BadPair BadCheckpoint) (inl bad) = store_by ∙ ap (by_choice format latest geometry image) (bad_heads BadCheckpoint bad)
    store_refused (BadPair BadCheckpoint) (inr has) =
        store_by
        ∙ ap (by_choice format latest geometry image) (half_chosen latest geometry image has.half has.head.head has.gate has.head.is has.head.known has.older)
        ∙ ap (by_checkpoint format geometry has.half image)
        (none_found has.half has.head.head has.head.is has.head.known has.none (db_in format.rows (area_of geometry has.half image)) refl)
    store_refused (BadPair (NewerFormat version)) bad = store_by ∙ ap (by_choice format latest geometry image) (bad_heads (NewerFormat version) bad)
    store_refused (BadPair SealedNewer) (inl has) =
        sealed_read has.front
        ∙ ap (λ (b : Bool). behind_journal true b (record { geometry = geometry; chosen = has.front.half; checkpoint = has.front.checkpoint; journal = has.front.front; tail = None })
        (journal_from format has.front.checkpoint geometry (other has.front.half) image has.front.front.place)) (open_true (gate_of geometry (other has.front.half) image) has.gate)
    store_refused (BadPair SealedNewer) (inr has) =
        tail_read has.front has.closed
        ∙ ap (read_tail (record { geometry = geometry; chosen = has.front.half; checkpoint = has.front.checkpoint; journal = has.front.front; tail = None }))
        (journal_read format.commands (limits_in has.front.checkpoint) (journal_of geometry (other has.front.half) image) has.front.front.place has.behind
        (store_journal geometry image store (other has.front.half)) has.journal)
        ∙ ap (λ (b : Bool). with_tail (record { geometry = geometry; chosen = has.front.half; checkpoint = has.front.checkpoint; journal = has.front.front; tail = None }) b has.behind) has.sealed
    store_refused (BadJournal refusal) (inl has) =
        chosen_read format latest image geometry has.half has.checkpoint has.chosen
        ∙ ap (λ (r : Result (Reading C) JournalRefusal). by_journal geometry has.half has.checkpoint (is_open_gate (gate_of geometry (other has.half) image)) r
        (journal_from format has.checkpoint geometry (other has.half) image))
        (journal_refused format.commands (limits_in has.checkpoint) (journal_of geometry has.half image) (journal_bytes geometry has.half image each) has.checkpoint.head.place refusal
        (store_journal geometry image store has.half) has.journal)
    store_refused (BadJournal refusal) (inr has) =
        tail_read has.front has.closed
        ∙ ap (read_tail (record { geometry = geometry; chosen = has.front.half; checkpoint = has.front.checkpoint; journal = has.front.front; tail = None }))
        (journal_refused format.commands (limits_in has.front.checkpoint) (journal_of geometry (other has.front.half) image) (journal_bytes geometry (other has.front.half) image each)
        has.front.front.place refusal (store_journal geometry image store (other has.front.half)) has.journal)

  no_store : ((geometry : Geometry) → IsStore geometry image → ⊥) → (found : Option Geometry) → geometry_in image ≡ found → by_geometry format latest image found ≡ Err NotAStore
  no_store none None found_is = refl
  no_store none (Some geometry) found_is = absurd (none geometry (store_from image geometry each found_is))

  pub refused_where : (refusal : OpenRefusal) → IsOpenRefusal refusal format latest image → opening_of format latest image ≡ Err refusal
  refused_where NotAStore none = no_store none (geometry_in image) refl
  refused_where (BadPair refusal) is = store_refused is.geometry is.store (BadPair refusal) is.wrong
  refused_where (BadJournal refusal) is = store_refused is.geometry is.store (BadJournal refusal) is.wrong

-- an image is refused nowhere else
module _ {Db C : Type 0} (format : StoreFormat Db C) (latest : ℕ) (image : List ℕ) (each : AreBytes image) where
  module _ (geometry : Geometry) (store : IsStore geometry image) where
    -- the meaning of a result
    abbrev Means : Result (Opening Db C) OpenRefusal → Type 0
    Means (Ok opening) = Unit {0}
    Means (Err refusal) = IsStoreRefusal refusal format latest geometry image

    last_means : (has : HasSealedJournal format latest geometry image) → (IsOpenGate (gate_of geometry (other has.half) image) → ⊥) → (behind : Reading C)
        → IsJournal format.commands (limits_in has.checkpoint) (journal_of geometry (other has.half) image) has.front.place behind → (alone : Opening Db C) (b : Bool) → behind.sealed ≡ b
        → Means (with_tail alone b behind)
    last_means has closed behind is alone true sealed = inr (record { front = has; closed = closed; behind = behind; journal = is; sealed = sealed })
    last_means has closed behind is alone false unsealed = tt

    tail_means : (has : HasSealedJournal format latest geometry image) (alone : Opening Db C) (b : Bool) → is_open_gate (gate_of geometry (other has.half) image) ≡ b
        → (read : Result (Reading C) JournalRefusal) → journal_from format has.checkpoint geometry (other has.half) image has.front.place ≡ read → Means (behind_journal true b alone read)
    tail_means has alone true opened read read_is = inl (record { front = has; gate = true_open (gate_of geometry (other has.half) image) opened })
    tail_means has alone false closed (Err refusal) read_is = inr (record {
      front = has;
      closed = false_open (gate_of geometry (other has.half) image) closed;
      journal = refused_journal format.commands (limits_in has.checkpoint) (journal_of geometry (other has.half) image) (journal_bytes geometry (other has.half) image each) has.front.place refusal
          (store_journal geometry image store (other has.half)) read_is;
    })
    tail_means has alone false closed (Ok behind) read_is =
        last_means has (false_open (gate_of geometry (other has.half) image) closed) behind
        (read_journal format.commands (limits_in has.checkpoint) (journal_of geometry (other has.half) image) (journal_bytes geometry (other has.half) image each) has.front.place behind
        (store_journal geometry image store (other has.half)) read_is) alone behind.sealed refl

    seal_means : (half : Half) (checkpoint : Checkpoint Db) (front : Reading C) → IsChosen format latest image geometry half checkpoint
        → IsJournal format.commands (limits_in checkpoint) (journal_of geometry half image) checkpoint.head.place front → (b : Bool) → front.sealed ≡ b
        → Means (behind_journal b (is_open_gate (gate_of geometry (other half) image))
        (record { geometry = geometry; chosen = half; checkpoint = checkpoint; journal = front; tail = None }) (journal_from format checkpoint geometry (other half) image front.place))
    seal_means half checkpoint front chosen journal false sealed = tt
    seal_means half checkpoint front chosen journal true sealed =
        tail_means (record { half = half; checkpoint = checkpoint; front = front; chosen = chosen; journal = journal; sealed = sealed })
        (record { geometry = geometry; chosen = half; checkpoint = checkpoint; journal = front; tail = None }) (is_open_gate (gate_of geometry (other half) image)) refl
        (journal_from format checkpoint geometry (other half) image front.place) refl

    journal_means : (half : Half) (checkpoint : Checkpoint Db) → IsChosen format latest image geometry half checkpoint → (read : Result (Reading C) JournalRefusal)
        → journal_from format checkpoint geometry half image checkpoint.head.place ≡ read
        → Means (by_journal geometry half checkpoint (is_open_gate (gate_of geometry (other half) image)) read (journal_from format checkpoint geometry (other half) image))
    journal_means half checkpoint chosen (Err refusal) read_is = inl (record {
      half = half;
      checkpoint = checkpoint;
      chosen = chosen;
      journal = refused_journal format.commands (limits_in checkpoint) (journal_of geometry half image) (journal_bytes geometry half image each) checkpoint.head.place refusal
          (store_journal geometry image store half) read_is;
    })
    journal_means half checkpoint chosen (Ok front) read_is =
        seal_means half checkpoint front chosen
        (read_journal format.commands (limits_in checkpoint) (journal_of geometry half image) (journal_bytes geometry half image each) checkpoint.head.place front
        (store_journal geometry image store half) read_is) front.sealed refl

    -- the chosen half, by its head
    record HalfSo (half : Half) (head : Head) : Type 0 where
      gate : IsOpenGate (gate_of geometry half image)
      is : IsHead (area_of geometry half image) head
      known : head.version ≤ latest
      older : IsOpenGate (gate_of geometry (other half) image) → HasOlderHead latest (area_of geometry (other half) image) head.epoch

    checkpoint_means : (half : Half) (head : Head) → HalfSo half head → (read : Result (Checkpoint Db) PairRefusal) → checkpoint_in format.rows latest (area_of geometry half image) ≡ read
        → Means (by_checkpoint format geometry half image read)
    checkpoint_means half head so (Ok checkpoint) read_is =
        journal_means half checkpoint chosen (journal_from format checkpoint geometry half image checkpoint.head.place) refl
      where
        begins : IsCheckpoint format.rows (area_of geometry half image) checkpoint × (checkpoint.head.version ≤ latest)
        begins = checkpoint_from format.rows latest (area_of geometry half image) checkpoint (area_bytes geometry half image each) (store_area geometry image store half) read_is

        same : head ≡ checkpoint.head
        same =
            sym (numbers_are (area_of geometry half image) head so.is)
            ∙ numbers_are (area_of geometry half image) checkpoint.head (begins_with_its_head format.rows (area_of geometry half image) checkpoint begins.0)

        chosen : IsChosen format latest image geometry half checkpoint
        chosen = record {
          store = store;
          gate = so.gate;
          begins = begins.0;
          known = begins.1;
          older = subst (λ (h : Head). IsOpenGate (gate_of geometry (other half) image) → HasOlderHead latest (area_of geometry (other half) image) h.epoch) same so.older;
        }
    checkpoint_means half head so (Err refusal) read_is =
        subst (λ (r : PairRefusal). IsStoreRefusal (BadPair r) format latest geometry image) (sym found.0) (inr (record {
          half = half;
          gate = so.gate;
          head = record { head = head; is = so.is; known = so.known };
          older = so.older;
          none = λ checkpoint is.
              let some = db_read format.rows (area_of geometry half image) checkpoint is in
              let none = found.1 in
              cc;
        }))
      where
        found : (refusal ≡ BadCheckpoint) × (db_in format.rows (area_of geometry half image) ≡ None)
        found = no_rows head (db_in format.rows (area_of geometry half image)) refusal
            (ap (λ (h : Result Head PairRefusal). with_rows h (db_in format.rows (area_of geometry half image))) (sym (head_read (area_of geometry half image) head so.is latest so.known)) ∙ read_is)

    -- heads that are refused
    bad_means : (refusal : PairRefusal) → HasBadHeads latest geometry image refusal → IsStoreRefusal (BadPair refusal) format latest geometry image
    bad_means NoHalf (inl bad) = absurd bad.head
    bad_means NoHalf (inr bad) = absurd bad.1.head
    bad_means SameEpoch (inl bad) = absurd bad.head
    bad_means SameEpoch (inr bad) = absurd bad.1.head
    bad_means BadCheckpoint bad = inl bad
    bad_means SealedNewer (inl bad) = absurd bad.head
    bad_means SealedNewer (inr bad) = absurd bad.1.head
    bad_means (NewerFormat version) bad = bad

    bad_from : (half : Half) (refusal : PairRefusal) → head_of latest geometry half image ≡ Err refusal → HasBadHead latest geometry half image refusal
    bad_from half refusal is =
        let parts = head_bad (is_open_gate (gate_of geometry half image)) (head_in latest (area_of geometry half image)) refusal is in
        record {
          gate = true_open (gate_of geometry half image) parts.0;
          head = refused_from_magic latest (area_of geometry half image) (eqb (four_at 0 (area_of geometry half image)) checkpoint_magic) refl refusal parts.1;
        }

    gate_from : (half : Half) (head : Head) → head_of latest geometry half image ≡ Ok (Some head) → IsOpenGate (gate_of geometry half image)
    gate_from half head is = true_open (gate_of geometry half image) (head_open (is_open_gate (gate_of geometry half image)) (head_in latest (area_of geometry half image)) head is).0

    head_known : (half : Half) (head : Head) → head_of latest geometry half image ≡ Ok (Some head) → IsHead (area_of geometry half image) head × (head.version ≤ latest)
    head_known half head is =
        head_from latest (area_of geometry half image) head (area_bytes geometry half image each) (store_area geometry image store half)
        (head_open (is_open_gate (gate_of geometry half image)) (head_in latest (area_of geometry half image)) head is).1

    gate_closed : (half : Half) → head_of latest geometry half image ≡ Ok None → IsOpenGate (gate_of geometry half image) → ⊥
    gate_closed half is = false_open (gate_of geometry half image) (head_closed (is_open_gate (gate_of geometry half image)) (head_in latest (area_of geometry half image)) is)

    fine_from : (half : Half) (head : Option Head) → head_of latest geometry half image ≡ Ok head → IsClosedOrKnown latest geometry half image
    fine_from half None is = λ opened. absurd (gate_closed half is opened)
    fine_from half (Some head) is = λ opened. record { head = head; is = (head_known half head is).0; known = (head_known half head is).1 }

    half_so : (half : Half) (head : Head) → head_of latest geometry half image ≡ Ok (Some head)
        → (IsOpenGate (gate_of geometry (other half) image) → HasOlderHead latest (area_of geometry (other half) image) head.epoch) → HalfSo half head
    half_so half head is older = record { gate = gate_from half head is; is = (head_known half head is).0; known = (head_known half head is).1; older = older }

    older_from : (half : Half) (head : Head) (epoch : ℕ) → head_of latest geometry half image ≡ Ok (Some head) → head.epoch < epoch → HasOlderHead latest (area_of geometry half image) epoch
    older_from half head epoch is older = record { head = head; is = (head_known half head is).0; known = (head_known half head is).1; older = older }

    half_means : (half : Half) (head : Head) → HalfSo half head → Means (by_choice format latest geometry image (Ok half))
    half_means half head so = checkpoint_means half head so (checkpoint_in format.rows latest (area_of geometry half image)) refl

    epochs_mean : (one two : Head) → head_of latest geometry First image ≡ Ok (Some one) → head_of latest geometry Second image ≡ Ok (Some two) → (same older : Bool)
        → eqb one.epoch two.epoch ≡ same → ltb one.epoch two.epoch ≡ older → Means (by_choice format latest geometry image (by_epochs same older))
    epochs_mean one two one_is two_is true older same_is older_is = record {
      gates = gates;
      first = record { head = one; is = (head_known First one one_is).0; known = (head_known First one one_is).1 };
      second = record { head = two; is = (head_known Second two two_is).0; known = (head_known Second two two_is).1 };
      same = eqb-true _ _ same_is;
    }
      where
        gates : (half : Half) → IsOpenGate (gate_of geometry half image)
        gates First = gate_from First one one_is
        gates Second = gate_from Second two two_is
    epochs_mean one two one_is two_is false true same_is older_is =
        half_means Second two (half_so Second two two_is (λ opened. older_from First one two.epoch one_is (ltb-true _ _ older_is)))
    epochs_mean one two one_is two_is false false same_is older_is =
        half_means First one (half_so First one one_is
        (λ opened. older_from Second two one.epoch two_is (omega (arith, ltb-false _ _ older_is, λ (same : one.epoch ≡ two.epoch). eqb-false _ _ same_is same))))

    choice_means : (one two : Result (Option Head) PairRefusal) → head_of latest geometry First image ≡ one → head_of latest geometry Second image ≡ two
        → Means (by_choice format latest geometry image (choice_of one two))
    choice_means (Err refusal) two one_is two_is = bad_means refusal (inl (bad_from First refusal one_is))
    choice_means (Ok one) (Err refusal) one_is two_is = bad_means refusal (inr (fine_from First one one_is, bad_from Second refusal two_is))
    choice_means (Ok None) (Ok None) one_is two_is = closed
      where
        closed : (half : Half) → IsOpenGate (gate_of geometry half image) → ⊥
        closed First = gate_closed First one_is
        closed Second = gate_closed Second two_is
    choice_means (Ok (Some one)) (Ok None) one_is two_is = half_means First one (half_so First one one_is (λ opened. absurd (gate_closed Second two_is opened)))
    choice_means (Ok None) (Ok (Some two)) one_is two_is = half_means Second two (half_so Second two two_is (λ opened. absurd (gate_closed First one_is opened)))
    choice_means (Ok (Some one)) (Ok (Some two)) one_is two_is = epochs_mean one two one_is two_is (eqb one.epoch two.epoch) (ltb one.epoch two.epoch) refl refl

    of_store : (refusal : OpenRefusal) → IsStoreRefusal refusal format latest geometry image → IsOpenRefusal refusal format latest image
    of_store NotAStore never = absurd never
    of_store (BadPair refusal) wrong = record { geometry = geometry; store = store; wrong = wrong }
    of_store (BadJournal refusal) wrong = record { geometry = geometry; store = store; wrong = wrong }

  image_means : (found : Option Geometry) → geometry_in image ≡ found → (refusal : OpenRefusal) → by_geometry format latest image found ≡ Err refusal → IsOpenRefusal refusal format latest image
  image_means None found_is NotAStore is = λ geometry store. let some = store_read image geometry store in cc
  image_means None found_is (BadPair refusal) is = cc
  image_means None found_is (BadJournal refusal) is = cc
  image_means (Some geometry) found_is refusal is =
      let store = store_from image geometry each found_is in
      of_store geometry store refusal
      (subst (Means geometry store) is (choice_means geometry store (head_of latest geometry First image) (head_of latest geometry Second image) refl refl))

  pub refused_from : (refusal : OpenRefusal) → opening_of format latest image ≡ Err refusal → IsOpenRefusal refusal format latest image
  refused_from refusal is = image_means (geometry_in image) refl refusal is

pub is_open_refused_so : (Db C : Type 0) → IsOpenRefusedSo Db C
is_open_refused_so Db C format latest image refusal each = (refused_from format latest image each refusal, refused_where format latest image each refusal)
