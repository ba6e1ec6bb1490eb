-- At rest the other half takes over: the image after each write, torn or whole, opens to the same
-- value.
use Rattle.std.proofs.Common.{◌≡◌, inl, inr, ℕ, ◌+◌, ◌*◌, ◌/◌, ◌<◌, ◌≤◌, List, length, get_or, refl, sym, ◌∙◌, ap, subst, arith, None, replicate}
use Rattle.std.proofs.lemmas.Bool.{cases_eq}
use Rattle.std.proofs.lemmas.List.{length-replicate}
use Rattle.byte_lists.specs.Content.{overwrite}
use Rattle.byte_lists.specs.Sectors.{sector_at, IsOpenGate, open_gate}
use Rattle.store_layout.specs.declared.half.Half.{Half}
use Rattle.store_layout.specs.Layout.{Geometry, other, area_at, gate_at, area_of, gate_of, journal_of, Area, Journal, InHalf, image_sectors}
use Rattle.store_layout.specs.StoreFormat.{StoreFormat}
use Rattle.store_layout.specs.Checkpoint.{Checkpoint, CanBeCheckpoint, IsCheckpoint, checkpoint_encoding}
use Rattle.store_layout.specs.Opening.{Opening, IsOpening, opening_value, OpensTo}
use Rattle.store_layout.specs.TakeOver.{FoldsJournal, taken_over, empty_journal}
use Rattle.store_layout.specs.Switch.{IsLaid}
use Rattle.store_layout.proofs.Exports.{half_inside, area_long, writes_leave_others, part_written, written_there, closed_area_may_change, switches_by_the_gate_at_rest, gate_beside, other_twice, halves_differ}
use Rattle.store_open.specs.Closing.{IsClosing, HasClosedGates}
use Rattle.store_open.specs.TakingOver.{laid, switched, taken, IsTakingOver}
use Rattle.store_open.proofs.Gates.{gates_inside, first_gate, zero_there, closing_both}
use Rattle.store_open.proofs.Kept.{kept_by_closing}

-- A store at rest: its image has this opening, no journal is sealed, and the half that is not used
-- is closed; and a checkpoint for that half.
pub record MayTakeOver {Db C : Type 0} (format : StoreFormat Db C) (latest : ℕ) (image : List ℕ) (opening : Opening Db C) (next : Checkpoint Db) (bytes : List ℕ) : Type 0 where
  pub is : IsOpening format latest image opening
  pub none : opening.tail ≡ None
  pub unused : HasClosedGates opening.geometry (other opening.chosen) image
  pub folds : FoldsJournal format opening next
  pub can : CanBeCheckpoint format.rows next
  pub known : next.head.version ≤ latest
  pub newer : opening.checkpoint.head.epoch < next.head.epoch
  pub spelled : bytes ≡ checkpoint_encoding format.rows next
  pub fits : length bytes ≤ 512 * opening.geometry.checkpoint

module _ {Db C : Type 0} (format : StoreFormat Db C) (latest : ℕ) (image : List ℕ) (opening : Opening Db C) (next : Checkpoint Db) (bytes : List ℕ) (may : MayTakeOver format latest image opening next bytes) where
  abbrev geometry : Geometry
  geometry = opening.geometry

  abbrev new : Half
  new = other opening.chosen

  abbrev area : ℕ
  area = 512 * area_at opening.geometry (other opening.chosen)

  abbrev fresh : Opening Db C
  fresh = taken_over opening next (empty_journal next.head.place)

  abbrev one : List ℕ
  one = laid opening.geometry opening.chosen bytes image

  abbrev two : List ℕ
  two = switched opening.geometry opening.chosen bytes image

  room : image_sectors geometry ≤ length image / 512
  room = may.is.half.store.room

  area_fits : area + length bytes ≤ length image
  area_fits = omega (arith, half_inside geometry new, room, may.fits)

  -- whatever bytes land in the other half's area, the opening is unchanged
  laying : (torn : List ℕ) → length torn ≡ length bytes → IsOpening format latest (overwrite area torn image) opening
  laying torn size =
      let none_more : area + 0 ≡ area = omega arith in
      subst (λ (at : ℕ). IsOpening format latest (overwrite at torn image) opening) none_more
      (closed_area_may_change Db C format latest image opening 0 torn may.is may.unused.gate (omega (arith, may.fits, size)))

  one_opens : IsOpening format latest one opening
  one_opens = laying bytes refl

  -- the checkpoint is in the area then
  one_begins : IsCheckpoint format.rows (area_of geometry new one) next
  one_begins =
      let none_more : area + 0 ≡ area = omega arith in
      let there : area_of geometry new one ≡ overwrite 0 bytes (area_of geometry new image) =
      ap (λ (at : ℕ). area_of geometry new (overwrite at bytes image)) (sym none_more)
      ∙ part_written area (512 * geometry.checkpoint) 0 bytes image (omega (arith, may.fits)) (omega (arith, half_inside geometry new, room)) in
      subst (λ (list : List ℕ). IsCheckpoint format.rows list next) (sym there)
      (subst (λ (list : List ℕ). IsCheckpoint format.rows (overwrite 0 list (area_of geometry new image)) next) (sym may.spelled)
      (written_there format.rows (area_of geometry new image) next may.can
      (omega (arith, may.fits, ap length may.spelled, area_long geometry image room new))))

  one_laid : IsLaid format latest one opening next
  one_laid = record { folds = may.folds; begins = one_begins; known = may.known; newer = may.newer }

  one_journal : journal_of geometry new one ≡ journal_of geometry new image
  one_journal = writes_leave_others geometry (InHalf new Area) (InHalf new Journal) image area bytes (λ same. cc) room (omega arith) (omega (arith, may.fits))

  one_closed : IsOpenGate (sector_at 0 (journal_of geometry new one)) → ⊥
  one_closed opened = may.unused.journal (subst (λ (list : List ℕ). IsOpenGate (sector_at 0 list)) one_journal opened)

  -- both openings have the same value
  abbrev Switches : List ℕ → Type 0
  Switches gate =
      (IsOpenGate gate → IsOpening format latest (overwrite (512 * gate_at opening.geometry (other opening.chosen)) gate one) fresh)
      × (¬ IsOpenGate gate → IsOpening format latest (overwrite (512 * gate_at opening.geometry (other opening.chosen)) gate one) opening)
      × (opening_value format fresh ≡ opening_value format opening)

  switching : (gate : List ℕ) → length gate ≡ 512 → Switches gate
  switching gate long = switches_by_the_gate_at_rest Db C format latest one opening next gate one_opens may.none one_laid one_closed long

  open_long : length open_gate ≡ 512
  open_long = refl

  pub same_value : opening_value format fresh ≡ opening_value format opening
  same_value = (switching open_gate open_long).2

  two_opens : IsOpening format latest two fresh
  two_opens = (switching open_gate open_long).0 refl

  -- the old half is still open, and its gates may be closed
  two_old_open : IsOpenGate (gate_of geometry opening.chosen two)
  two_old_open =
      subst IsOpenGate (sym (gate_beside geometry one one_opens.half.store.room new open_gate open_long opening.chosen (halves_differ opening.chosen))) one_opens.half.gate

  two_long : 512 * (gate_at geometry opening.chosen + 2) ≤ length two
  two_long = omega (arith, gates_inside geometry opening.chosen (omega (arith, may.is.half.store.limits)), two_opens.half.store.room)

  closing : (torn : List ℕ) → length torn ≡ 1024 → IsOpening format latest (overwrite (512 * gate_at geometry opening.chosen) torn two) fresh
  closing torn size = kept_by_closing Db C format latest two (overwrite (512 * gate_at geometry opening.chosen) torn two) fresh refl
      (subst (λ (half : Half). IsClosing geometry half two (overwrite (512 * gate_at geometry opening.chosen) torn two)) (sym (other_twice opening.chosen))
      (closing_both geometry opening.chosen two two_long two_old_open torn size))
      two_opens

  -- at the end the other half alone is open
  abbrev three : List ℕ
  three = taken opening.geometry opening.chosen bytes image

  pub taken_opens : IsOpening format latest three fresh
  taken_opens = closing (replicate 1024 0) (length-replicate {A = ℕ} 1024 0)

  pub taken_closed : HasClosedGates geometry (other new) three
  taken_closed = subst (λ (half : Half). HasClosedGates geometry half three) (sym (other_twice opening.chosen)) (record {
    gate = zero_there (512 * gate_at geometry opening.chosen) 1024 (gate_at geometry opening.chosen) two (omega arith) (omega arith) (omega (arith, two_long));
    journal = λ opened. zero_there (512 * gate_at geometry opening.chosen) 1024 (gate_at geometry opening.chosen + 1) two (omega arith) (omega arith) (omega (arith, two_long))
        (subst IsOpenGate (first_gate geometry opening.chosen three (omega (arith, may.is.half.store.limits))) opened);
  })

  -- an image opens to the same value, by a half of this version or a later one
  pub record OpensAfter (content : List ℕ) : Type 0 where
    pub opens : OpensTo format latest content (opening_value format opening)
    pub since : opening.checkpoint.head.version ≤ opens.opening.checkpoint.head.version

  by_old : (content : List ℕ) → IsOpening format latest content opening → OpensAfter content
  by_old content is = record { opens = record { opening = opening; is = is; stands_for = refl }; since = omega arith }

  by_new : (content : List ℕ) → IsOpening format latest content fresh → OpensAfter content
  by_new content is = record { opens = record { opening = fresh; is = is; stands_for = same_value }; since = may.folds.version }

  -- each image that a stop may leave in between opens to the same value
  pub opens_meanwhile : (content : List ℕ) → IsTakingOver geometry opening.chosen bytes image content → OpensAfter content
  opens_meanwhile content (inl tear) = subst OpensAfter (sym tear.is) (by_old (overwrite area tear.torn image) (laying tear.torn tear.size))
  opens_meanwhile content (inr (inl tear)) = subst OpensAfter (sym tear.is)
      (elim (cases_eq (get_or tear.torn 0 0) 0xA7) [
        | inl opened ↦ by_new (overwrite (512 * gate_at geometry new) tear.torn one) ((switching tear.torn tear.size).0 opened)
        | inr closed ↦ by_old (overwrite (512 * gate_at geometry new) tear.torn one) ((switching tear.torn tear.size).1 closed)
      ])
  opens_meanwhile content (inr (inr tear)) = subst OpensAfter (sym tear.is)
      (by_new (overwrite (512 * gate_at geometry opening.chosen) tear.torn two) (closing tear.torn tear.size))
