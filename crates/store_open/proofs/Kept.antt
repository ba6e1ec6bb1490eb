-- An opening without a tail is kept while the gates of the half that is not chosen are being
-- closed.
use Rattle.std.proofs.Common.{◌≡◌, ◌⊎◌, inl, inr, ℕ, ◌+◌, ◌*◌, ◌≤◌, List, get_or, None, sym, ◌∙◌, subst, arith}
use Rattle.std.proofs.lemmas.Bool.{cases_eq}
use Rattle.byte_lists.specs.Sectors.{IsOpenGate}
use Rattle.store_layout.specs.declared.half.Half.{Half}
use Rattle.store_layout.specs.declared.half.Half.TheVariants.{First, Second}
use Rattle.store_layout.specs.Layout.{Geometry, IsGeometry, other, area_at, gate_at, journal_at, area_of, gate_of}
use Rattle.store_layout.specs.Checkpoint.{IsCheckpoint}
use Rattle.store_layout.specs.StoreFormat.{StoreFormat}
use Rattle.store_layout.specs.Journal.{IsJournal}
use Rattle.store_layout.specs.Opening.{Opening, limits_in, HasOlderHead, IsTail, IsChosen, IsOpening}
use Rattle.store_open.specs.Closing.{IsClosing, IsKeptByClosing}

-- The bytes before both gates of the other half, or after them.
abbrev IsBesideGates : Geometry → Half → ℕ → ℕ → Type 0
IsBesideGates geometry half at n = (at + n ≤ 512 * gate_at geometry half) ⊎ (512 * (gate_at geometry half + 2) ≤ at)

areas_beside : (geometry : Geometry) → IsGeometry geometry → (half closing : Half) → IsBesideGates geometry closing (512 * area_at geometry half) (512 * geometry.checkpoint)
areas_beside geometry limits First First = inl (omega arith)
areas_beside geometry limits First Second = inl (omega arith)
areas_beside geometry limits Second First = inr (omega (arith, limits))
areas_beside geometry limits Second Second = inl (omega arith)

gate_beside : (geometry : Geometry) → IsGeometry geometry → (half : Half) → IsBesideGates geometry (other half) (512 * gate_at geometry half) 512
gate_beside geometry limits First = inl (omega (arith, limits))
gate_beside geometry limits Second = inr (omega (arith, limits))

journal_beside : (geometry : Geometry) → IsGeometry geometry → (half : Half) → IsBesideGates geometry (other half) (512 * journal_at geometry half) (512 * geometry.journal)
journal_beside geometry limits First = inl (omega (arith, limits))
journal_beside geometry limits Second = inr (omega (arith, limits))

title_beside : (geometry : Geometry) → (half : Half) → IsBesideGates geometry half 0 20
title_beside geometry First = inl (omega arith)
title_beside geometry Second = inl (omega arith)

module _ {Db C : Type 0} (format : StoreFormat Db C) (latest : ℕ) (old new : List ℕ) (opening : Opening Db C) (closing : IsClosing opening.geometry (other opening.chosen) old new) (is : IsOpening format latest old opening) where
  limits : IsGeometry opening.geometry
  limits = is.half.store.limits

  older : IsOpenGate (gate_of opening.geometry (other opening.chosen) new) → HasOlderHead latest (area_of opening.geometry (other opening.chosen) new) opening.checkpoint.head.epoch
  older opened = elim (cases_eq (get_or (gate_of opening.geometry (other opening.chosen) old) 0 0) 0xA7) [
    | inl before ↦ subst (λ (area : List ℕ). HasOlderHead latest area opening.checkpoint.head.epoch)
        (sym (closing.outside _ _ (areas_beside opening.geometry limits (other opening.chosen) (other opening.chosen)))) (is.half.older before)
    | inr closed ↦ absurd (closed (subst IsOpenGate (closing.gate closed) opened))
  ]

  chosen : IsChosen format latest new opening.geometry opening.chosen opening.checkpoint
  chosen = record {
    store = record {
      title = closing.outside 0 20 (title_beside opening.geometry (other opening.chosen)) ∙ is.half.store.title;
      limits = limits;
      room = omega (arith, closing.size, is.half.store.room);
    };
    gate = subst IsOpenGate (sym (closing.outside _ _ (gate_beside opening.geometry limits opening.chosen))) is.half.gate;
    begins = subst (λ (area : List ℕ). IsCheckpoint format.rows area opening.checkpoint)
        (sym (closing.outside _ _ (areas_beside opening.geometry limits opening.chosen (other opening.chosen)))) is.half.begins;
    known = is.half.known;
    older = older;
  }

  pub kept_opening : opening.tail ≡ None → IsOpening format latest new opening
  kept_opening none = record {
    half = chosen;
    journal = subst (λ (bytes : List ℕ). IsJournal format.commands (limits_in opening.checkpoint) bytes opening.checkpoint.head.place opening.journal)
        (sym (closing.outside _ _ (journal_beside opening.geometry limits opening.chosen))) is.journal;
    tail = subst (IsTail format.commands (limits_in opening.checkpoint) opening.geometry (other opening.chosen) new opening.journal) (sym none)
        (subst (IsTail format.commands (limits_in opening.checkpoint) opening.geometry (other opening.chosen) old opening.journal) none is.tail);
  }

pub kept_by_closing : (Db C : Type 0) → IsKeptByClosing Db C
kept_by_closing Db C format latest old new opening none closing is = kept_opening format latest old new opening closing is none
