-- What a store on an honest device has is within the store's bounds.
use Rattle.std.proofs.Common.{◌≡◌, ℕ, ◌+◌, ◌*◌, ◌≤◌, Bool, true, false, List, Option, Some, None, length, sym, ◌∙◌, ap, subst, arith}
use Rattle.row_map.specs.Database.{RowView}
use Rattle.path_db.specs.declared.command.Command.{Command}
use Rattle.store_layout.specs.declared.half.Half.{Half}
use Rattle.store_layout.specs.Journal.{Reading, IsJournal}
use Rattle.store_layout.specs.Checkpoint.{Head}
use Rattle.store_layout.specs.Layout.{Geometry, IsGeometry, image_sectors, other, journal_of}
use Rattle.store_layout.specs.Opening.{Opening, limits_in, IsTail, last_journal, IsOpening}
use Rattle.store_layout.proofs.Exports.{stays_within_bounds}
use Rattle.gate_journal.specs.Commands.{command_format}
use Rattle.store_layout.specs.Limits.{latest}
use Rattle.store_open.specs.Open.{IsOpened}
use Rattle.store_open.specs.PathStores.{store_format}
use Rattle.store_open.specs.Store.{StoreView}
use Rattle.store_open.specs.StoreShape.{IsSealWithin}
use Rattle.store_open.proofs.Journals.{journal_sectors, journal_size}

module _ (reads : List ℕ) (opening : Opening (List RowView) Command) (is : IsOpening store_format latest reads opening) (allowed : IsGeometry opening.geometry)
    (room : 512 * image_sectors opening.geometry ≤ length reads) where
  journal_within : (half : Half) (place : ℕ) (reading : Reading Command)
      → IsJournal command_format (limits_in opening.checkpoint) (journal_of opening.geometry half reads) place reading → reading.tail + 2 ≤ opening.geometry.journal
  journal_within half place reading journal =
      let size = journal_size opening.geometry half reads allowed room in
      let within = stays_within_bounds Command command_format (limits_in opening.checkpoint) (journal_of opening.geometry half reads) place reading (journal_sectors opening.geometry half reads allowed room) journal in
      omega (arith, within.seal (omega (arith, size, allowed.least_journal)), size)

  last_within : (tail : Option (Reading Command)) → IsTail command_format (limits_in opening.checkpoint) opening.geometry (other opening.chosen) reads opening.journal tail
      → (last_journal opening.journal tail).tail + 2 ≤ opening.geometry.journal
  last_within None none = journal_within opening.chosen opening.checkpoint.head.place opening.journal is.journal
  last_within (Some behind) on = journal_within (other opening.chosen) opening.journal.place behind on.1.journal

pub opened_within : (reads : List ℕ) (view : StoreView) → IsGeometry view.geometry → 512 * image_sectors view.geometry ≤ length reads → IsOpened reads view
    → IsSealWithin view.geometry.journal view.gate view.head.version
opened_within reads view allowed room opened =
    let opening = opened.rest.opening in
    let tells = opened.rest.tells in
    let there = subst (λ (g : Geometry). IsGeometry g) (sym tells.geometry) allowed in
    let large = subst (λ (g : Geometry). 512 * image_sectors g ≤ length reads) (sym tells.geometry) room in
    record {
      seal = omega (arith, last_within reads opening opened.same there large opening.tail opened.same.tail, tells.gate, ap (λ (g : Geometry). g.journal) tells.geometry);
      known = omega (arith, opened.same.half.known, ap (λ (h : Head). h.version) tells.head);
    }

-- so the test of the bounds never fails on an honest device
pub never_outside : (reads : List ℕ) (view : StoreView) (inside : Bool) → IsGeometry view.geometry → 512 * image_sectors view.geometry ≤ length reads → IsOpened reads view
    → (IsSealWithin view.geometry.journal view.gate view.head.version → inside ≡ true) → inside ≡ false → ⊥
never_outside reads view inside allowed room opened is_inside outside =
    let clash : true ≡ false = sym (is_inside (opened_within reads view allowed room opened)) ∙ outside in
    absurd (cc)
