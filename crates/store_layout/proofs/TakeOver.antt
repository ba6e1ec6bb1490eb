-- A half that takes over has the same value; and a new store is empty.
use Rattle.std.proofs.Common.{◌≡◌, ℕ, ◌+◌, List, [], Some, None, refl, sym, ◌∙◌, subst, arith}
use Rattle.byte_lists.specs.Sectors.{sector_at, IsOpenGate}
use Rattle.store_layout.specs.declared.half.Half.TheVariants.{First}
use Rattle.store_layout.specs.Limits.{Limits}
use Rattle.store_layout.specs.CommandFormat.{CommandFormat}
use Rattle.store_layout.specs.Journal.{Reading, IsJournal}
use Rattle.store_layout.specs.Layout.{other, journal_of}
use Rattle.store_layout.specs.StoreFormat.{StoreFormat, db_after}
use Rattle.store_layout.specs.Checkpoint.{Checkpoint, first_checkpoint}
use Rattle.store_layout.specs.Opening.{Opening, limits_in, IsTail, IsOpening, opening_value, tail_commands, last_journal}
use Rattle.store_layout.specs.TakeOver.{FoldsJournal, taken_over, TakesOverTheSame, empty_journal, TakesOverTheSameAtRest, OpensEmpty}
use Rattle.store_layout.proofs.Growth.{read_under_larger_limits}
use Rattle.store_layout.proofs.Staged.{later_allow_more}

-- a journal whose first gate is closed is empty
pub empty_read : {C : Type 0} (format : CommandFormat C) (limits : Limits) (bytes : List ℕ) (place : ℕ) → (IsOpenGate (sector_at 0 bytes) → ⊥) → IsJournal format limits bytes place (empty_journal place)
empty_read format limits bytes place closed =
    let here : place ≡ place + 0 = omega arith in
    record { groups = []; chain = refl; commands = refl; place = here; ends = closed }

-- with a tail, both openings have the same value
pub same_value : {Db C : Type 0} (format : StoreFormat Db C) (opening : Opening Db C) (next : Checkpoint Db) (behind : Reading C) → opening.tail ≡ Some behind → FoldsJournal format opening next
    → opening_value format (taken_over opening next behind) ≡ opening_value format opening
same_value format opening next behind tail_is folds =
    λ i. record { db = db_after format (folds.db i) (tail_commands (sym tail_is i)); place = (last_journal opening.journal (sym tail_is i)).place }

-- without a tail, both openings have the same value
pub same_value_at_rest : {Db C : Type 0} (format : StoreFormat Db C) (opening : Opening Db C) (next : Checkpoint Db) → opening.tail ≡ None → FoldsJournal format opening next
    → opening_value format (taken_over opening next (empty_journal next.head.place)) ≡ opening_value format opening
same_value_at_rest {Db} {C} format opening next none folds = (λ i. record { db = folds.db i; place = folds.place i }) ∙ (λ i. record {
  db = db_after format (db_after format opening.checkpoint.db opening.journal.commands) (tail_commands (sym none i));
  place = (last_journal opening.journal (sym none i)).place;
})

pub takes_over_the_same : (Db C : Type 0) → TakesOverTheSame Db C
takes_over_the_same Db C format latest old new opening next behind is tail_is folds chosen journal = (opens, same_value format opening next behind tail_is folds)
  where
    tail : IsTail format.commands (limits_in opening.checkpoint) opening.geometry (other opening.chosen) old opening.journal (Some behind)
    tail = subst (IsTail format.commands (limits_in opening.checkpoint) opening.geometry (other opening.chosen) old opening.journal) tail_is is.tail

    larger : IsJournal format.commands (limits_in next) (journal_of opening.geometry (other opening.chosen) new) opening.journal.place behind
    larger = read_under_larger_limits C format.commands (limits_in opening.checkpoint) (limits_in next) (journal_of opening.geometry (other opening.chosen) new) opening.journal.place behind
        (later_allow_more opening.checkpoint.head.version next.head.version folds.version) journal

    opens : IsOpening format latest new (taken_over opening next behind)
    opens = record {
      half = chosen;
      journal = subst (λ (place : ℕ). IsJournal format.commands (limits_in next) (journal_of opening.geometry (other opening.chosen) new) place behind) (sym folds.place) larger;
      tail = tail.1.unsealed;
    }

pub takes_over_the_same_at_rest : (Db C : Type 0) → TakesOverTheSameAtRest Db C
takes_over_the_same_at_rest Db C format latest new opening next none folds chosen closed = (
  record {
    half = chosen;
    journal = empty_read format.commands (limits_in next) (journal_of opening.geometry (other opening.chosen) new) next.head.place closed;
    tail = refl;
  },
  same_value_at_rest format opening next none folds,
)

pub opens_empty : (Db C : Type 0) → OpensEmpty Db C
opens_empty Db C format version latest geometry image known is = record {
  opening = record { geometry = geometry; chosen = First; checkpoint = first_checkpoint format version; journal = empty_journal 0; tail = None };
  is = record {
    half = record { store = is.store; gate = is.gate; begins = is.begins; known = known; older = λ opened. absurd (is.second opened) };
    journal = empty_read format.commands (limits_in (first_checkpoint format version)) (journal_of geometry First image) 0 is.journal;
    tail = refl;
  };
  stands_for = refl;
}
