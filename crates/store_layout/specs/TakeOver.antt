-- When two images have the same value, as one half takes over from the other, and the value of a
-- new store. Each statement is the contract of a function.
use Rattle.std.specs.Prelude.{◌≡◌, ℕ, ◌≤◌, false, List, [], Some, None}
use Rattle.byte_lists.specs.Sectors.{sector_at, IsOpenGate}
use Rattle.store_layout.specs.declared.half.Half.TheVariants.{First, Second}
use Rattle.store_layout.specs.Journal.{Reading, IsJournal}
use Rattle.store_layout.specs.Layout.{Geometry, other, area_of, gate_of, journal_of}
use Rattle.store_layout.specs.FirstSector.{IsStore}
use Rattle.store_layout.specs.StoreFormat.{StoreFormat}
use Rattle.store_layout.specs.Checkpoint.{Checkpoint, IsCheckpoint, first_checkpoint}
use Rattle.store_layout.specs.Opening.{Opening, limits_in, IsChosen, IsOpening, db_at_seal, opening_value, OpensTo}

-- A checkpoint for the other half has the value of the chosen half up to the end of its journal.
pub record FoldsJournal {Db C : Type 0} (format : StoreFormat Db C) (opening : Opening Db C) (next : Checkpoint Db) : Type 0 where
  -- It has the database of the chosen half with the commands of that journal.
  pub db : next.db ≡ db_at_seal format opening
  -- It has the place reached there.
  pub place : next.head.place ≡ opening.journal.place
  -- It has the same version or a later one.
  pub version : opening.checkpoint.head.version ≤ next.head.version

-- The opening once the other half is chosen, with this journal.
abbrev pub taken_over : {Db C : Type 0} → Opening Db C → Checkpoint Db → Reading C → Opening Db C
taken_over opening next behind = record {
  geometry = opening.geometry;
  chosen = other opening.chosen;
  checkpoint = next;
  journal = behind;
  tail = None;
}

-- The old half with its sealed journal and the tail, and the new half with that tail, have the same
-- value. Where one image opens with the tail, and in another the new half is chosen and its journal
-- is that tail under the old half's limits, the other image opens too, and has the same value.
abbrev pub TakesOverTheSame : Type 0 → Type 0 → Type 0
TakesOverTheSame Db C =
    (format : StoreFormat Db C) (latest : ℕ) (old new : List ℕ) (opening : Opening Db C) (next : Checkpoint Db) (behind : Reading C)
    → IsOpening format latest old opening → opening.tail ≡ Some behind → FoldsJournal format opening next
    → IsChosen format latest new opening.geometry (other opening.chosen) next
    → IsJournal format.commands (limits_in opening.checkpoint) (journal_of opening.geometry (other opening.chosen) new) opening.journal.place behind
    → IsOpening format latest new (taken_over opening next behind)
    × (opening_value format (taken_over opening next behind) ≡ opening_value format opening)

-- A journal without a command.
abbrev pub empty_journal : {C : Type 0} → ℕ → Reading C
empty_journal place = record { commands = []; tail = 0; sealed = false; place = place }

-- Where no journal is sealed, the new half has the same value: its journal is empty, as its first
-- gate is closed.
abbrev pub TakesOverTheSameAtRest : Type 0 → Type 0 → Type 0
TakesOverTheSameAtRest Db C =
    (format : StoreFormat Db C) (latest : ℕ) (new : List ℕ) (opening : Opening Db C) (next : Checkpoint Db)
    → opening.tail ≡ None → FoldsJournal format opening next
    → IsChosen format latest new opening.geometry (other opening.chosen) next
    → ¬ IsOpenGate (sector_at 0 (journal_of opening.geometry (other opening.chosen) new))
    → IsOpening format latest new (taken_over opening next (empty_journal next.head.place))
    × (opening_value format (taken_over opening next (empty_journal next.head.place)) ≡ opening_value format opening)

-- A store as it is formatted.
pub record IsFormatted {Db C : Type 0} (format : StoreFormat Db C) (version : ℕ) (geometry : Geometry) (image : List ℕ) : Type 0 where
  pub store : IsStore geometry image
  -- The first half is open.
  pub gate : IsOpenGate (gate_of geometry First image)
  -- It has no row.
  pub begins : IsCheckpoint format.rows (area_of geometry First image) (first_checkpoint format version)
  -- The first gate of its journal is closed.
  pub journal : ¬ IsOpenGate (sector_at 0 (journal_of geometry First image))
  -- The second half is closed.
  pub second : ¬ IsOpenGate (gate_of geometry Second image)

-- A formatted store opens to the empty database, at place 0.
abbrev pub OpensEmpty : Type 0 → Type 0 → Type 0
OpensEmpty Db C =
    (format : StoreFormat Db C) (version latest : ℕ) (geometry : Geometry) (image : List ℕ) → version ≤ latest
    → IsFormatted format version geometry image → OpensTo format latest image (record { db = format.empty; place = 0 })
