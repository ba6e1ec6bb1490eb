-- How one half takes over from the other: its area is written, then its gate decides, and then the
-- old half may be anything that is older. Each statement is the contract of a function.
use Rattle.std.specs.Prelude.{◌≡◌, ℕ, ◌+◌, ◌*◌, ◌<◌, ◌≤◌, List, [], ◌∷◌, length, Some, None}
use Rattle.std.specs.List.{AllByRecursion}
use Rattle.byte_lists.specs.Content.{overwrite}
use Rattle.byte_lists.specs.Sectors.{sector_at, IsOpenGate}
use Rattle.byte_lists.specs.declared.format.TheConstants.{SECTOR}
use Rattle.store_layout.specs.Journal.{Reading}
use Rattle.store_layout.specs.Layout.{other, area_at, gate_at, area_of, gate_of, journal_of}
use Rattle.store_layout.specs.StoreFormat.{StoreFormat}
use Rattle.store_layout.specs.Checkpoint.{Checkpoint, IsCheckpoint}
use Rattle.store_layout.specs.Opening.{Opening, HasOlderHead, IsOpening, opening_value}
use Rattle.store_layout.specs.WhatCounts.{span, chosen_spans, IsApart}
use Rattle.store_layout.specs.TakeOver.{FoldsJournal, taken_over, empty_journal}

-- The other half's area has the next checkpoint.
pub record IsLaid {Db C : Type 0} (format : StoreFormat Db C) (latest : ℕ) (image : List ℕ) (opening : Opening Db C) (next : Checkpoint Db) : Type 0 where
  -- It folds the chosen half's journal.
  pub folds : FoldsJournal format opening next
  pub begins : IsCheckpoint format.rows (area_of opening.geometry (other opening.chosen) image) next
  -- Its version is known.
  pub known : next.head.version ≤ latest
  -- Its epoch is later.
  pub newer : opening.checkpoint.head.epoch < next.head.epoch

-- As long as the other half is closed, any write to its area leaves the opening unchanged.
abbrev pub ClosedAreaMayChange : Type 0 → Type 0 → Type 0
ClosedAreaMayChange Db C =
    (format : StoreFormat Db C) (latest : ℕ) (image : List ℕ) (opening : Opening Db C) (at : ℕ) (bytes : List ℕ)
    → IsOpening format latest image opening → ¬ IsOpenGate (gate_of opening.geometry (other opening.chosen) image)
    → at + length bytes ≤ SECTOR * opening.geometry.checkpoint
    → IsOpening format latest (overwrite (SECTOR * area_at opening.geometry (other opening.chosen) + at) bytes image) opening

-- The gate of the other half, whose journal is the tail, is written with any bytes. Where these
-- open it, that half is chosen, and the value is the same. Otherwise the opening is unchanged.
abbrev pub SwitchesByTheGate : Type 0 → Type 0 → Type 0
SwitchesByTheGate Db C =
    (format : StoreFormat Db C) (latest : ℕ) (image : List ℕ) (opening : Opening Db C) (next : Checkpoint Db) (behind : Reading C) (gate : List ℕ)
    → IsOpening format latest image opening → opening.tail ≡ Some behind → IsLaid format latest image opening next → length gate ≡ SECTOR
    → let written = overwrite (SECTOR * gate_at opening.geometry (other opening.chosen)) gate image in
    (IsOpenGate gate → IsOpening format latest written (taken_over opening next behind))
    × (¬ IsOpenGate gate → IsOpening format latest written opening)
    × (opening_value format (taken_over opening next behind) ≡ opening_value format opening)

-- The gate of the other half is written with any bytes, where no journal is sealed, and the first
-- gate of the other half's journal is closed. Where these bytes open it, that half is chosen, and
-- the value is the same. Otherwise the opening is unchanged.
abbrev pub SwitchesByTheGateAtRest : Type 0 → Type 0 → Type 0
SwitchesByTheGateAtRest Db C =
    (format : StoreFormat Db C) (latest : ℕ) (image : List ℕ) (opening : Opening Db C) (next : Checkpoint Db) (gate : List ℕ)
    → IsOpening format latest image opening → opening.tail ≡ None → IsLaid format latest image opening next
    → ¬ IsOpenGate (sector_at 0 (journal_of opening.geometry (other opening.chosen) image)) → length gate ≡ SECTOR
    → let written = overwrite (SECTOR * gate_at opening.geometry (other opening.chosen)) gate image in
    let fresh = taken_over opening next (empty_journal next.head.place) in
    (IsOpenGate gate → IsOpening format latest written fresh)
    × (¬ IsOpenGate gate → IsOpening format latest written opening)
    × (opening_value format fresh ≡ opening_value format opening)

-- The other half's head is older, and no journal is sealed. Any write outside of that head, and
-- outside of the bytes of the chosen half that count, leaves the opening unchanged, such as a write
-- over the gates of the other half.
abbrev pub OlderHalfMayChange : Type 0 → Type 0 → Type 0
OlderHalfMayChange Db C =
    (format : StoreFormat Db C) (latest : ℕ) (image : List ℕ) (opening : Opening Db C) (at : ℕ) (bytes : List ℕ)
    → IsOpening format latest image opening → opening.tail ≡ None
    → HasOlderHead latest (area_of opening.geometry (other opening.chosen) image) opening.checkpoint.head.epoch
    → at + length bytes ≤ length image
    → AllByRecursion (IsApart at (length bytes)) (chosen_spans format opening (span (SECTOR * area_at opening.geometry (other opening.chosen)) 24 ∷ []))
    → IsOpening format latest (overwrite at bytes image) opening
