-- How the value of an image grows: a group is written after the last gate of its last journal, and
-- then that gate decides. A seal does not change the value. Each statement is the contract of a
-- function.
use Rattle.std.specs.Prelude.{◌≡◌, ℕ, ◌+◌, ◌*◌, ◌≤◌, false, List, ◌++◌, length, Option, Some, None}
use Rattle.byte_lists.specs.Content.{overwrite}
use Rattle.byte_lists.specs.Sectors.{sector_at, IsOpenGate}
use Rattle.byte_lists.specs.declared.format.TheConstants.{SECTOR}
use Rattle.store_layout.specs.declared.half.Half.{Half}
use Rattle.store_layout.specs.Group.{group_encoding, seal_encoding, group_sectors, JournalHasRoom, CanBeGroup}
use Rattle.store_layout.specs.Journal.{Reading, HasSeal, IsJournal, reading_with_group, reading_with_seal}
use Rattle.store_layout.specs.JournalLaws.{IsReadyFor}
use Rattle.store_layout.specs.Layout.{other, journal_at, gate_of, journal_of}
use Rattle.store_layout.specs.StoreFormat.{StoreFormat, db_after}
use Rattle.store_layout.specs.Opening.{Opening, limits_in, IsOpening, tail_half, last_journal, opening_value}
use Rattle.store_layout.specs.TakeOver.{empty_journal}
use Rattle.store_layout.specs.StoreValues.{value_after}

-- The database after commands in two parts is the one after the first part and then the second.
abbrev pub FoldsInParts : Type 0 → Type 0 → Type 0
FoldsInParts Db C =
    (format : StoreFormat Db C) (db : Db) (front behind : List C) → db_after format db (front ++ behind) ≡ db_after format (db_after format db front) behind

-- The half of an image's last journal.
abbrev pub last_half : {Db C : Type 0} → Opening Db C → Half
last_half opening = tail_half opening.chosen opening.tail

-- The reading of the last journal.
abbrev pub last_reading : {Db C : Type 0} → Opening Db C → Reading C
last_reading opening = last_journal opening.journal opening.tail

-- The place at which the last journal starts, given the place of the checkpoint.
abbrev pub start_of : {C : Type 0} → ℕ → Reading C → Option (Reading C) → ℕ
start_of place journal None = place
start_of place journal (Some behind) = journal.place

-- The place at which the last journal of an opening starts.
abbrev pub last_start : {Db C : Type 0} → Opening Db C → ℕ
last_start opening = start_of opening.checkpoint.head.place opening.journal opening.tail

-- The sector of the gate at which the last journal ends.
abbrev pub last_gate : {Db C : Type 0} → Opening Db C → ℕ
last_gate opening = journal_at opening.geometry (last_half opening) + (last_reading opening).tail

-- An opening whose last journal has this reading.
abbrev pub with_last : {Db C : Type 0} → Option (Reading C) → Opening Db C → Reading C → Opening Db C
with_last None opening last = record opening { journal = last }
with_last (Some behind) opening last = record opening { tail = Some last }

-- Bytes are written anywhere in the last journal, and that journal has a reading that is not
-- sealed. The image opens with the new reading.
abbrev pub StoreGoesByItsLastJournal : Type 0 → Type 0 → Type 0
StoreGoesByItsLastJournal Db C =
    (format : StoreFormat Db C) (latest : ℕ) (image : List ℕ) (opening : Opening Db C) (at : ℕ) (bytes : List ℕ) (last : Reading C)
    → IsOpening format latest image opening → at + length bytes ≤ SECTOR * opening.geometry.journal
    → IsJournal format.commands (limits_in opening.checkpoint) (overwrite at bytes (journal_of opening.geometry (last_half opening) image))
    (last_start opening) last
    → last.sealed ≡ false
    → IsOpening format latest (overwrite (SECTOR * journal_at opening.geometry (last_half opening) + at) bytes image) (with_last opening.tail opening last)

-- A group that can be written and has room, and a gate that is not open, are written after the last
-- gate. The opening is unchanged, and the last journal is ready for the group.
abbrev pub StoreIsMadeReady : Type 0 → Type 0 → Type 0
StoreIsMadeReady Db C =
    (format : StoreFormat Db C) (latest : ℕ) (image : List ℕ) (opening : Opening Db C) (group : List C) (gate : List ℕ)
    → IsOpening format latest image opening
    → CanBeGroup format.commands (limits_in opening.checkpoint) (last_reading opening).place group
    → JournalHasRoom (last_reading opening).tail (group_sectors format.commands group) opening.geometry.journal
    → length gate ≡ SECTOR → ¬ IsOpenGate gate
    → let written = overwrite (SECTOR * (last_gate opening + 1)) (group_encoding format.commands (last_reading opening).place group ++ gate) image in
    IsOpening format latest written opening
    × IsReadyFor format.commands (limits_in opening.checkpoint) (journal_of opening.geometry (last_half opening) written) (last_reading opening) group

-- The last journal is ready for a group, and its last gate is written with any bytes. Where these
-- open it, the value of the image is the old value after the commands of the group. Otherwise the
-- opening is unchanged.
abbrev pub StoreGrowsByItsGate : Type 0 → Type 0 → Type 0
StoreGrowsByItsGate Db C =
    (format : StoreFormat Db C) (latest : ℕ) (image : List ℕ) (opening : Opening Db C) (group : List C) (gate : List ℕ)
    → IsOpening format latest image opening
    → IsReadyFor format.commands (limits_in opening.checkpoint) (journal_of opening.geometry (last_half opening) image) (last_reading opening) group
    → length gate ≡ SECTOR
    → let grown = with_last opening.tail opening (reading_with_group format.commands (last_reading opening) group) in
    let written = overwrite (SECTOR * last_gate opening) gate image in
    (IsOpenGate gate → IsOpening format latest written grown)
    × (¬ IsOpenGate gate → IsOpening format latest written opening)
    × (opening_value format grown ≡ value_after format (opening_value format opening) group)

-- The other half is ready for a seal: it is closed, and so is the first gate of its journal.
pub record IsOtherHalfClosed {Db C : Type 0} (opening : Opening Db C) (image : List ℕ) : Type 0 where
  pub alone : opening.tail ≡ None
  pub gate : ¬ IsOpenGate (gate_of opening.geometry (other opening.chosen) image)
  pub journal : ¬ IsOpenGate (sector_at 0 (journal_of opening.geometry (other opening.chosen) image))

-- Where the other half is ready, a seal is written after the last gate. The opening is unchanged,
-- and the seal is present.
abbrev pub StoreIsMadeReadyForSeal : Type 0 → Type 0 → Type 0
StoreIsMadeReadyForSeal Db C =
    (format : StoreFormat Db C) (latest : ℕ) (image : List ℕ) (opening : Opening Db C)
    → IsOpening format latest image opening → IsOtherHalfClosed opening image
    → let written = overwrite (SECTOR * (journal_at opening.geometry opening.chosen + opening.journal.tail + 1)) (seal_encoding opening.journal.place) image in
    IsOpening format latest written opening × IsOtherHalfClosed opening written
    × HasSeal (journal_of opening.geometry opening.chosen written) opening.journal.tail opening.journal.place

-- After a seal, the last gate is written with any bytes. Where these open it, the other half's
-- journal continues, without a command yet, and the value of the image is unchanged. Otherwise the
-- opening is unchanged.
abbrev pub StoreIsSealedByItsGate : Type 0 → Type 0 → Type 0
StoreIsSealedByItsGate Db C =
    (format : StoreFormat Db C) (latest : ℕ) (image : List ℕ) (opening : Opening Db C) (gate : List ℕ)
    → IsOpening format latest image opening → IsOtherHalfClosed opening image
    → HasSeal (journal_of opening.geometry opening.chosen image) opening.journal.tail opening.journal.place
    → length gate ≡ SECTOR
    → let sealed = record opening { journal = reading_with_seal opening.journal; tail = Some (empty_journal opening.journal.place) } in
    let written = overwrite (SECTOR * (journal_at opening.geometry opening.chosen + opening.journal.tail)) gate image in
    (IsOpenGate gate → IsOpening format latest written sealed)
    × (¬ IsOpenGate gate → IsOpening format latest written opening)
    × (opening_value format sealed ≡ opening_value format opening)
