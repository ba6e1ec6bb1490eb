-- The value of an image: the database of the open half with the greater epoch, with the commands of
-- its journal. Where that journal is sealed, the commands of the other half's journal follow.
use Rattle.std.specs.Prelude.{◌≡◌, ℕ, ◌<◌, ◌≤◌, true, false, List, [], Option, Some, None}
use Rattle.byte_lists.specs.Sectors.{IsOpenGate}
use Rattle.store_layout.specs.declared.half.Half.{Half}
use Rattle.store_layout.specs.Limits.{Limits, limits_of}
use Rattle.store_layout.specs.CommandFormat.{CommandFormat}
use Rattle.store_layout.specs.Journal.{Reading, IsJournal}
use Rattle.store_layout.specs.Layout.{Geometry, other, area_of, gate_of, journal_of}
use Rattle.store_layout.specs.FirstSector.{IsStore}
use Rattle.store_layout.specs.StoreFormat.{StoreFormat, db_after}
use Rattle.store_layout.specs.Checkpoint.{Head, Checkpoint, IsHead, IsCheckpoint}

-- The reading of an image that opens.
pub record Opening (Db C : Type 0) : Type 0 where
  -- The sizes.
  pub geometry : Geometry
  -- The half that is chosen.
  pub chosen : Half
  -- Its checkpoint.
  pub checkpoint : Checkpoint Db
  -- Its journal.
  pub journal : Reading C
  -- The journal of the other half, which continues the chosen one's where that is sealed.
  pub tail : Option (Reading C)

-- The limits of both journals: those of the chosen half's version.
abbrev pub limits_in : {Db : Type 0} → Checkpoint Db → Limits
limits_in checkpoint = limits_of checkpoint.head.version

-- An area begins with a head of a known version, and of an earlier epoch than this one.
pub record HasOlderHead (latest : ℕ) (area : List ℕ) (epoch : ℕ) : Type 0 where
  pub head : Head
  pub is : IsHead area head
  pub known : head.version ≤ latest
  pub older : head.epoch < epoch

-- The other half's journal continues after a seal, and is not sealed itself.
pub record ContinuesAfterSeal {C : Type 0} (format : CommandFormat C) (limits : Limits) (bytes : List ℕ) (front behind : Reading C) : Type 0 where
  pub sealed : front.sealed ≡ true
  pub journal : IsJournal format limits bytes front.place behind
  pub unsealed : behind.sealed ≡ false

-- The journal after the chosen half's journal: none where that is not sealed, and else the journal
-- of the other half, which is closed, from the place of the seal on.
abbrev pub IsTail : {C : Type 0} → CommandFormat C → Limits → Geometry → Half → List ℕ → Reading C → Option (Reading C) → Type 0
IsTail format limits geometry half image journal None = journal.sealed ≡ false
IsTail format limits geometry half image journal (Some behind) =
    (¬ IsOpenGate (gate_of geometry half image)) × ContinuesAfterSeal format limits (journal_of geometry half image) journal behind

-- A half of a store's image is chosen.
pub record IsChosen {Db C : Type 0} (format : StoreFormat Db C) (latest : ℕ) (image : List ℕ) (geometry : Geometry) (half : Half) (checkpoint : Checkpoint Db)
    : Type 0 where
  pub store : IsStore geometry image
  -- The half is open.
  pub gate : IsOpenGate (gate_of geometry half image)
  -- It begins with this checkpoint.
  pub begins : IsCheckpoint format.rows (area_of geometry half image) checkpoint
  -- Its version is known.
  pub known : checkpoint.head.version ≤ latest
  -- The other half is closed, or older.
  pub older : IsOpenGate (gate_of geometry (other half) image) → HasOlderHead latest (area_of geometry (other half) image) checkpoint.head.epoch

-- The image opens with this reading.
pub record IsOpening {Db C : Type 0} (format : StoreFormat Db C) (latest : ℕ) (image : List ℕ) (opening : Opening Db C) : Type 0 where
  -- The chosen half begins with the opening's checkpoint.
  pub half : IsChosen format latest image opening.geometry opening.chosen opening.checkpoint
  -- The chosen half's journal has the opening's reading.
  pub journal : IsJournal format.commands (limits_in opening.checkpoint) (journal_of opening.geometry opening.chosen image)
      opening.checkpoint.head.place opening.journal
  -- The tail is the journal after it, if any.
  pub tail : IsTail format.commands (limits_in opening.checkpoint) opening.geometry (other opening.chosen) image opening.journal opening.tail

-- The commands of a tail.
abbrev pub tail_commands : {C : Type 0} → Option (Reading C) → List C
tail_commands None = []
tail_commands (Some behind) = behind.commands

-- The half of the last journal.
abbrev pub tail_half : {C : Type 0} → Half → Option (Reading C) → Half
tail_half chosen None = chosen
tail_half chosen (Some behind) = other chosen

-- The last journal.
abbrev pub last_journal : {C : Type 0} → Reading C → Option (Reading C) → Reading C
last_journal journal None = journal
last_journal journal (Some behind) = behind

-- The value of a store.
pub record StoreValue (Db : Type 0) : Type 0 where
  -- Its database.
  pub db : Db
  -- The place reached, which is the number of commands that made the database.
  pub place : ℕ

-- The chosen half's database with the commands of its journal.
abbrev pub db_at_seal : {Db C : Type 0} → StoreFormat Db C → Opening Db C → Db
db_at_seal format opening = db_after format opening.checkpoint.db opening.journal.commands

-- The value of an opening.
abbrev pub opening_value : {Db C : Type 0} → StoreFormat Db C → Opening Db C → StoreValue Db
opening_value format opening = record {
  db = db_after format (db_at_seal format opening) (tail_commands opening.tail);
  place = (last_journal opening.journal opening.tail).place;
}

-- The image opens to this database at this place.
pub record OpensTo {Db C : Type 0} (format : StoreFormat Db C) (latest : ℕ) (image : List ℕ) (value : StoreValue Db) : Type 0 where
  pub opening : Opening Db C
  pub is : IsOpening format latest image opening
  pub stands_for : opening_value format opening ≡ value
