-- What is read of a sealed half before its checkpoint is begun.
use Rattle.std.specs.Prelude.{◌≡◌, ℕ, ◌+◌, ◌-◌, ◌*◌, ◌⊎◌, Bool, true, false, List, length, take, Ok}
use Rattle.byte_lists.specs.Sectors.{whole_sectors}
use Rattle.byte_lists.specs.declared.format.TheConstants.{SECTOR}
use Rattle.row_map.specs.Database.{RowView}
use Rattle.path_db.specs.declared.command.Command.{Command}
use Rattle.path_db.specs.Command.{database_after_all}
use Rattle.path_records.specs.RowRecord.{rows_encoding}
use Rattle.store_layout.specs.declared.format.TheConstants.{BEFORE_ROWS}
use Rattle.store_layout.specs.declared.half.Half.{Half}
use Rattle.store_layout.specs.Limits.{limits_of, latest}
use Rattle.store_layout.specs.Journal.{IsGroupChain, JournalEndsAs, Reading, all_of}
use Rattle.store_layout.specs.Layout.{Geometry, area_of, journal_of}
use Rattle.store_layout.specs.Checkpoint.{Checkpoint}
use Rattle.store_layout.specs.CheckpointReading.{checkpoint_in}
use Rattle.gate_journal.specs.Commands.{command_format}
use Rattle.gate_journal.specs.Scanning.{reading_of, IsReadUpTo}
use Rattle.ckpt_pair.specs.declared.reading.Front.{Front}
use Rattle.ckpt_pair.specs.Heads.{head_view}
use Rattle.ckpt_pair.specs.Stream.{HasStreamed}
use Rattle.ckpt_pair.specs.Rows.{rows_format}
use Rattle.ckpt_stream.specs.declared.half_read.HalfRead.{HalfRead}
use Rattle.ckpt_stream.specs.declared.half_read.HalfRead.TheVariants.{Unread, Journal, Rows, Settled, Planned}
use Rattle.ckpt_stream.specs.declared.old_journal.JournalRead.{JournalRead}
use Rattle.ckpt_stream.specs.declared.old_rows.RowsRead.{RowsRead}
use Rattle.ckpt_stream.specs.declared.preparation.Preparation.TheInside.{Inside}
use Rattle.ckpt_stream.specs.Sums.{sums_in, AreSummed}
use Rattle.ckpt_stream.specs.HalfRead.{IsHalfRead, IsWithin, pieces_to_come}

-- What a sealed half has: its checkpoint, the groups of its journal, and the gate of the seal, in
-- sectors from the journal's start.
pub record SealedContents : Type 0 where
  pub checkpoint : Checkpoint (List RowView)
  pub groups : List (List Command)
  pub gate : ℕ

-- The place that the journal of a sealed half reaches.
abbrev pub sealed_place : SealedContents → ℕ
sealed_place contents = contents.checkpoint.head.place + length (all_of contents.groups)

-- A journal has these contents, whatever comes after the seal.
pub record HasSealedJournal (contents : SealedContents) (journal : List ℕ) : Type 0 where
  -- The groups follow each other from the checkpoint's place on.
  pub chain : IsGroupChain command_format (limits_of contents.checkpoint.head.version) journal 0 contents.checkpoint.head.place contents.groups contents.gate
  -- A seal ends the journal.
  pub ends : JournalEndsAs true journal contents.gate (sealed_place contents)

-- A half of an image has these contents, whatever comes after the seal and after the rows.
pub record HasSealed (geometry : Geometry) (half : Half) (contents : SealedContents) (image : List ℕ) : Type 0 where
  -- Its area is read as the checkpoint.
  pub area : checkpoint_in rows_format latest (area_of geometry half image) ≡ Ok contents.checkpoint
  -- Its journal has the groups, and a seal.
  pub journal : HasSealedJournal contents (journal_of geometry half image)

-- A preparation as contracts see it.
pub record PreparationView : Type 0 where
  -- What is read of the half.
  pub read : HalfRead

-- A preparation's fields as contracts see them.
abbrev pub preparation_view : Inside → PreparationView
preparation_view s = record { read = s.read }

-- What holds for the fields of a preparation.
abbrev pub IsPreparation : Inside → Type 0
IsPreparation s = IsHalfRead s.read

-- Nothing is read yet.
abbrev pub IsUnread : PreparationView → Type 0
IsUnread preparation = preparation.read ≡ Unread

-- A half is read whole and planned.
abbrev pub is_planned : HalfRead → Bool
is_planned Unread = false
is_planned (Journal journal) = false
is_planned (Rows rows) = false
is_planned (Settled settled) = false
is_planned (Planned planned) = true

-- Everything is read.
abbrev pub is_whole : PreparationView → Bool
is_whole preparation = is_planned preparation.read

-- A bound on the calls of `read_on` that are still to come.
abbrev pub calls_left : PreparationView → ℕ
calls_left preparation = pieces_to_come preparation.read

-- The front is that of a half with these contents.
pub record IsFrontFrom (contents : SealedContents) (front : Front) : Type 0 where
  pub head : head_view front.head ≡ contents.checkpoint.head
  pub size : front.size ≡ length (rows_encoding contents.checkpoint.db)
  pub count : front.count ≡ length contents.checkpoint.db

-- The reading of a half's journal.
abbrev pub sealed_reading : SealedContents → Reading Command
sealed_reading contents = record { commands = all_of contents.groups; tail = contents.gate; sealed = true; place = sealed_place contents }

-- The front and the groups up to a gate are those of a half with these contents.
pub record IsJournalFrom (geometry : Geometry) (contents : SealedContents) (journal : JournalRead) : Type 0 where
  pub front : IsFrontFrom contents journal.front
  pub version : journal.scanner.version ≡ journal.front.head.version
  -- The groups were read of some journal with these contents.
  pub bytes : List ℕ
  pub size : whole_sectors bytes ≡ geometry.journal
  pub has : HasSealedJournal contents bytes
  pub read : IsReadUpTo journal.scanner bytes journal.front.head.place

-- The front, the journal and the bytes of the first rows are those of a half with these contents.
pub record AreRowsFrom (contents : SealedContents) (rows : RowsRead) : Type 0 where
  pub front : IsFrontFrom contents rows.front
  pub journal : reading_of rows.journal ≡ sealed_reading contents
  -- The bytes that were pushed to the stream begin with the bytes of the rows in these sectors.
  pub pushed : List ℕ
  pub long : length pushed ≡ SECTOR * rows.first - BEFORE_ROWS
  pub same : take rows.front.size pushed ≡ take (SECTOR * rows.first - BEFORE_ROWS) (rows_encoding contents.checkpoint.db)
  pub streamed : HasStreamed rows.front.size rows.front.count pushed rows.note.value rows.stream
  -- The sums are those of these sectors.
  pub summed : rows.sums.items ≡ sums_in rows.first 0 (rows_encoding contents.checkpoint.db)

-- What is known of all rows of a half with these contents, by what is kept of them: its area's front,
-- the place that its journal reaches, the rows before and after the journal's commands, and the sums
-- of their sectors.
pub record AreAllFrom (contents : SealedContents) (area : Front) (reached : ℕ) (before left : List RowView) (sums : List ℕ) : Type 0 where
  pub front : IsFrontFrom contents area
  pub place : sealed_place contents ≡ reached
  pub rows : before ≡ contents.checkpoint.db
  pub after : left ≡ database_after_all before (all_of contents.groups)
  pub summed : AreSummed sums (rows_encoding contents.checkpoint.db)

-- What is read so far is of a half with these contents.
abbrev pub IsReadFrom : Geometry → SealedContents → HalfRead → Type 0
IsReadFrom geometry contents Unread = Unit {0}
IsReadFrom geometry contents (Journal journal) = IsJournalFrom geometry contents journal
IsReadFrom geometry contents (Rows rows) = AreRowsFrom contents rows
IsReadFrom geometry contents (Settled settled) = AreAllFrom contents settled.front settled.place settled.note.value settled.after.value settled.sums.items
IsReadFrom geometry contents (Planned planned) = AreAllFrom contents planned.front planned.place planned.note.value planned.after.value planned.sums.items

-- What is prepared is of a half that has these contents. It says nothing of a device, so that it
-- holds as long as the half has them.
pub record IsPreparedFrom (geometry : Geometry) (contents : SealedContents) (preparation : PreparationView) : Type 0 where
  pub within : IsWithin geometry preparation.read
  pub from : IsReadFrom geometry contents preparation.read

-- What is prepared is of what a half of an image has.
pub record HasPrepared (geometry : Geometry) (half : Half) (image : List ℕ) (preparation : PreparationView) : Type 0 where
  pub contents : SealedContents
  pub has : HasSealed geometry half contents image
  pub from : IsPreparedFrom geometry contents preparation

-- A preparation may be used for a half of an image: nothing is read yet, or what is read is of what
-- the half has.
abbrev pub IsPreparedFor : Geometry → Half → List ℕ → PreparationView → Type 0
IsPreparedFor geometry half image preparation = IsUnread preparation ⊎ HasPrepared geometry half image preparation
