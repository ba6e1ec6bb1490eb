-- How far a sealed half is read.
use Rattle.std.specs.Prelude.{◌≡◌, ℕ, suc, ◌+◌, ◌-◌, ◌*◌, ◌^◌, ◌≤◌, true, List, length, Some, None, Result, Ok, Err}
use Rattle.byte_lists.specs.Content.{part}
use Rattle.byte_lists.specs.Sectors.{sectors_of}
use Rattle.byte_lists.specs.declared.format.TheConstants.{SECTOR}
use Rattle.path_db.specs.declared.command.Command.{Command}
use Rattle.row_map.specs.Database.{RowView}
use Rattle.path_db.specs.Command.{database_after_all}
use Rattle.path_records.specs.RowRecord.{rows_decoding}
use Rattle.store_layout.specs.declared.format.TheConstants.{BEFORE_ROWS}
use Rattle.store_layout.specs.declared.half.Half.{Half}
use Rattle.store_layout.specs.Limits.{limits_of}
use Rattle.store_layout.specs.Journal.{Reading}
use Rattle.store_layout.specs.JournalReading.{journal_scan}
use Rattle.store_layout.specs.Layout.{Geometry, area_at, journal_of}
use Rattle.gate_journal.specs.declared.scanner.Scan.{Scan}
use Rattle.gate_journal.specs.Commands.{command_format}
use Rattle.gate_journal.specs.Scanning.{reading_of, pieces_left, IsReadUpTo}
use Rattle.ckpt_stream.specs.Settling.{steps_to_settle}
use Rattle.ckpt_pair.specs.declared.reading.Front.{Front}
use Rattle.ckpt_pair.specs.Rows.{as_counted}
use Rattle.store_open.specs.Sealed.{sealed_half}
use Rattle.store_open.specs.declared.error.SealedError.{SealedError}
use Rattle.store_open.specs.declared.error.SealedError.TheVariants.{Fault, NoMemory, Damaged}
use Rattle.ckpt_stream.specs.declared.half_read.HalfRead.{HalfRead}
use Rattle.ckpt_stream.specs.declared.half_read.HalfRead.TheVariants.{Unread, Journal, Rows, Settled, Planned}
use Rattle.ckpt_stream.specs.declared.old_journal.JournalRead.{JournalRead}
use Rattle.ckpt_stream.specs.declared.old_rows.RowsRead.{RowsRead}
use Rattle.ckpt_stream.specs.declared.half_read.RowsSettled.{RowsSettled}
use Rattle.ckpt_stream.specs.declared.half_read.PlannedRows.{PlannedRows}
use Rattle.ckpt_stream.specs.OldArea.{IsReadByFront}
use Rattle.ckpt_stream.specs.OldRows.{AreRowsRead, AreStreamed, AreSummedOn, AreSettled, ArePlanned}
use Rattle.ckpt_stream.specs.Pieces.{all_pieces}
use Rattle.ckpt_stream.specs.Sums.{AreSummed}

-- What holds of what is read, whatever the device does.
abbrev pub IsHalfRead : HalfRead → Type 0
IsHalfRead Unread = Unit {0}
IsHalfRead (Journal journal) = journal.scanner.sectors ≡ journal.sectors
IsHalfRead (Rows rows) = AreRowsRead rows
IsHalfRead (Settled settled) = AreSettled settled
IsHalfRead (Planned planned) = ArePlanned planned

-- The rows of a front end within an area.
abbrev pub FitsArea : Geometry → Front → Type 0
FitsArea geometry front = BEFORE_ROWS + front.size ≤ SECTOR * geometry.checkpoint

-- What is read is within these sizes.
abbrev pub IsWithin : Geometry → HalfRead → Type 0
IsWithin geometry Unread = Unit {0}
IsWithin geometry (Journal journal) = (journal.sectors ≡ geometry.journal) × FitsArea geometry journal.front
IsWithin geometry (Rows rows) = FitsArea geometry rows.front
IsWithin geometry (Settled settled) = FitsArea geometry settled.front
IsWithin geometry (Planned planned) = FitsArea geometry planned.front

-- A bound on the number of pieces that are still to be read, named or settled.
abbrev pub pieces_to_come : HalfRead → ℕ
pieces_to_come Unread = all_pieces
pieces_to_come (Journal journal) = 2 ^ 67 + pieces_left journal.scanner
pieces_to_come (Rows rows) = 2 ^ 66 + (sectors_of (BEFORE_ROWS + rows.front.size) - rows.first) + (length rows.journal.commands.items - rows.named)
pieces_to_come (Settled settled) = suc (steps_to_settle settled.settling)
pieces_to_come (Planned planned) = 0

-- A half's journal has this reading, which a seal ends.
pub record HasScan (geometry : Geometry) (half : Half) (reads : List ℕ) (front : Front) (scan : Scan) : Type 0 where
  pub scanned : journal_scan command_format (limits_of front.head.version) (journal_of geometry half reads) front.head.place ≡ Ok (reading_of scan)
  pub sealed : scan.sealed ≡ true

-- The front and the groups up to a gate are those of a half.
pub record IsJournalReadOn (geometry : Geometry) (half : Half) (reads : List ℕ) (journal : JournalRead) : Type 0 where
  pub front : IsReadByFront journal.front geometry half reads
  pub version : journal.scanner.version ≡ journal.front.head.version
  pub read : IsReadUpTo journal.scanner (journal_of geometry half reads) journal.front.head.place

-- The front, the journal and the bytes of the first rows are those of a half.
pub record AreRowsReadOn (geometry : Geometry) (half : Half) (reads : List ℕ) (rows : RowsRead) : Type 0 where
  pub front : IsReadByFront rows.front geometry half reads
  pub journal : HasScan geometry half reads rows.front rows.journal
  pub streamed : AreStreamed (area_at geometry half) reads rows
  pub summed : AreSummedOn (area_at geometry half) reads rows

-- What is known of all rows of a half, by what is kept of them: its area's front, the place that its
-- journal reaches, the rows before and after the journal's commands, and the sums of their sectors.
pub record AreAllRead (geometry : Geometry) (half : Half) (reads : List ℕ) (area : Front) (reached : ℕ) (before left : List RowView) (sums : List ℕ) : Type 0 where
  pub front : IsReadByFront area geometry half reads
  -- The reading of the journal, which a seal ends.
  pub reading : Reading Command
  pub scanned : journal_scan command_format (limits_of area.head.version) (journal_of geometry half reads) area.head.place ≡ Ok reading
  pub sealed : reading.sealed ≡ true
  pub place : reading.place ≡ reached
  pub rows : as_counted area.count (rows_decoding (part (SECTOR * area_at geometry half + BEFORE_ROWS) area.size reads)) ≡ Some before
  pub after : left ≡ database_after_all before reading.commands
  pub summed : AreSummed sums (part (SECTOR * area_at geometry half + BEFORE_ROWS) area.size reads)

-- All rows that are read are those of a half, and the commands are those of its journal.
abbrev pub AreSettledOn : Geometry → Half → List ℕ → RowsSettled → Type 0
AreSettledOn geometry half reads settled = AreAllRead geometry half reads settled.front settled.place settled.note.value settled.after.value settled.sums.items

-- The same of rows that are planned.
abbrev pub ArePlannedOn : Geometry → Half → List ℕ → PlannedRows → Type 0
ArePlannedOn geometry half reads planned = AreAllRead geometry half reads planned.front planned.place planned.note.value planned.after.value planned.sums.items

-- What is read so far is of a half, as reads give it.
abbrev pub IsReadOn : Geometry → Half → List ℕ → HalfRead → Type 0
IsReadOn geometry half reads Unread = Unit {0}
IsReadOn geometry half reads (Journal journal) = IsJournalReadOn geometry half reads journal
IsReadOn geometry half reads (Rows rows) = AreRowsReadOn geometry half reads rows
IsReadOn geometry half reads (Settled settled) = AreSettledOn geometry half reads settled
IsReadOn geometry half reads (Planned planned) = ArePlannedOn geometry half reads planned

-- A half is refused: it is no sealed half, or the device failed, or memory was refused.
abbrev pub RefusesHalf : Geometry → Half → List ℕ → SealedError → Type 0
RefusesHalf geometry half reads Fault = Unit {0}
RefusesHalf geometry half reads NoMemory = Unit {0}
RefusesHalf geometry half reads Damaged = sealed_half geometry half reads ≡ None

-- The result of reading on in a half.
abbrev pub ReadsHalf : Geometry → Half → List ℕ → Result HalfRead SealedError → Type 0
ReadsHalf geometry half reads (Ok next) = IsReadOn geometry half reads next
ReadsHalf geometry half reads (Err e) = RefusesHalf geometry half reads e

-- The result of reading on in a half of which something may be read already.
abbrev pub ReadsOn : Geometry → Half → List ℕ → HalfRead → Result HalfRead SealedError → Type 0
ReadsOn geometry half reads before result = IsReadOn geometry half reads before → ReadsHalf geometry half reads result

-- The result of reading the rest of a half.
abbrev pub ReadsAll : Geometry → Half → List ℕ → Result PlannedRows SealedError → Type 0
ReadsAll geometry half reads (Ok planned) = ArePlannedOn geometry half reads planned
ReadsAll geometry half reads (Err e) = RefusesHalf geometry half reads e
