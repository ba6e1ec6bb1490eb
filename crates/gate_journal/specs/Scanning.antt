-- A journal that is read piece by piece. A piece is whole sectors, which are counted from the
-- journal's start.
use Rattle.std.specs.Prelude.{◌≡◌, ℕ, ◌+◌, ◌-◌, ◌*◌, ◌<◌, ◌≤◌, List, length, Result, Ok, Err}
use Rattle.byte_lists.specs.Content.{AreBytes, part}
use Rattle.byte_lists.specs.Sectors.{whole_sectors, sector_at, IsOpenGate}
use Rattle.byte_lists.specs.declared.format.TheConstants.{SECTOR}
use Rattle.path_db.specs.declared.command.Command.{Command}
use Rattle.store_layout.specs.Limits.{Limits, limits_of}
use Rattle.store_layout.specs.Group.{payload_sectors}
use Rattle.store_layout.specs.GroupReading.{BadHeader as IsBadHeader, BadRecord as IsBadRecord, Gap as IsGap, PastEnd as IsPastEnd}
use Rattle.store_layout.specs.Journal.{Reading, IsGroupChain, IsJournal, all_of, sectors_read}
use Rattle.store_layout.specs.JournalRefusals.{IsJournalRefused}
use Rattle.gate_journal.specs.declared.error.JournalError.{JournalError}
use Rattle.gate_journal.specs.declared.error.JournalError.TheVariants.{NoMemory, BadHeader, BadRecord, Gap, PastEnd}
use Rattle.gate_journal.specs.declared.header.Header.TheVariants.{Group}
use Rattle.gate_journal.specs.declared.scanner.Scan.{Scan}
use Rattle.gate_journal.specs.declared.scanner.Stage.{Stage}
use Rattle.gate_journal.specs.declared.scanner.Stage.TheVariants.{AtGate, AtHeader, AtPayload}
use Rattle.gate_journal.specs.declared.scanner.Progress.{Progress}
use Rattle.gate_journal.specs.declared.scanner.Progress.TheVariants.{More, Done}
use Rattle.gate_journal.specs.Commands.{command_format}
use Rattle.gate_journal.specs.Reading.{header_reading, PayloadWantsMemory}
use Rattle.gate_journal.specs.ScannerView.{ScannerView}

-- The reading that a scan reports.
abbrev pub reading_of : Scan → Reading Command
reading_of scan = record { commands = scan.commands.items; tail = scan.tail; sealed = scan.sealed; place = scan.place }

-- ---- pieces

-- The sector with which the next piece begins: the gate, or the sector after it.
abbrev pub first_sector_of : Stage → ℕ → ℕ
first_sector_of AtGate gate = gate
first_sector_of AtHeader gate = gate + 1
first_sector_of (AtPayload count size) gate = gate + 1

-- The number of sectors of the next piece: one, or those of the whole payload.
abbrev pub count_of : Stage → ℕ
count_of AtGate = 1
count_of AtHeader = 1
count_of (AtPayload count size) = payload_sectors size

-- The sector with which a scanner's next piece begins.
abbrev pub first_wanted : ScannerView → ℕ
first_wanted scanner = first_sector_of scanner.stage scanner.gate

-- The number of sectors of a scanner's next piece.
abbrev pub count_wanted : ScannerView → ℕ
count_wanted scanner = count_of scanner.stage

-- The journal has these bytes in the scanner's next piece.
abbrev pub HasPiece : ScannerView → List ℕ → List ℕ → Type 0
HasPiece scanner bytes piece = part (SECTOR * first_wanted scanner) (SECTOR * count_wanted scanner) bytes ≡ piece

-- The most pieces at this gate after the next one.
abbrev pub rank_of : Stage → ℕ
rank_of AtGate = 2
rank_of AtHeader = 1
rank_of (AtPayload count size) = 0

-- A bound on the pieces that are left, which gets smaller by each piece.
abbrev pub pieces_left : ScannerView → ℕ
pieces_left scanner = 3 * (scanner.sectors - scanner.gate) + rank_of scanner.stage

-- ---- what was read

-- What is known of the journal after the gate: first that the gate is open, and then that its
-- header is one of a group in order.
abbrev pub IsKnown : Stage → Limits → List ℕ → ℕ → ℕ → Type 0
IsKnown AtGate limits bytes gate place = Unit {0}
IsKnown AtHeader limits bytes gate place = IsOpenGate (sector_at gate bytes)
IsKnown (AtPayload count size) limits bytes gate place =
    IsOpenGate (sector_at gate bytes)
    × (header_reading limits (sector_at (gate + 1) bytes) gate place (whole_sectors bytes) ≡ Ok (Group count size))

-- The journal is read up to the scanner's gate.
pub record IsReadUpTo (scanner : ScannerView) (bytes : List ℕ) (start : ℕ) : Type 0 where
  -- The journal has the scanner's number of sectors.
  pub size : whole_sectors bytes ≡ scanner.sectors
  -- There are groups up to the gate.
  pub groups : List (List Command)
  pub chain : IsGroupChain command_format (limits_of scanner.version) bytes 0 start groups scanner.gate
  -- The scanner's commands are those of the groups.
  pub commands : scanner.commands ≡ all_of groups
  -- The scanner's place is the one reached.
  pub place : scanner.place ≡ start + length (all_of groups)
  -- What is known after the gate holds.
  pub known : IsKnown scanner.stage (limits_of scanner.version) bytes scanner.gate scanner.place

-- Each journal that the scanner has read up to its gate has a reading of at least this number of
-- sectors, where it has one.
abbrev pub CountsForReading : ScannerView → ℕ → Type 0
CountsForReading scanner sectors =
    (bytes : List ℕ) (start : ℕ) (reading : Reading Command) → IsReadUpTo scanner bytes start
    → IsJournal command_format (limits_of scanner.version) bytes start reading → sectors ≤ sectors_read reading

-- Reading a journal may take memory.
pub record MayWantMemory (limits : Limits) (bytes : List ℕ) (start : ℕ) : Type 0 where
  -- There are groups up to an open gate.
  pub groups : List (List Command)
  pub gate : ℕ
  pub chain : IsGroupChain command_format limits bytes 0 start groups gate
  pub opened : IsOpenGate (sector_at gate bytes)
  -- After that gate is the header of a group in order, at the place reached and with room.
  pub count : ℕ
  pub size : ℕ
  pub header : header_reading limits (sector_at (gate + 1) bytes) gate (start + length (all_of groups)) (whole_sectors bytes) ≡ Ok (Group count size)
  -- Reading the group's payload takes memory.
  pub payload : PayloadWantsMemory limits size (part (SECTOR * (gate + 1)) (SECTOR * payload_sectors size) bytes)

-- What an error says of a whole journal.
abbrev pub MeansError : JournalError → Limits → List ℕ → ℕ → Type 0
MeansError NoMemory limits bytes start = MayWantMemory limits bytes start
MeansError BadHeader limits bytes start = IsJournalRefused command_format limits bytes start IsBadHeader
MeansError BadRecord limits bytes start = IsJournalRefused command_format limits bytes start IsBadRecord
MeansError (Gap place) limits bytes start = IsJournalRefused command_format limits bytes start (IsGap place)
MeansError PastEnd limits bytes start = IsJournalRefused command_format limits bytes start IsPastEnd

-- The result of a piece: the journal is read further, or has this reading, or is refused.
abbrev pub PieceLeadsTo : Result Progress JournalError → Limits → List ℕ → ℕ → Type 0
PieceLeadsTo (Ok (More next)) limits bytes start = IsReadUpTo next bytes start
PieceLeadsTo (Ok (Done scan)) limits bytes start = IsJournal command_format limits bytes start (reading_of scan)
PieceLeadsTo (Err e) limits bytes start = MeansError e limits bytes start

-- The scanner goes on in the same journal, with fewer pieces left.
abbrev pub HasFewerPiecesLeft : Result Progress JournalError → ScannerView → Type 0
HasFewerPiecesLeft (Ok (More next)) scanner = (next.sectors ≡ scanner.sectors) × (next.version ≡ scanner.version) × (pieces_left next < pieces_left scanner)
HasFewerPiecesLeft (Ok (Done scan)) scanner = Unit {0}
HasFewerPiecesLeft (Err e) scanner = Unit {0}

-- A scanner took a piece.
pub record TakesPiece (scanner : ScannerView) (piece : List ℕ) (result : Result Progress JournalError) : Type 0 where
  -- The result is right for each journal that the scanner has read up to its gate, and that has
  -- this piece.
  pub leads : (bytes : List ℕ) (start : ℕ) → AreBytes bytes → IsReadUpTo scanner bytes start → HasPiece scanner bytes piece
      → PieceLeadsTo result (limits_of scanner.version) bytes start
  -- Fewer pieces are left.
  pub on : HasFewerPiecesLeft result scanner
