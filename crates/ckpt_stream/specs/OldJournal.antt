-- How the journal of a sealed half is read on.
use Rattle.std.specs.Prelude.{◌≡◌, ℕ, ◌<◌, List, Result, Ok, Err}
use Rattle.store_layout.specs.Limits.{Limits}
use Rattle.store_layout.specs.JournalReading.{journal_scan}
use Rattle.gate_journal.specs.declared.scanner.Progress.{Progress}
use Rattle.gate_journal.specs.declared.scanner.Progress.TheVariants.{More, Done}
use Rattle.gate_journal.specs.Commands.{command_format}
use Rattle.gate_journal.specs.ScannerView.{ScannerView}
use Rattle.gate_journal.specs.Scanning.{reading_of, pieces_left, IsReadUpTo}
use Rattle.store_open.specs.declared.error.OpenError.{OpenError}
use Rattle.store_open.specs.Refusals.{ScansSo}

-- A scanner goes on in the same journal, with fewer pieces left.
abbrev pub HasFewerPieces : ScannerView → Progress → Type 0
HasFewerPieces scanner (More next) = (next.sectors ≡ scanner.sectors) × (next.version ≡ scanner.version) × (pieces_left next < pieces_left scanner)
HasFewerPieces scanner (Done scan) = Unit {0}

-- The result of reading on in a journal: it is read further, or it has this reading, or it is
-- refused.
abbrev pub ScansOn : Limits → List ℕ → ℕ → Result Progress OpenError → Type 0
ScansOn limits bytes place (Ok (More next)) = IsReadUpTo next bytes place
ScansOn limits bytes place (Ok (Done scan)) = journal_scan command_format limits bytes place ≡ Ok (reading_of scan)
ScansOn limits bytes place (Err e) = ScansSo (Err e) (journal_scan command_format limits bytes place)
