-- Scanners as contracts see them.
use Rattle.std.specs.Prelude.{ℕ, ◌+◌, ◌≤◌, List}
use Rattle.path_db.specs.declared.command.Command.{Command}
use Rattle.store_layout.specs.Group.{last_place, payload_sectors, JournalHasRoom}
use Rattle.gate_journal.specs.declared.scanner.Stage.{Stage}
use Rattle.gate_journal.specs.declared.scanner.Stage.TheVariants.{AtGate, AtHeader, AtPayload}

-- A scanner as contracts see it.
pub record ScannerView : Type 0 where
  -- The number of sectors of the journal.
  pub sectors : ℕ
  -- The version by which the journal is read.
  pub version : ℕ
  -- The gate up to which the journal is read, in sectors from the journal's start.
  pub gate : ℕ
  -- The place reached there.
  pub place : ℕ
  -- What is read next.
  pub stage : Stage
  -- The commands up to that gate.
  pub commands : List Command

-- What is read next is in the journal, and so is all that the header describes.
abbrev pub IsInside : Stage → ℕ → ℕ → ℕ → Type 0
IsInside AtGate sectors gate place = gate + 1 ≤ sectors
IsInside AtHeader sectors gate place = gate + 2 ≤ sectors
IsInside (AtPayload count size) sectors gate place = JournalHasRoom gate (payload_sectors size) sectors × (place + count ≤ last_place)
