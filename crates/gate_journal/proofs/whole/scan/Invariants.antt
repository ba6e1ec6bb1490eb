use Rattle.std.proofs.Common.{◌≡◌}
use Rattle.gate_journal.specs.Scanning.{pieces_left, IsReadUpTo}
use Rattle.gate_journal.proofs.whole.scan.Given as goal

-- The journal is read up to the scanner's gate, by the version.
abbrev pub invariant-pieces : goal.invariant-pieces
invariant-pieces l = record {
  read : IsReadUpTo l.scanner l.journal l.place;
  version : l.scanner.version ≡ l.version;
}

abbrev pub decreases-pieces : goal.decreases-pieces
decreases-pieces l = pieces_left l.scanner
