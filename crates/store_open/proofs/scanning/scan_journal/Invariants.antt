-- How far the journal is read.
use Rattle.std.proofs.Common.{◌≡◌}
use Rattle.sector_dev.specs.Disk.{IsHonest, reads_of}
use Rattle.sector_dev.specs.Calls.{Keeps}
use Rattle.store_layout.specs.Layout.{journal_of}
use Rattle.gate_journal.specs.Scanning.{pieces_left, IsReadUpTo}
use Rattle.store_layout.specs.Geometry.{geometry_view}
use Rattle.store_open.proofs.scanning.scan_journal.Given as goal

-- The device is unchanged, and the journal is read up to the scanner's gate, by the version.
abbrev pub invariant-pieces : goal.invariant-pieces
invariant-pieces g l = record {
  keeps : Keeps (g.D.Device.disk l.fn.device) (g.D.Device.disk l.device);
  faults : (g.D.Device.disk l.device).faults ≡ (g.D.Device.disk l.fn.device).faults;
  history : IsHonest (g.D.Device.disk l.fn.device) → (g.D.Device.disk l.device).history ≡ (g.D.Device.disk l.fn.device).history;
  sectors : l.scanner.sectors ≡ l.fn.geometry.journal;
  version : l.scanner.version ≡ l.fn.version;
  read : IsHonest (g.D.Device.disk l.fn.device) → IsReadUpTo l.scanner (journal_of (geometry_view l.fn.geometry) l.fn.half (reads_of (g.D.Device.disk l.fn.device))) l.fn.place;
}

abbrev pub decreases-pieces : goal.decreases-pieces
decreases-pieces g l = pieces_left l.scanner
