-- How far the journal is read.
use Rattle.std.proofs.Common.{◌≡◌, ℕ, ◌<◌, ◌≤◌}
use Rattle.sector_dev.specs.Disk.{IsHonest, reads_of}
use Rattle.sector_dev.specs.Calls.{Keeps}
use Rattle.store_layout.specs.Layout.{journal_of}
use Rattle.store_layout.specs.Geometry.{geometry_view}
use Rattle.gate_journal.specs.Scanning.{pieces_left, IsReadUpTo}
use Rattle.ckpt_stream.proofs.old_journal.scan_pieces.Given as goal

-- The device is unchanged, and the journal is read on to the scanner's gate, by the version.
abbrev pub invariant-pieces : goal.invariant-pieces
invariant-pieces g l = record {
  keeps : Keeps (g.D.Device.disk l.fn.device) (g.D.Device.disk l.device);
  faults : (g.D.Device.disk l.device).faults ≡ (g.D.Device.disk l.fn.device).faults;
  history : IsHonest (g.D.Device.disk l.fn.device) → (g.D.Device.disk l.device).history ≡ (g.D.Device.disk l.fn.device).history;
  sectors : l.scanner.sectors ≡ l.fn.geometry.journal;
  version : l.scanner.version ≡ l.fn.scanner.version;
  count : l.count < 256;
  fewer : pieces_left l.scanner ≤ pieces_left l.fn.scanner;
  read : IsHonest (g.D.Device.disk l.fn.device) → (place : ℕ)
      → IsReadUpTo l.fn.scanner (journal_of (geometry_view l.fn.geometry) l.fn.half (reads_of (g.D.Device.disk l.fn.device))) place
      → IsReadUpTo l.scanner (journal_of (geometry_view l.fn.geometry) l.fn.half (reads_of (g.D.Device.disk l.fn.device))) place;
}

abbrev pub decreases-pieces : goal.decreases-pieces
decreases-pieces g l = pieces_left l.scanner
