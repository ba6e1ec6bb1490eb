-- How far the rows are read.
use Rattle.std.proofs.Common.{◌≡◌, ◌+◌, ◌-◌, ◌*◌, ◌≤◌, length}
use Rattle.std.specs.Prelude.{min}
use Rattle.byte_lists.specs.Content.{part}
use Rattle.sector_dev.specs.Disk.{IsHonest, reads_of}
use Rattle.sector_dev.specs.Calls.{Keeps}
use Rattle.store_open.proofs.rows.feed_area.Given as goal

-- The device is unchanged, a piece fits the buffer, and the reader was fed the bytes up to here.
abbrev pub invariant-pieces : goal.invariant-pieces
invariant-pieces g l = record {
  keeps : Keeps (g.D.Device.disk l.fn.device) (g.D.Device.disk l.device);
  faults : (g.D.Device.disk l.device).faults ≡ (g.D.Device.disk l.fn.device).faults;
  history : IsHonest (g.D.Device.disk l.fn.device) → (g.D.Device.disk l.device).history ≡ (g.D.Device.disk l.fn.device).history;
  buffer : 512 * min l.sectors 32768 ≤ length l.buffer.items;
  from : 32 ≤ l.fed;
  to : l.fed ≤ l.end;
  read : IsHonest (g.D.Device.disk l.fn.device) → l.reader ≡ part (512 * l.fn.area + 32) (l.fed - 32) (reads_of (g.D.Device.disk l.fn.device));
}

abbrev pub decreases-pieces : goal.decreases-pieces
decreases-pieces g l = l.end - l.fed
