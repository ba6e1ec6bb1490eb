-- How much is written, and what a stop leaves.
use Rattle.std.proofs.Common.{◌≡◌, ◌<◌, ◌*◌, ◌++◌, length, take}
use Rattle.byte_lists.specs.Sectors.{padded}
use Rattle.path_records.specs.RowRecord.{rows_encoding}
use Rattle.sector_dev.specs.Disk.{reads_of}
use Rattle.sector_dev.specs.Stretch.{Stretch}
use Rattle.store_open.specs.RowWrites.{IsWrittenUpTo}
use Rattle.store_open.specs.TakingOver.{IsTornAt}
use Rattle.store_open.proofs.laying.write_rows.Given as goal

-- The used part of the buffer, and the rows that are left, have to be written after the bytes that
-- are written.
abbrev pub invariant-loop-row : goal.invariant-loop-row
invariant-loop-row g l = record {
  rewritten : IsWrittenUpTo (g.D.Device.disk l.fn.device) (g.D.Device.disk l.device) l.fn.at l.sector (take l.used l.buffer ++ rows_encoding l.rows)
      (take l.fn.before l.fn.buffer ++ rows_encoding l.fn.rows);
  torn : Stretch (g.D.Device.disk l.fn.device) (g.D.Device.disk l.device)
      (IsTornAt (512 * l.fn.at) (length (padded (take l.fn.before l.fn.buffer ++ rows_encoding l.fn.rows))) (reads_of (g.D.Device.disk l.fn.device)));
  faults : (g.D.Device.disk l.device).faults ≡ (g.D.Device.disk l.fn.device).faults;
  used : l.used < 131072;
  buffer : length l.buffer ≡ 246272;
}
