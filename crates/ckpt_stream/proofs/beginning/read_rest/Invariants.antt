-- How far a half is read.
use Rattle.std.proofs.Common.{◌≡◌}
use Rattle.sector_dev.specs.Disk.{IsHonest, reads_of}
use Rattle.sector_dev.specs.Calls.{Keeps}
use Rattle.store_layout.specs.Geometry.{geometry_view}
use Rattle.ckpt_stream.specs.HalfRead.{IsHalfRead, IsWithin, IsReadOn, pieces_to_come}
use Rattle.ckpt_stream.proofs.beginning.read_rest.Given as goal

-- The device is unchanged, and what is read is of the half.
abbrev pub invariant-pieces : goal.invariant-pieces
invariant-pieces g l = record {
  keeps : Keeps (g.D.Device.disk l.fn.device) (g.D.Device.disk l.device);
  faults : (g.D.Device.disk l.device).faults ≡ (g.D.Device.disk l.fn.device).faults;
  history : IsHonest (g.D.Device.disk l.fn.device) → (g.D.Device.disk l.device).history ≡ (g.D.Device.disk l.fn.device).history;
  whole : IsHalfRead l.read;
  within : IsWithin (geometry_view l.fn.geometry) l.read;
  reads : IsHonest (g.D.Device.disk l.fn.device) → IsReadOn (geometry_view l.fn.geometry) l.fn.half (reads_of (g.D.Device.disk l.fn.device)) l.read;
}

abbrev pub decreases-pieces : goal.decreases-pieces
decreases-pieces g l = pieces_to_come l.read
