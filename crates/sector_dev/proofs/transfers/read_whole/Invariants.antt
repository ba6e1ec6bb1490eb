-- The first bytes are read, and no transfer has failed.
use Rattle.std.proofs.Common.{◌≡◌, ◌-◌, ◌≤◌, length, take}
use Rattle.byte_lists.specs.Content.{part}
use Rattle.sector_dev.specs.PositionedFile.{IsHonestFile, LeavesFile}
use Rattle.sector_dev.proofs.transfers.read_whole.Given as goal

abbrev pub invariant-loop-done : goal.invariant-loop-done
invariant-loop-done g l = record {
  bound : l.done ≤ length l.into;
  same : LeavesFile (g.F.PositionedFile.state l.fn.file) (g.F.PositionedFile.state l.file);
  failures : (g.F.PositionedFile.state l.file).failures ≡ (g.F.PositionedFile.state l.fn.file).failures;
  read : IsHonestFile (g.F.PositionedFile.state l.fn.file) → take l.done l.into ≡ part l.offset l.done (g.F.PositionedFile.state l.fn.file).bytes;
}

abbrev pub decreases-loop-done : goal.decreases-loop-done
decreases-loop-done g l = length l.initial.into - l.done
