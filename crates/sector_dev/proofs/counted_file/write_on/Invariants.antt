-- No try has changed the file.
use Rattle.std.proofs.Common.{◌≡◌}
use Rattle.sector_dev.proofs.counted_file.write_on.Given as goal

abbrev pub invariant-loop : goal.invariant-loop
invariant-loop g l = record {
  same : g.F.FileCalls.state l.file ≡ g.F.FileCalls.state l.fn.file;
}
