-- Every try was interrupted, so nothing landed.
use Rattle.sector_dev.proofs.NothingLands.{lands_nothing}
use Rattle.sector_dev.proofs.counted_file.write_on.Goals as goal

pub returns-clause-lands : goal.returns-clause-lands
returns-clause-lands g c = lands_nothing c.args.offset c.args.bytes.now _ (g.F.FileCalls.state c.args.file.now) (g.F.FileCalls.state c.loop.file) c.loop.invariant.same
