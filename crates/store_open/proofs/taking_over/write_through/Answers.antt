-- A write, and a sync.
use Rattle.store_open.proofs.TakingOver.{torn_write, torn_sync}
use Rattle.store_open.proofs.taking_over.write_through.Goals as goal

pub returns-in_err-write-clause-any_moment : goal.returns-in_err-write-clause-any_moment
returns-in_err-write-clause-any_moment g c = torn_write _ _ _ (g.met.D.Device.whole c.args.device.now) c.requires.clean c.requires.inside _ _ c.write.ensures.write

pub returns-clause-any_moment : goal.returns-clause-any_moment
returns-clause-any_moment g c = torn_sync _ _ _ (g.met.D.Device.whole c.args.device.now) c.requires.clean c.requires.inside _ _ c.in_ok-write.ensures.write _ _ c.sync.ensures.sync
