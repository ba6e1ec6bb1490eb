use Rattle.cli_store.proofs.Stops.{store_stays, rest_stays}
use Rattle.cli_store.proofs.upgrading.make_latest.Goals as goal

pub returns-clause-any_moment : goal.returns-clause-any_moment
returns-clause-any_moment g c = store_stays c.args.store.now c.version.ensures.sound

pub returns-clause-behind : goal.returns-clause-behind
returns-clause-behind g c = rest_stays c.args.store.now
