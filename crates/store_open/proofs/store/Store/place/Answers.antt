-- One goal, which the search finds itself.
use Rattle.std.proofs.Common.{rules}
use Rattle.store_open.proofs.store.Store.place.Goals as goal

pub returns : goal.returns
returns g c = search rules
