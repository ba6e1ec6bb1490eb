-- One goal, which the search finds itself.
use Rattle.std.proofs.Common.{rules}
use Rattle.store_layout.proofs.geometry.Geometry.sectors.Goals as goal

pub returns : goal.returns
returns c = search rules
