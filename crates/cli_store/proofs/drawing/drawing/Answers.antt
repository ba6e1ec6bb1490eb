use Rattle.std.proofs.Common.{string_bytes}
use Rattle.store_layout.specs.Geometry.{geometry_view}
use Rattle.cli_store.proofs.Drawn.{begins}
use Rattle.cli_store.proofs.drawing.drawing.Goals as goal

pub returns : goal.returns
returns c = begins string_bytes (geometry_view c.args.geometry) _ _ c.format.result c.in_ok-title.ensures c.format.ensures.ok
