-- The front stays the same.
use Rattle.std.proofs.Common.{subst}
use Rattle.store_layout.specs.Geometry.{geometry_view}
use Rattle.ckpt_stream.specs.declared.half_read.HalfRead.{HalfRead}
use Rattle.ckpt_stream.specs.HalfRead.{IsWithin}
use Rattle.ckpt_stream.proofs.half_read.HalfRead.read_next.Goals as goal

pub returns-in_ok-settle_more-in-Settled-clause-within : goal.returns-in_ok-settle_more-in-Settled-clause-within
returns-in_ok-settle_more-in-Settled-clause-within g c =
    c.in_ok-settle_more-in-Settled.ensures.within (geometry_view c.args.geometry)
    (subst (λ (r : HalfRead). IsWithin (geometry_view c.args.geometry) r) c.in-Settled.is c.requires.within)
