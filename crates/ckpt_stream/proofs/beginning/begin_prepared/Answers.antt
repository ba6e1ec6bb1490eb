-- What is prepared is read on, and then merged.
use Rattle.std.proofs.Common.{subst, sym, arith}
use Rattle.sector_dev.specs.Disk.{reads_of}
use Rattle.store_layout.specs.Geometry.{geometry_view}
use Rattle.ckpt_stream.specs.declared.half_read.HalfRead.{HalfRead}
use Rattle.ckpt_stream.specs.HalfRead.{IsReadOn}
use Rattle.ckpt_stream.specs.Preparation.{PreparationView, IsPreparedFor}
use Rattle.ckpt_stream.proofs.Looks.{stays_half}
use Rattle.ckpt_stream.proofs.Begun.{merges_at_start}
use Rattle.ckpt_stream.proofs.Prepared.{prepared_on}
use Rattle.ckpt_stream.proofs.beginning.begin_prepared.Goals as goal

pub read_rest-requires-clause-reads : goal.read_rest-requires-clause-reads
read_rest-requires-clause-reads g c honest =
    let geometry = geometry_view c.args.geometry in
    let reads = reads_of (g.D.Device.disk c.args.device.now) in
    let whole = g.met.D.Device.whole c.args.device.now honest in
    subst (λ (r : HalfRead). IsReadOn geometry c.args.half reads r) (sym c.replace-read.ensures.value)
    (prepared_on geometry c.args.half reads c.requires.allowed whole.bytes (omega (arith, whole.size, c.requires.room)) (record { read = c.preparation.inside.read }) c.preparation.invariant
    (subst (λ (p : PreparationView). IsPreparedFor geometry c.args.half reads p) (sym c.preparation.view_is) (c.requires.prepared honest)))

pub returns-clause-merges : goal.returns-clause-merges
returns-clause-merges g c =
    merges_at_start (geometry_view c.args.geometry) c.args.half c.args.epoch (g.D.Device.disk c.args.device.now) (g.D.Device.disk c.read_rest.new.device) c.merge_of.result
    (stays_half _ _ _ c.in_ok-planned.ensures.looks) c.merge_of.ensures.merges
